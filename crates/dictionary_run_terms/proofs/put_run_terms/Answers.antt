-- `dictionary_run_terms::put_run_terms` meets its contract. Assumes nothing.
use mathlib.Core.Path.{sym, ◌∙◌, ap}
use Rattle.dictionary_layout.specs.Calls.{PutResult}
use Rattle.dictionary_layout.specs.Values.{contents}
use Rattle.dictionary_index.proofs.Accepting.{put_accepted, put_next}
use Rattle.dictionary_run_terms.proofs.Running.{run_first, run_second, run_third, run_valid, run_valid_2, run_accepted}
use Rattle.dictionary_run_terms.proofs.Running.{run_all_put, run_full, run_results}
use Rattle.dictionary_run_terms.proofs.put_run_terms.Goals as goal

pub returns-then-not-run_terms_fit : goal.returns-then-not-run_terms_fit
returns-then-not-run_terms_fit c =
    let d = contents c.args.table.now c.args.arena.now c.args.counters in
    run_full d c.requires (sym c.if-not-run_terms_fit.true ∙ c.run_terms_fit.ensures)

pub unwrap-p-requires : goal.unwrap-p-requires
unwrap-p-requires c =
    let d = contents c.args.table.now c.args.arena.now c.args.counters in
    let fit = sym c.if-not-run_terms_fit.false ∙ c.run_terms_fit.ensures in
    let put = c.put_valid in
    put_accepted c.args.counters put.result put.new.table put.new.arena (put.ensures ∙ run_first d c.requires fit)
    (run_accepted d c.requires fit).0

pub put_valid-requires-2 : goal.put_valid-requires-2
put_valid-requires-2 c =
    let d = contents c.args.table.now c.args.arena.now c.args.counters in
    let fit = sym c.if-not-run_terms_fit.false ∙ c.run_terms_fit.ensures in
    let put = c.put_valid in
    let p = put_next c.args.counters put.new.table put.new.arena c.unwrap-p.ensures
    (put.ensures ∙ run_first d c.requires fit) in
    run_valid d c.requires fit (ap (λ (x : PutResult). x.contents) p)

pub unwrap-q-requires : goal.unwrap-q-requires
unwrap-q-requires c =
    let d = contents c.args.table.now c.args.arena.now c.args.counters in
    let fit = sym c.if-not-run_terms_fit.false ∙ c.run_terms_fit.ensures in
    let put = c.put_valid in
    let p = put_next c.args.counters put.new.table put.new.arena c.unwrap-p.ensures
    (put.ensures ∙ run_first d c.requires fit) in
    let put₂ = c.put_valid-2 in
    put_accepted c.unwrap-p.result.counters put₂.result put₂.new.table put₂.new.arena
    (put₂.ensures ∙ run_second d c.requires fit (ap (λ (x : PutResult). x.contents) p)) (run_accepted d c.requires fit).1

pub put_valid-requires-3 : goal.put_valid-requires-3
put_valid-requires-3 c =
    let d = contents c.args.table.now c.args.arena.now c.args.counters in
    let fit = sym c.if-not-run_terms_fit.false ∙ c.run_terms_fit.ensures in
    let put = c.put_valid in
    let p = put_next c.args.counters put.new.table put.new.arena c.unwrap-p.ensures
    (put.ensures ∙ run_first d c.requires fit) in
    let put₂ = c.put_valid-2 in
    let q = put_next c.unwrap-p.result.counters put₂.new.table put₂.new.arena c.unwrap-q.ensures
    (put₂.ensures ∙ run_second d c.requires fit (ap (λ (x : PutResult). x.contents) p)) in
    run_valid_2 d c.requires fit (ap (λ (x : PutResult). x.contents) q)

pub unwrap-r-requires : goal.unwrap-r-requires
unwrap-r-requires c =
    let d = contents c.args.table.now c.args.arena.now c.args.counters in
    let fit = sym c.if-not-run_terms_fit.false ∙ c.run_terms_fit.ensures in
    let put = c.put_valid in
    let p = put_next c.args.counters put.new.table put.new.arena c.unwrap-p.ensures
    (put.ensures ∙ run_first d c.requires fit) in
    let put₂ = c.put_valid-2 in
    let q = put_next c.unwrap-p.result.counters put₂.new.table put₂.new.arena c.unwrap-q.ensures
    (put₂.ensures ∙ run_second d c.requires fit (ap (λ (x : PutResult). x.contents) p)) in
    let put₃ = c.put_valid-3 in
    put_accepted c.unwrap-q.result.counters put₃.result put₃.new.table put₃.new.arena
    (put₃.ensures ∙ run_third d c.requires fit (ap (λ (x : PutResult). x.contents) q)) (run_accepted d c.requires fit).2

pub returns : goal.returns
returns c =
    let d = contents c.args.table.now c.args.arena.now c.args.counters in
    let fit = sym c.if-not-run_terms_fit.false ∙ c.run_terms_fit.ensures in
    let put = c.put_valid in
    let p = put_next c.args.counters put.new.table put.new.arena c.unwrap-p.ensures
    (put.ensures ∙ run_first d c.requires fit) in
    let put₂ = c.put_valid-2 in
    let q = put_next c.unwrap-p.result.counters put₂.new.table put₂.new.arena c.unwrap-q.ensures
    (put₂.ensures ∙ run_second d c.requires fit (ap (λ (x : PutResult). x.contents) p)) in
    let put₃ = c.put_valid-3 in
    let r = put_next c.unwrap-q.result.counters put₃.new.table put₃.new.arena c.unwrap-r.ensures
    (put₃.ensures ∙ run_third d c.requires fit (ap (λ (x : PutResult). x.contents) q)) in
    run_results p q r ∙ run_all_put d c.requires fit
