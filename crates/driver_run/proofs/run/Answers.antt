-- `driver_run::run` meets its contract. Assumes nothing.
use Rattle.std.specs.Prelude.{Err}
use mathlib.Core.Path.{refl, ap, ◌∙◌}
use mathlib.Core.Bool.{not}
use Rattle.common.proofs.Refusals.{numbered}
use Rattle.dictionary_layout.specs.Layout.{Dict}
use Rattle.dictionary_layout.specs.Values.{contents}
use Rattle.dictionary_run_terms.specs.Calls.{run_terms_left}
use Rattle.driver_refusals.specs.Lent.{lent}
use Rattle.driver_load.specs.Closed.{AnswerOfRun}
use Rattle.driver_run.specs.declared.values.RunNext.{RunNext}
use Rattle.driver_run.specs.Run.{unchanged}
use Rattle.driver_run.specs.Values.{run_leaves}
use Rattle.driver_run.proofs.Running.{run_broken, run_refused, run_refused_7, held_then, run_done, termed, loaded, buffer}
use Rattle.driver_run.proofs.Running.{valid_by, broken_by, same_contents}
use Rattle.driver_run.proofs.run.Goals as goal

pub returns-then-not-is_valid : goal.returns-then-not-is_valid
returns-then-not-is_valid c =
    let d = contents c.args.table.now c.args.arena.now c.args.counters in
    let b = lent c.args.load.now c.args.store.now c.args.findings.now c.args.work.now in
    ap (λ (r : RunNext). run_leaves r d.table d.arena b) c.refused_run.ensures
    ∙ run_broken d b (broken_by d (ap not c.if-not-is_valid.true) c.is_valid.ensures)

pub returns-in-Err : goal.returns-in-Err
returns-in-Err c =
    let d = contents c.args.table.now c.args.arena.now c.args.counters in
    let b = lent c.args.load.now c.args.store.now c.args.findings.now c.args.work.now in
    ap (λ (r : RunNext). run_leaves r d.table d.arena b) c.refused_run-in-Err.ensures
    ∙ run_refused d b (valid_by d (ap not c.if-not-is_valid.false) c.is_valid.ensures) c.in-Err.ensures
    (numbered c.in-Err.refusal)

pub put_run_terms-requires : goal.put_run_terms-requires
put_run_terms-requires c =
    valid_by (contents c.args.table.now c.args.arena.now c.args.counters) (ap not c.if-not-is_valid.false) c.is_valid.ensures

pub returns-in-Err-put_run_terms : goal.returns-in-Err-put_run_terms
returns-in-Err-put_run_terms c =
    let d = contents c.args.table.now c.args.arena.now c.args.counters in
    let b = lent c.args.load.now c.args.store.now c.args.findings.now c.args.work.now in
    let put = c.put_run_terms in
    let refusal = c.in-Err-put_run_terms.refusal in
    let x = run_terms_left c.args.counters (Err refusal) put.new.table put.new.arena in
    let (f, g) = run_refused_7 d b (valid_by d (ap not c.if-not-is_valid.false) c.is_valid.ensures)
    c.in_default.ensures x c.in-Err-put_run_terms.ensures (numbered refusal) in
    ap (λ (r : RunNext). run_leaves r put.new.table put.new.arena b) c.refused_run-in-Err-put_run_terms.ensures
    ∙ ap (λ (y : Dict). record { answer = unchanged x.number b; contents = y }) (same_contents f) ∙ g

pub run_load-answer-requires : goal.run_load-answer-requires
run_load-answer-requires c =
    let d = contents c.args.table.now c.args.arena.now c.args.counters in
    let b = lent c.args.load.now c.args.store.now c.args.findings.now c.args.work.now in
    let v = valid_by d (ap not c.if-not-is_valid.false) c.is_valid.ensures in
    let passed = c.in_default.ensures in
    let e = c.in-Ok.ensures in
    let H = held_then d b v passed _ e refl in
    (termed d b v passed _ e H c.in-Ok.terms refl, loaded d b v passed _ e H, buffer d b v passed _ e H)

pub returns-in-Ok : goal.returns-in-Ok
returns-in-Ok c =
    let d = contents c.args.table.now c.args.arena.now c.args.counters in
    let b = lent c.args.load.now c.args.store.now c.args.findings.now c.args.work.now in
    let v = valid_by d (ap not c.if-not-is_valid.false) c.is_valid.ensures in
    let passed = c.in_default.ensures in
    let e = c.in-Ok.ensures in
    let H = held_then d b v passed _ e refl in
    let held = contents c.put_run_terms.new.table c.put_run_terms.new.arena c.in-Ok.terms.counters in
    ap (λ (a : AnswerOfRun). record { answer = a; contents = held }) c.run_load-answer.ensures
    ∙ run_done d b v passed _ e H
