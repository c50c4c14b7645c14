-- `dictionary_run_terms::count_new` meets its contract. Assumes nothing.
use mathlib.Core.Path.{ap}
use Rattle.dictionary_layout.specs.declared.values.Digest.{Digest}
use Rattle.dictionary_layout.specs.Terms.{term}
use Rattle.dictionary_layout.specs.Layout.{decode}
use Rattle.dictionary_layout.specs.Values.{contents}
use Rattle.dictionary_run_terms.proofs.Counting.{count_held, count_more}
use Rattle.dictionary_run_terms.proofs.count_new.Goals as goal

pub digest-chain-requires : goal.digest-chain-requires
digest-chain-requires c =
    c.requires.short

pub find_term-requires : goal.find_term-requires
find_term-requires c =
    record { unbroken = c.requires.unbroken; chained = ap (λ (x : Digest). x.chain) c.digest-chain.ensures }

pub returns-in-Some : goal.returns-in-Some
returns-in-Some c =
    let ts = decode (contents c.args.table.now c.args.arena.now c.args.counters) in
    count_held ts (term 1 c.args.iri.now) c.args.sum c.in-Some.ensures

pub returns-in-None : goal.returns-in-None
returns-in-None c =
    let ts = decode (contents c.args.table.now c.args.arena.now c.args.counters) in
    count_more ts (term 1 c.args.iri.now) c.args.sum c.in-None.ensures
