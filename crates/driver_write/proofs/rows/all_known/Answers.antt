-- `driver_write::rows::all_known` meets its contract. Assumes nothing.
use native.Mathlib.Omega.{arith}
use Rattle.common.specs.Triples.{all}
use Rattle.common.specs.Values.{triple_of}
use Rattle.dictionary_layout.proofs.Choice.{is_true, is_false, false→not_T}
use Rattle.ntriples_canonical.specs.Calls.{known}
use Rattle.driver_write.specs.Lines.{row_triples}
use Rattle.driver_write.proofs.Texts.{row_ids, all_ids}
use Rattle.driver_write.proofs.rows.all_known.Goals as goal

pub returns-then-not-known : goal.returns-then-not-known
returns-then-not-known c =
    let n = c.args.terms in
    let l = c.args.store.now in
    let x = triple_of c.row.result in
    is_false (all (known n) (row_triples l))
    (λ h. false→not_T (known n x) c.if-not-known.ensures (row_ids n l c.requires h c.loop-j-test.true c.row.ensures))

pub returns : goal.returns
returns c =
    let n = c.args.terms in
    let l = c.args.store.now in
    is_true (all (known n) (row_triples l)) (all_ids n l c.requires (λ k h. c.loop-j.invariant k (omega (arith, c.loop-j-test.false))))
