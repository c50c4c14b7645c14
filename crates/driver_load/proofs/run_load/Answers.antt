-- `driver_load::run_load` meets its contract. Assumes nothing.
use mathlib.Core.Path.{sym, ◌∙◌}
use Prim.Native.Nat.{ℕ}
use lib.ListN.{length-replicate}
use Rattle.store_rows.specs.Layout.{index_length}
use Rattle.driver_refusals.specs.Lent.{lent}
use Rattle.common.proofs.Filling.{clear_all}
use Rattle.driver_load.proofs.Answering.{arrays_unused, zeros_again, outcome_answered, outcome_refused}
use Rattle.driver_load.proofs.run_load.Goals as goal

pub slice_bounds-answer_load-end-2 : goal.slice_bounds-answer_load-end-2
slice_bounds-answer_load-end-2 c = sym (length-replicate {A = ℕ} index_length 0)

pub answer_load-answer-requires : goal.answer_load-answer-requires
answer_load-answer-requires c =
    (c.requires.0, c.requires.1, c.requires.2, arrays_unused)

pub returns-then-is_err : goal.returns-then-is_err
returns-then-is_err c =
    let b = (lent c.args.load.now c.args.store.now c.args.findings.now c.args.work.now) in
    let store = c.answer_load-answer.new.store in
    let findings = c.answer_load-answer.new.findings in
    let work = c.answer_load-answer.new.work in
    outcome_refused b (lent b.load c.clear_from.new.buf c.clear_from-then-is_err.new.buf c.clear.new.work) _
    c.answer_load-answer.ensures
    (sym c.is_err.ensures.value ∙ c.if-is_err.true)
    (zeros_again store b.store (clear_all store c.clear_from.ensures) c.answer_load-answer.auto.store)
    (zeros_again findings b.findings (clear_all findings c.clear_from-then-is_err.ensures) c.answer_load-answer.auto.findings)
    (zeros_again work b.work c.clear.ensures c.answer_load-answer.auto.work)

pub returns-else-is_err : goal.returns-else-is_err
returns-else-is_err c =
    let b = (lent c.args.load.now c.args.store.now c.args.findings.now c.args.work.now) in
    outcome_answered b (lent b.load c.answer_load-answer.new.store c.answer_load-answer.new.findings
    c.clear.new.work) _ c.answer_load-answer.ensures
    (sym c.is_err.ensures.value ∙ c.if-is_err.false) (zeros_again c.answer_load-answer.new.work b.work c.clear.ensures
    c.answer_load-answer.auto.work)
