-- `driver_turns::pass` meets its contract. Assumes nothing.
use Rattle.std.specs.Prelude.{Err}
use mathlib.Core.Path.{refl, sym, ap, ◌∙◌}
use Rattle.std.proofs.Common.{eqb-true}
use borrow.Author.Tests.{eqb-false}
use Rattle.common.proofs.Refusals.{numbered}
use Rattle.dictionary_layout.specs.Layout.{Dict}
use Rattle.dictionary_layout.specs.Values.{contents}
use Rattle.dictionary_run_terms.specs.Calls.{run_terms_left}
use Rattle.driver_refusals.specs.Lent.{lent}
use Rattle.driver_run.proofs.Running.{same_contents}
use Rattle.driver_step.specs.Step.{AnswerOfTurn, kept}
use Rattle.driver_turns.specs.declared.values.TurnNext.{TurnNext}
use Rattle.driver_turns.specs.Turns.{pass_past}
use Rattle.driver_turns.specs.Values.{turn_leaves}
use Rattle.driver_turns.proofs.Turning.{turn_refused, turn_admitted, turn_termed, turn_loaded, turn_buffer, turn_whole}
use Rattle.driver_turns.proofs.Turning.{retractable, pass_made, pass_refused, part_number}
use Rattle.driver_turns.proofs.pass.Goals as goal

pub returns-in-Err : goal.returns-in-Err
returns-in-Err c =
    let b = lent c.args.load.now c.args.store.now c.args.findings.now c.args.work.now in
    let admit = c.admit-admitted in
    let refusal = c.in-Err.refusal in
    let x = run_terms_left c.args.counters (Err refusal) admit.new.table admit.new.arena in
    let (f, g) = turn_refused (contents c.args.table.now c.args.arena.now c.args.counters) b x c.in-Err.ensures pass_past
    (numbered refusal) in
    ap (λ (r : TurnNext). turn_leaves r admit.new.table admit.new.arena b) c.refused_next.ensures
    ∙ ap (λ (y : Dict). record { answer = kept x.number b; contents = y }) (same_contents f) ∙ g

pub pass_load-answer-requires : goal.pass_load-answer-requires
pass_load-answer-requires c =
    let d = contents c.args.table.now c.args.arena.now c.args.counters in
    let b = lent c.args.load.now c.args.store.now c.args.findings.now c.args.work.now in
    let admitted = turn_admitted d b _ c.in-Ok.ensures refl in (
      turn_termed d b _ admitted c.in-Ok.terms refl,
      turn_loaded d b _ admitted,
      turn_buffer d b _ admitted,
      turn_whole d b _ admitted,
    )

pub retract-left-requires : goal.retract-left-requires
retract-left-requires c =
    let d = contents c.args.table.now c.args.arena.now c.args.counters in
    let b = lent c.args.load.now c.args.store.now c.args.findings.now c.args.work.now in
    retractable d b _ (turn_admitted d b _ c.in-Ok.ensures refl)

pub returns-then-is_untaken : goal.returns-then-is_untaken
returns-then-is_untaken c =
    let d = contents c.args.table.now c.args.arena.now c.args.counters in
    let b = lent c.args.load.now c.args.store.now c.args.findings.now c.args.work.now in
    let left = contents c.retract-left.new.table c.retract-left.new.arena c.retract-left.result in
    let answer = c.pass_load-answer in
    let four = eqb-true _ _ (sym c.is_untaken.ensures ∙ c.if-is_untaken.true) in
    ap (λ (y : AnswerOfTurn). record { answer = y; contents = left }) answer.ensures
    ∙ pass_refused d b _ (turn_admitted d b _ c.in-Ok.ensures refl)
    (sym (ap (λ (y : AnswerOfTurn). y.run.number) answer.ensures) ∙ sym (part_number answer.result) ∙ four) c.retract-left.ensures

pub returns-else-is_untaken : goal.returns-else-is_untaken
returns-else-is_untaken c =
    let d = contents c.args.table.now c.args.arena.now c.args.counters in
    let b = lent c.args.load.now c.args.store.now c.args.findings.now c.args.work.now in
    let put = contents c.admit-admitted.new.table c.admit-admitted.new.arena c.in-Ok.terms.counters in
    let answer = c.pass_load-answer in
    ap (λ (y : AnswerOfTurn). record { answer = y; contents = put }) answer.ensures
    ∙ pass_made d b _ (turn_admitted d b _ c.in-Ok.ensures refl)
    (λ n. eqb-false _ _ (sym c.is_untaken.ensures ∙ c.if-is_untaken.false)
    (part_number answer.result ∙ ap (λ (y : AnswerOfTurn). y.run.number) answer.ensures ∙ n))
