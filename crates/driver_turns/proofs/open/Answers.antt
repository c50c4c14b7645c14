-- `driver_turns::open` meets its contract. Assumes nothing.
use Rattle.std.specs.Prelude.{Err}
use mathlib.Core.Path.{refl, ap, ◌∙◌}
use Rattle.common.proofs.Refusals.{numbered}
use Rattle.dictionary_layout.specs.Layout.{Dict}
use Rattle.dictionary_layout.specs.Values.{contents}
use Rattle.dictionary_run_terms.specs.Calls.{run_terms_left}
use Rattle.driver_refusals.specs.Lent.{lent}
use Rattle.driver_run.proofs.Running.{same_contents}
use Rattle.driver_step.specs.Step.{AnswerOfTurn, kept}
use Rattle.driver_turns.specs.declared.values.TurnNext.{TurnNext}
use Rattle.driver_turns.specs.Turns.{open_past}
use Rattle.driver_turns.specs.Values.{turn_leaves}
use Rattle.driver_turns.proofs.Turning.{turn_refused, turn_admitted, turn_termed, turn_loaded, open_done}
use Rattle.driver_turns.proofs.open.Goals as goal

pub returns-in-Err : goal.returns-in-Err
returns-in-Err c =
    let b = lent c.args.load.now c.args.store.now c.args.findings.now c.args.work.now in
    let admit = c.admit-admitted in
    let refusal = c.in-Err.refusal in
    let x = run_terms_left c.args.counters (Err refusal) admit.new.table admit.new.arena in
    let (f, g) = turn_refused (contents c.args.table.now c.args.arena.now c.args.counters) b x c.in-Err.ensures open_past
    (numbered refusal) in
    ap (λ (r : TurnNext). turn_leaves r admit.new.table admit.new.arena b) c.refused_next.ensures
    ∙ ap (λ (y : Dict). record { answer = kept x.number b; contents = y }) (same_contents f) ∙ g

pub open_load-answer-requires : goal.open_load-answer-requires
open_load-answer-requires c =
    let d = contents c.args.table.now c.args.arena.now c.args.counters in
    let b = lent c.args.load.now c.args.store.now c.args.findings.now c.args.work.now in
    let admitted = turn_admitted d b _ c.in-Ok.ensures refl in
    (turn_termed d b _ admitted c.in-Ok.terms refl, turn_loaded d b _ admitted)

pub returns-in-Ok : goal.returns-in-Ok
returns-in-Ok c =
    let d = contents c.args.table.now c.args.arena.now c.args.counters in
    let b = lent c.args.load.now c.args.store.now c.args.findings.now c.args.work.now in
    let put = contents c.admit-admitted.new.table c.admit-admitted.new.arena c.in-Ok.terms.counters in
    ap (λ (y : AnswerOfTurn). record { answer = y; contents = put }) c.open_load-answer.ensures
    ∙ open_done d b _ (turn_admitted d b _ c.in-Ok.ensures refl)
