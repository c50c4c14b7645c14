-- `trial_replay::calls::run_turn` meets its contract. Assumes nothing.
use Rattle.std.proofs.Common.{rules}
use Rattle.driver_refusals.specs.Lent.{lent}
use Rattle.trial_replay.proofs.Making.{turn_is, run_mapped, done_number}
use Rattle.trial_replay.proofs.calls.run_turn.Goals as goal

pub returns : goal.returns
returns c =
    let args = c.args in
    let answer = c.turn-next.result.answer in
    let run = run_mapped answer c.map.result c.map.ensures.cases (λ x y k. search rules) in
    let done = done_number answer c.is_ok_and-done.result c.is_ok_and-done.ensures (λ x k. search rules) in
    turn_is args.memory.now args.table.now args.arena.now c.counters_in-counters.ensures args.call
    (lent args.load.now args.store.now args.findings.now args.work.now) c.turn-next.ensures
    (rw (c.from.ensures, done) at c.set_cell.ensures) (rw run at c.answer_run.ensures)
