-- `trial_replay::calls::make_start` meets its contract. Assumes nothing.
use Rattle.trial_replay.proofs.Making.{start_is}
use Rattle.trial_replay.proofs.calls.make_start.Goals as goal

pub returns-in-Ok : goal.returns-in-Ok
returns-in-Ok c =
    let args = c.args in
    start_is args.memory.now args.table.now args.arena.now (rw c.in-Ok.is at c.start.ensures) c.answer.ensures

pub returns-in-Err : goal.returns-in-Err
returns-in-Err c =
    let args = c.args in
    start_is args.memory.now args.table.now args.arena.now (rw c.in-Err.is at c.start.ensures)
    (rw c.number.ensures at c.answer-in-Err.ensures)
