-- `trial_replay::calls::read_file` meets its contract. Assumes nothing.
use Rattle.trial_replay.proofs.Making.{read_is}
use Rattle.trial_replay.proofs.calls.read_file.Goals as goal

pub returns : goal.returns
returns c =
    let args = c.args in
    read_is args.memory.now args.table.now args.arena.now c.counters_in-counters.ensures args.file.now
    args.load.now c.read-next.ensures c.set_cell.ensures c.answer.ensures
