-- `trial_replay::calls::make_lookup` meets its contract. Assumes nothing.
use Rattle.trial_replay.proofs.Making.{lookup_is}
use Rattle.trial_replay.proofs.calls.make_lookup.Goals as goal

pub returns : goal.returns
returns c =
    let args = c.args in
    lookup_is args.memory.now args.table.now args.arena.now c.counters_in-counters.ensures
    c.cell-id.ensures c.lookup-part.ensures.answers c.set_cell.ensures
    c.narrow.ensures c.set_cell-2.ensures c.give_bytes.ensures
    c.answer.ensures
