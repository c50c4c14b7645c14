-- `trial_replay::calls::put_term` meets its contract. Assumes nothing.
use mathlib.Core.Path.{sym}
use native.Mathlib.Omega.{arith}
use lib.Seq.{length-take-le}
use Rattle.trial_replay.proofs.Making.{put_is}
use Rattle.trial_replay.proofs.calls.put_term.Goals as goal

pub slice_bounds-put_by_value-end : goal.slice_bounds-put_by_value-end
slice_bounds-put_by_value-end c = sym (length-take-le _ _ (omega arith))

pub returns-in-Ok : goal.returns-in-Ok
returns-in-Ok c =
    let args = c.args in
    put_is args.memory.now args.table.now args.arena.now c.counters_in-counters.ensures args.term.now
    c.cell-kind.ensures c.length_in-n.ensures.0 (rw c.in-Ok.is at c.put_by_value.ensures)
    c.set_cell.ensures c.answer.ensures

pub returns-in-Err : goal.returns-in-Err
returns-in-Err c =
    let args = c.args in
    put_is args.memory.now args.table.now args.arena.now c.counters_in-counters.ensures args.term.now
    c.cell-kind.ensures c.length_in-n.ensures.0 (rw c.in-Err.is at c.put_by_value.ensures)
    c.set_cell-in-Err.ensures (rw c.number.ensures at c.answer-in-Err.ensures)
