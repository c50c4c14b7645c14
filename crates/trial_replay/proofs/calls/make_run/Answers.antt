-- `trial_replay::calls::make_run` meets its contract. Assumes nothing.
use Prim.Native.Nat.{ℕ}
use lib.ListN.{length-replicate}
use Rattle.trial_replay.specs.Cells.{store_room, findings_room, work_room}
use Rattle.trial_replay.specs.Made.{held}
use Rattle.trial_replay.proofs.Making.{run_made_is}
use Rattle.trial_replay.proofs.calls.make_run.Goals as goal

pub returns : goal.returns
returns c =
    let args = c.args in
    run_made_is args.call (held args.memory.now args.table.now args.arena.now) (length-replicate {A = ℕ} store_room 0)
    (length-replicate {A = ℕ} findings_room 0) (length-replicate {A = ℕ} work_room 0) c.run_loaded.ensures
    c.give_numbers.ensures c.give_numbers-2.ensures
    c.give_numbers-3.ensures
