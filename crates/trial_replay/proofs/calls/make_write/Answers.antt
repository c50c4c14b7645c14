-- `trial_replay::calls::make_write` meets its contract. Assumes nothing.
use Prim.Native.Nat.{ℕ}
use mathlib.Core.Path.{◌∙◌}
use lib.ListN.{length-replicate}
use Rattle.trial_replay.specs.Cells.{part_cells, part_room, store_cells, store_room}
use Rattle.trial_replay.specs.Made.{held}
use Rattle.trial_replay.proofs.Making.{numbers_taken, bytes_taken, write_made_is}
use Rattle.trial_replay.proofs.calls.make_write.Goals as goal

pub returns : goal.returns
returns c =
    let args = c.args in
    let m = args.memory.now in
    write_made_is (held m args.table.now args.arena.now)
    (numbers_taken m store_cells store_room (c.take_numbers.auto.row ∙ length-replicate {A = ℕ} store_room 0)
    c.take_numbers.ensures)
    (bytes_taken m part_cells part_room (c.take_bytes.auto.row ∙ length-replicate {A = ℕ} part_room 0)
    c.take_bytes.ensures) c.write_lent.ensures c.give_bytes.ensures
