-- `trial_replay::calls::make` meets its contract. Assumes nothing.
use Prim.Native.Nat.{ℕ}
use mathlib.Core.Path.{◌∙◌}
use lib.ListN.{length-replicate}
use Rattle.trial_replay.specs.Cells.{table_cells, arena_cells, table_room, arena_room}
use Rattle.trial_replay.proofs.Making.{numbers_taken, bytes_taken, made_is}
use Rattle.trial_replay.proofs.calls.make.Goals as goal

pub returns : goal.returns
returns c =
    let args = c.args in
    let m = args.memory.now in
    made_is args.call m (numbers_taken m table_cells table_room
    (c.take_numbers.auto.row ∙ length-replicate {A = ℕ} table_room 0)
    c.take_numbers.ensures)
    (bytes_taken m arena_cells arena_room (c.take_bytes.auto.row ∙ length-replicate {A = ℕ} arena_room 0)
    c.take_bytes.ensures) c.make_lent.ensures c.give_numbers.ensures
    c.give_bytes.ensures
