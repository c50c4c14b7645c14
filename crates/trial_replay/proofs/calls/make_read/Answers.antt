-- `trial_replay::calls::make_read` meets its contract. Assumes nothing.
use Prim.Native.Nat.{ℕ}
use mathlib.Core.Path.{◌∙◌}
use lib.ListN.{length-replicate}
use Rattle.trial_replay.specs.Cells.{term_cells, term_room, load_cells, load_room}
use Rattle.trial_replay.specs.Made.{held}
use Rattle.trial_replay.proofs.Making.{numbers_taken, bytes_taken, read_made_is}
use Rattle.trial_replay.proofs.calls.make_read.Goals as goal

pub returns : goal.returns
returns c =
    let args = c.args in
    let m = args.memory.now in
    read_made_is (held m args.table.now args.arena.now)
    (bytes_taken m term_cells term_room (c.take_bytes.auto.row ∙ length-replicate {A = ℕ} term_room 0)
    c.take_bytes.ensures)
    (numbers_taken m load_cells load_room (c.take_numbers.auto.row ∙ length-replicate {A = ℕ} load_room 0)
    c.take_numbers.ensures) c.read_lent.ensures c.give_numbers.ensures
