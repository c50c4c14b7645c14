-- `trial_replay::calls::run_loaded` meets its contract. Assumes nothing.
use Rattle.std.proofs.Common.{rules}
use Prim.Native.Nat.{ℕ}
use mathlib.Core.Path.{◌∙◌}
use lib.ListN.{length-replicate}
use Rattle.trial_replay.specs.Cells.{store_cells, findings_cells, work_cells, load_cells, load_room}
use Rattle.trial_replay.specs.Made.{held}
use Rattle.trial_replay.proofs.Making.{numbers_taken, run_taken_is}
use Rattle.trial_replay.proofs.calls.run_loaded.Goals as goal

pub returns : goal.returns
returns c =
    let args = c.args in
    let m = args.memory.now in
    run_taken_is args.call (held m args.table.now args.arena.now) _ _ _
    (numbers_taken m load_cells load_room (c.take_numbers.auto.row ∙ length-replicate {A = ℕ} load_room 0)
    c.take_numbers.ensures)
    (numbers_taken m store_cells _ (search rules) c.take_numbers-2.ensures)
    (numbers_taken m findings_cells _ (search rules) c.take_numbers-3.ensures)
    (numbers_taken m work_cells _ (search rules) c.take_numbers-4.ensures)
    c.run_lent.ensures
