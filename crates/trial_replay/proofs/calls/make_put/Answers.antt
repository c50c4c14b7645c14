-- `trial_replay::calls::make_put` meets its contract. Assumes nothing.
use Prim.Native.Nat.{ℕ}
use mathlib.Core.Path.{◌∙◌}
use lib.ListN.{length-replicate}
use Rattle.trial_replay.specs.Cells.{term_cells, term_room}
use Rattle.trial_replay.proofs.Making.{bytes_taken}
use Rattle.trial_replay.proofs.calls.make_put.Goals as goal

pub returns : goal.returns
returns c =
    let taken = c.take_bytes in
    let args = c.args in
    let bytes = bytes_taken args.memory.now term_cells term_room (taken.auto.row ∙ length-replicate {A = ℕ} term_room 0)
    taken.ensures in
    rw (← bytes) c.put_term.ensures
