-- `trial_replay::calls::make_lent` meets its contract. Assumes nothing.
use mathlib.Core.Path.{sym}
use native.Mathlib.Omega.{arith}
use lib.Seq.{length-take-le}
use Rattle.trial_replay.specs.Made.{held}
use Rattle.trial_replay.proofs.Making.{made_lent_is}
use Rattle.trial_replay.proofs.calls.make_lent.Goals as goal

pub slice_bounds-make_on-end-2 : goal.slice_bounds-make_on-end-2
slice_bounds-make_on-end-2 c = sym (length-take-le _ _ (omega arith))

pub slice_bounds-make_on-end-4 : goal.slice_bounds-make_on-end-4
slice_bounds-make_on-end-4 c = sym (length-take-le _ _ (omega arith))

pub returns : goal.returns
returns c =
    let args = c.args in
    made_lent_is args.call (held args.memory.now args.table.now args.arena.now)
    c.length_in-t.ensures.0 c.length_in-a.ensures.0 c.make_on.ensures
