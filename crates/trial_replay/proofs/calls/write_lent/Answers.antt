-- `trial_replay::calls::write_lent` meets its contract. Assumes nothing.
use mathlib.Core.Path.{sym}
use native.Mathlib.Omega.{arith}
use lib.Seq.{length-take-le}
use Rattle.trial_replay.specs.Made.{held}
use Rattle.trial_replay.proofs.Making.{write_lent_is}
use Rattle.trial_replay.proofs.calls.write_lent.Goals as goal

pub slice_bounds-write_text-end : goal.slice_bounds-write_text-end
slice_bounds-write_text-end c = sym (length-take-le _ _ (omega arith))

pub slice_bounds-write_text-end-3 : goal.slice_bounds-write_text-end-3
slice_bounds-write_text-end-3 c = sym (length-take-le _ _ (omega arith))

pub returns : goal.returns
returns c =
    let args = c.args in
    write_lent_is (held args.memory.now args.table.now args.arena.now) args.store.now args.page.now
    c.length_in-s.ensures.0 c.length_in-p.ensures.0 c.write_text.ensures
