-- `trial_replay::calls::read_lent` meets its contract. Assumes nothing.
use mathlib.Core.Path.{sym}
use native.Mathlib.Omega.{arith}
use lib.Seq.{length-take-le}
use Rattle.trial_replay.specs.Made.{held}
use Rattle.trial_replay.proofs.Making.{read_lent_is}
use Rattle.trial_replay.proofs.calls.read_lent.Goals as goal

pub slice_bounds-read_file-end : goal.slice_bounds-read_file-end
slice_bounds-read_file-end c = sym (length-take-le _ _ (omega arith))

pub slice_bounds-read_file-end-3 : goal.slice_bounds-read_file-end-3
slice_bounds-read_file-end-3 c = sym (length-take-le _ _ (omega arith))

pub returns : goal.returns
returns c =
    let args = c.args in
    read_lent_is (held args.memory.now args.table.now args.arena.now) args.file.now args.load.now
    c.length_in-f.ensures.0 c.length_in-l.ensures.0 c.read_file.ensures
