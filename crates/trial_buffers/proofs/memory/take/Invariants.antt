-- The loop of `trial_buffers::memory::take`: the places below i are filled. Assumes nothing.
use Rattle.std.proofs.Common.{ℕ, ◌<◌, get_or}
use Rattle.trial_buffers.specs.Memory.{cell_from}
use Rattle.trial_buffers.proofs.memory.take.Given as goal

abbrev pub invariant-loop-i : goal.invariant-loop-i
invariant-loop-i g l = (k : ℕ) (d : _) → k < l.i → goal.F-post g l.f (get_or l.memory (cell_from l.at k) 0) (get_or l.row k d)
