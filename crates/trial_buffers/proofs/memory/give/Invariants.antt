-- The loop of `trial_buffers::memory::give`: the first i are given. Assumes nothing.
use Rattle.std.proofs.Common.{◌≡◌, List, ℕ}
use Rattle.trial_buffers.specs.Memory.{Makes, given}
use Rattle.trial_buffers.proofs.memory.give.Given as goal

abbrev pub invariant-loop-i : goal.invariant-loop-i
invariant-loop-i g l = (numbers : List ℕ) → Makes (goal.F-post g l.f) l.row numbers → l.memory ≡ given l.fn.memory l.at numbers l.i
