-- `trial_replay::main` meets its contract. Assumes nothing.
use Rattle.std.proofs.Common.{ℕ, sym}
use lib.ListN.{length-replicate}
use Rattle.trial_replay.proofs.main.Goals as goal

pub slice_bounds-play_input-end : goal.slice_bounds-play_input-end
slice_bounds-play_input-end c = sym (length-replicate {A = ℕ} 1000000 0)
