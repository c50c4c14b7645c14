-- `trial_buffers::memory::take_numbers` meets its contract. Assumes nothing.
use Rattle.std.proofs.Common.{rules}
use Rattle.trial_buffers.proofs.memory.take_numbers.Goals as goal

pub returns : goal.returns
returns c = λ k h. let made = c.take.ensures k 0 h in search rules
