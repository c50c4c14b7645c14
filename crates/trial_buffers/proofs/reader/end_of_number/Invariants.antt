-- The loop of `trial_buffers::reader::end_of_number`: no byte before `end` ends the number. Assumes nothing.
use Rattle.trial_buffers.proofs.Fields.{Seeking}
use Rattle.trial_buffers.proofs.reader.end_of_number.Given as goal

abbrev pub invariant-loop-end : goal.invariant-loop-end
invariant-loop-end l = Seeking l.text l.at l.end
