-- The loop of `trial_buffers::reader::read_row`: the places before `number` are filled. Assumes nothing.
use Rattle.std.proofs.Common.{ℕ, ◌≡◌, ◌<◌, get_or}
use Rattle.trial_buffers.specs.Reading.{cursor_after, number_after, any}
use Rattle.trial_buffers.proofs.reader.read_row.Given as goal

abbrev pub invariant-loop-number : goal.invariant-loop-number
invariant-loop-number l =
    (l.end ≡ cursor_after any l.text l.fn.from l.number-index)
    × ((k : ℕ) → k < l.number-index → get_or l.row k 0 ≡ number_after any l.text l.fn.from k)
