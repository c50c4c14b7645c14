-- The loop of `trial_buffers::reader::read_bytes`: the places before `byte` are filled. Assumes nothing.
use Rattle.std.proofs.Common.{ℕ, ◌≡◌, ◌<◌, get_or}
use Rattle.trial_buffers.specs.Reading.{cursor_after, number_after, is_byte, byte_of}
use Rattle.trial_buffers.proofs.reader.read_bytes.Given as goal

abbrev pub invariant-loop-byte : goal.invariant-loop-byte
invariant-loop-byte l =
    (l.end ≡ cursor_after is_byte l.text l.fn.from l.byte-index)
    × ((k : ℕ) → k < l.byte-index → get_or l.row k 0 ≡ byte_of (number_after is_byte l.text l.fn.from k))
