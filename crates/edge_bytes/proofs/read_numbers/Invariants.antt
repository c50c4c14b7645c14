-- The loop of `edge_bytes::read_numbers`: the numbers below i are read. Assumes nothing.
use Rattle.std.proofs.Common.{◌≡◌, ◌*◌, ◌++◌, length, take, drop}
use Rattle.edge_bytes.specs.Bytes.{numbers_of}
use Rattle.edge_bytes.proofs.read_numbers.Given as goal

abbrev pub invariant-loop-i : goal.invariant-loop-i
invariant-loop-i l =
    (length l.numbers ≡ length l.fn.numbers) × (take l.i l.numbers ++ numbers_of (drop (4 * l.i) l.bytes) ≡ numbers_of l.bytes)
