-- The loop of `edge_bytes::write_numbers`: the numbers below i are written. Assumes nothing.
use Rattle.std.proofs.Common.{◌≡◌, ◌*◌, ◌++◌, take, drop}
use Rattle.edge_bytes.specs.Bytes.{bytes_of}
use Rattle.edge_bytes.proofs.write_numbers.Given as goal

abbrev pub invariant-loop-i : goal.invariant-loop-i
invariant-loop-i l = take (4 * l.i) l.bytes ++ bytes_of (drop l.i l.numbers) ≡ bytes_of l.numbers
