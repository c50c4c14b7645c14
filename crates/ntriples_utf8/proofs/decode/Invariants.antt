use Prim.Native.Nat.{◌-◌}
use lib.ListN.{length}
use Rattle.ntriples_utf8.proofs.Decoding.{Decoding}
use Rattle.ntriples_utf8.proofs.decode.Given as goal

abbrev pub invariant-loop-i : goal.invariant-loop-i
invariant-loop-i l = Decoding l.bytes l.initial.chars l.chars l.i l.n

abbrev pub decreases-loop-i : goal.decreases-loop-i
decreases-loop-i l = length l.bytes - l.i
