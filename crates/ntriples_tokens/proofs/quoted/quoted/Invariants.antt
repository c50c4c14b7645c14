use Prim.Native.Nat.{◌-◌}
use lib.ListN.{length}
use Rattle.ntriples_tokens.proofs.Quoting.{Quoting}
use Rattle.ntriples_tokens.proofs.quoted.quoted.Given as goal

abbrev pub invariant-loop-i : goal.invariant-loop-i
invariant-loop-i l = Quoting l.iri l.chars l.at l.initial.out l.used l.stop l.out l.i l.n

abbrev pub decreases-loop-i : goal.decreases-loop-i
decreases-loop-i l = length l.chars - l.i
