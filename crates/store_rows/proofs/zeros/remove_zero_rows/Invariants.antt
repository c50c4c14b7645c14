use Rattle.store_rows.proofs.Removing.{Removing}
use Rattle.store_rows.proofs.zeros.remove_zero_rows.Given as goal

abbrev pub invariant-loop-i : goal.invariant-loop-i
invariant-loop-i l = Removing l.initial.store l.n l.i l.kept l.store
