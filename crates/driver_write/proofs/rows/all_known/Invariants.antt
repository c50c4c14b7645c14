use Prim.Native.Nat.{ℕ, ◌<◌}
use lib.Dec.{T}
use Rattle.store_rows.specs.Rows.{row_at}
use Rattle.ntriples_canonical.specs.Calls.{known}
use Rattle.driver_write.proofs.rows.all_known.Given as goal

abbrev pub invariant-loop-j : goal.invariant-loop-j
invariant-loop-j l = (k : ℕ) → k < l.j → T (known l.terms (row_at l.store k))
