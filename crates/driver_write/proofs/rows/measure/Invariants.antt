use Prim.Native.Nat.{◌/◌}
use lib.ListN.{length}
use Rattle.common.specs.Sizes.{store_width}
use Rattle.dictionary_layout.specs.Values.{contents}
use Rattle.driver_write.proofs.Measuring.{Measures}
use Rattle.driver_write.proofs.rows.measure.Given as goal

abbrev pub invariant-loop-j : goal.invariant-loop-j
invariant-loop-j l =
    Measures (contents l.table l.arena l.counters) l.store (length l.store / store_width) l.used l.left l.j
