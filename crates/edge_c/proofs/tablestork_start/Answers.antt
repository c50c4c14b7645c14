-- `edge_c::tablestork_start` meets its contract. Assumes nothing.
use mathlib.Core.Path.{sym}
use Prim.Native.Nat.{ℕ}
use lib.ListN.{length-replicate}
use Rattle.common.specs.Sizes.{table_limit}
use Rattle.edge_c.proofs.Forwarding.{table_array}
use Rattle.edge_c.proofs.tablestork_start.Goals as goal

pub slice_bounds-start_in-end : goal.slice_bounds-start_in-end
slice_bounds-start_in-end c = sym (length-replicate {A = ℕ} table_limit 0)

pub start_in-requires : goal.start_in-requires
start_in-requires c = table_array
