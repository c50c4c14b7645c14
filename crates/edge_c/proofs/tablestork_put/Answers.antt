-- `edge_c::tablestork_put` meets its contract. Assumes nothing.
use mathlib.Core.Path.{sym}
use Prim.Native.Nat.{ℕ}
use lib.ListN.{length-replicate}
use Rattle.common.specs.Sizes.{table_limit}
use Rattle.edge_c.proofs.Forwarding.{table_array}
use Rattle.edge_c.proofs.tablestork_put.Goals as goal

pub slice_bounds-put_in-end : goal.slice_bounds-put_in-end
slice_bounds-put_in-end c = sym (length-replicate {A = ℕ} table_limit 0)

pub put_in-requires : goal.put_in-requires
put_in-requires c = table_array
