-- `edge_c::tablestork_write` meets its contract. Assumes nothing.
use mathlib.Core.Path.{sym}
use Prim.Native.Nat.{ℕ}
use lib.ListN.{length-replicate}
use Rattle.common.specs.Sizes.{table_limit}
use Rattle.edge_c.specs.Forwarded.{longest_store}
use Rattle.edge_c.proofs.Forwarding.{store_arrays}
use Rattle.edge_c.proofs.tablestork_write.Goals as goal

pub slice_bounds-write_in-end : goal.slice_bounds-write_in-end
slice_bounds-write_in-end c = sym (length-replicate {A = ℕ} table_limit 0)

pub slice_bounds-write_in-end-2 : goal.slice_bounds-write_in-end-2
slice_bounds-write_in-end-2 c = sym (length-replicate {A = ℕ} longest_store 0)

pub write_in-written-requires : goal.write_in-written-requires
write_in-written-requires c = store_arrays
