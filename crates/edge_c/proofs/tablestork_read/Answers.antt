-- `edge_c::tablestork_read` meets its contract. Assumes nothing.
use mathlib.Core.Path.{sym}
use Prim.Native.Nat.{ℕ}
use lib.ListN.{length-replicate}
use Rattle.common.specs.Sizes.{table_limit}
use Rattle.edge_c.specs.Forwarded.{full_array}
use Rattle.edge_c.proofs.Forwarding.{both_arrays}
use Rattle.edge_c.proofs.tablestork_read.Goals as goal

pub slice_bounds-read_in-end : goal.slice_bounds-read_in-end
slice_bounds-read_in-end c = sym (length-replicate {A = ℕ} table_limit 0)

pub slice_bounds-read_in-end-2 : goal.slice_bounds-read_in-end-2
slice_bounds-read_in-end-2 c = sym (length-replicate {A = ℕ} full_array 0)

pub read_in-next-requires : goal.read_in-next-requires
read_in-next-requires c = both_arrays

pub returns : goal.returns
returns c = c.read_in-next.ensures
