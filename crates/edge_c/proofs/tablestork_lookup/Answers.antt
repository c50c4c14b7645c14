-- `edge_c::tablestork_lookup` meets its contract. Assumes nothing.
use mathlib.Core.Path.{sym}
use Prim.Native.Nat.{ℕ}
use lib.ListN.{length-replicate}
use Rattle.common.specs.Sizes.{table_limit}
use Rattle.edge_c.proofs.Forwarding.{table_array}
use Rattle.edge_c.proofs.tablestork_lookup.Goals as goal

pub slice_bounds-lookup_in-end : goal.slice_bounds-lookup_in-end
slice_bounds-lookup_in-end c = sym (length-replicate {A = ℕ} table_limit 0)

pub lookup_in-place-requires : goal.lookup_in-place-requires
lookup_in-place-requires c = table_array

pub returns : goal.returns
returns c =
    c.lookup_in-place.ensures
