-- `edge_c::tablestork_open` meets its contract. Assumes nothing.
use mathlib.Core.Path.{sym}
use Prim.Native.Nat.{ℕ}
use lib.ListN.{length-replicate}
use Rattle.common.specs.Sizes.{table_limit}
use Rattle.edge_c.specs.Forwarded.{longest_store, longest_findings, longest_work, load_array}
use Rattle.edge_c.proofs.Forwarding.{arrays}
use Rattle.edge_c.proofs.Passes.{done_byte}
use Rattle.edge_c.proofs.tablestork_open.Goals as goal

pub slice_bounds-turn_in-end : goal.slice_bounds-turn_in-end
slice_bounds-turn_in-end c = sym (length-replicate {A = ℕ} table_limit 0)

pub slice_bounds-turn_in-end-2 : goal.slice_bounds-turn_in-end-2
slice_bounds-turn_in-end-2 c = sym (length-replicate {A = ℕ} load_array 0)

pub slice_bounds-turn_in-end-3 : goal.slice_bounds-turn_in-end-3
slice_bounds-turn_in-end-3 c = sym (length-replicate {A = ℕ} longest_store 0)

pub slice_bounds-turn_in-end-4 : goal.slice_bounds-turn_in-end-4
slice_bounds-turn_in-end-4 c = sym (length-replicate {A = ℕ} longest_findings 0)

pub slice_bounds-turn_in-end-5 : goal.slice_bounds-turn_in-end-5
slice_bounds-turn_in-end-5 c = sym (length-replicate {A = ℕ} longest_work 0)

pub turn_in-next-requires : goal.turn_in-next-requires
turn_in-next-requires c = arrays

pub returns-in-Ok : goal.returns-in-Ok
returns-in-Ok c = rw (c.from.ensures, done_byte c.in-Ok.answer.done) (rw c.in-Ok.is at c.turn_in-next.ensures)

pub returns-in-Err : goal.returns-in-Err
returns-in-Err c = rw c.number.ensures (rw c.in-Err.is at c.turn_in-next.ensures)
