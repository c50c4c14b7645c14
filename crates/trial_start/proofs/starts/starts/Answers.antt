-- `trial_start::starts::starts` meets its contract. Assumes nothing.
use mathlib.Core.Path.{sym}
use Prim.Native.Nat.{ℕ}
use lib.ListN.{length-replicate}
use Rattle.trial_start.proofs.Saying.{said_marks}
use Rattle.trial_start.proofs.starts.starts.Goals as goal

pub slice_bounds-starts_in-end : goal.slice_bounds-starts_in-end
slice_bounds-starts_in-end c = sym (length-replicate {A = ℕ} 262208 5)

pub slice_bounds-starts_in-end-2 : goal.slice_bounds-starts_in-end-2
slice_bounds-starts_in-end-2 c = sym (length-replicate {A = ℕ} 1048577 5)

pub returns : goal.returns
returns c =
    let args = c.args in
    said_marks 262208 1048577 args.t args.a args.number args.finds c.starts_in.ensures
