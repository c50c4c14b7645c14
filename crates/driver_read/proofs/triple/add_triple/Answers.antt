-- `triple::add_triple` meets its contract. Assumes nothing.
use mathlib.Core.Path.{refl}
use native.Mathlib.Omega.{arith}
use Rattle.common.specs.Values.{triple_of}
use Rattle.driver_read.proofs.Loads.{full_limit, full_load, added_at}
use Rattle.driver_read.proofs.triple.add_triple.Goals as goal
use Rattle.driver_read.proofs.triple.add_triple.Goals.{then-n-ge-LOAD_LIMIT-via-then-n-ge-LOAD_LIMIT}
use Rattle.driver_read.proofs.triple.add_triple.Goals.{then-n-ge-LOAD_LIMIT-via-else-n-ge-LOAD_LIMIT+then-load-at}

pub returns-then-n-ge-LOAD_LIMIT : goal.returns-then-n-ge-LOAD_LIMIT
returns-then-n-ge-LOAD_LIMIT c =
    elim c.then-n-ge-LOAD_LIMIT.branch [
      | then-n-ge-LOAD_LIMIT-via-then-n-ge-LOAD_LIMIT w ↦ full_limit c.requires w.if-n-ge-LOAD_LIMIT.true
      | then-n-ge-LOAD_LIMIT-via-else-n-ge-LOAD_LIMIT+then-load-at w ↦ full_load c.requires w.if-load-at.true
    ]

pub returns : goal.returns
returns c =
    added_at c.requires (triple_of c.args.t) (omega (arith, c.if-load-at.false)) (omega (arith, c.if-n-ge-LOAD_LIMIT.false)) refl
