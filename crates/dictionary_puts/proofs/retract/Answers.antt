-- `dictionary_puts::retract` meets its contract. Assumes nothing.
use native.Mathlib.Omega.{arith}
use Rattle.dictionary_puts.proofs.Retracting.{left_all, left_valid, left_long, left_end, left_less, left_more}
use Rattle.dictionary_puts.proofs.retract.Goals as goal

pub loop-left-init : goal.loop-left-init
loop-left-init c =
    left_all c.requires.0 c.requires.1 c.requires.2

pub retract_last-left-requires : goal.retract_last-left-requires
retract_last-left-requires c =
    let inv = c.loop-left.invariant in
    (left_valid inv, omega (arith, inv.some, c.loop-left-test.true))

pub loop-left-smaller : goal.loop-left-smaller
loop-left-smaller c =
    left_less c.loop-left.invariant c.loop-left-test.true c.retract_last-left.ensures

pub loop-left-preserved : goal.loop-left-preserved
loop-left-preserved c =
    left_more c.loop-left.invariant c.loop-left-test.true c.retract_last-left.ensures

pub shape_of-table : goal.shape_of-table
shape_of-table c =
    (left_long c.loop-left.invariant).0

pub shape_of-arena : goal.shape_of-arena
shape_of-arena c =
    (left_long c.loop-left.invariant).1

pub returns : goal.returns
returns c =
    left_end c.loop-left.invariant c.loop-left-test.false
