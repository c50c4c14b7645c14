-- `dictionary_containers::leading_zeros` meets its contract. Assumes nothing.
use native.Mathlib.Omega.{arith}
use Rattle.dictionary_containers.proofs.DigitLoops.{zero_next, zero_none, zeros_end}
use Rattle.dictionary_containers.proofs.leading_zeros.Goals as goal

pub returns-then-digit-ne48 : goal.returns-then-digit-ne48
returns-then-digit-ne48 c =
    (omega arith, zero_none c.loop-i-test.true c.loop-i.invariant c.if-digit-ne48.true)

pub loop-i-preserved : goal.loop-i-preserved
loop-i-preserved c = zero_next c.loop-i-test.true c.loop-i.invariant c.if-digit-ne48.false

pub returns : goal.returns
returns c = (omega arith, zeros_end c.loop-i-test.false c.loop-i.invariant)
