-- `escape::hexes` meets its contract. Assumes nothing.
use native.Mathlib.Omega.{arith}
use Rattle.ntriples_tokens.proofs.Escapes.{reading_bad, reading_small, reading_fits, reading_next, reading_end}
use Rattle.ntriples_tokens.proofs.escape.hexes.Goals as goal

pub overflow_mul-v : goal.overflow_mul-v
overflow_mul-v c = omega (arith, reading_small c.loop-c.invariant c.loop-c-test.true c.requires)

pub returns-in_err-v : goal.returns-in_err-v
returns-in_err-v c = rw c.from_residual.ensures (reading_bad c.loop-c.invariant c.loop-c-test.true c.in_err-v.ensures)

pub overflow_add-v : goal.overflow_add-v
overflow_add-v c = omega (arith, reading_fits c.loop-c.invariant c.loop-c-test.true c.in_ok-v.ensures c.requires)

pub loop-c-preserved : goal.loop-c-preserved
loop-c-preserved c = reading_next c.loop-c.invariant c.loop-c-test.true c.in_ok-v.ensures

pub returns : goal.returns
returns c = reading_end c.loop-c.invariant c.loop-c-test.false
