-- `quoted::quoted` meets its contract. Assumes nothing.
use native.Mathlib.Omega.{arith}
use Rattle.ntriples_tokens.proofs.Quoting.{quoting_end, quoting_stop, quoting_bad, quoting_fits, quoting_step}
use Rattle.ntriples_tokens.proofs.quoted.quoted.Goals as goal

pub returns-then-chars-i : goal.returns-then-chars-i
returns-then-chars-i c = quoting_stop c.loop-i.invariant c.loop-i-test.true c.if-chars-i.true

pub returns-in_err-c : goal.returns-in_err-c
returns-in_err-c c =
    rw c.from_residual.ensures (quoting_bad c.loop-i.invariant c.loop-i-test.true c.if-chars-i.false c.in_err-c.ensures)

pub put_scalar-n-requires : goal.put_scalar-n-requires
put_scalar-n-requires c =
    let f = quoting_fits c.loop-i.invariant c.loop-i-test.true c.if-chars-i.false c.in_ok-c.ensures c.requires in
    (f.scalar, f.room)

pub overflow_add-i : goal.overflow_add-i
overflow_add-i c =
    let f = quoting_fits c.loop-i.invariant c.loop-i-test.true c.if-chars-i.false c.in_ok-c.ensures c.requires in
    omega arith

pub overflow_add-i-in-loop-i : goal.overflow_add-i-in-loop-i
overflow_add-i-in-loop-i c =
    let f = quoting_fits c.loop-i.invariant c.loop-i-test.true c.if-chars-i.false c.in_ok-c.ensures c.requires in
    omega arith

pub loop-i-preserved : goal.loop-i-preserved
loop-i-preserved c =
    quoting_step c.loop-i.invariant c.loop-i-test.true c.if-chars-i.false c.in_ok-c.ensures c.requires c.put_scalar-n.ensures

pub returns : goal.returns
returns c = quoting_end c.loop-i.invariant c.loop-i-test.false
