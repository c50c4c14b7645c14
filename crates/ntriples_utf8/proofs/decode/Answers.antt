-- `ntriples_utf8::decode` meets its contract. Assumes nothing.
use native.Mathlib.Omega.{arith}
use Prim.Native.Nat.{◌+◌}
use lib.ListN.{get_or, drop}
use Rattle.ntriples_utf8.proofs.Bytes.{first_one}
use Rattle.ntriples_utf8.proofs.Decoding.{decoding_bad, extra_few, decoding_next, decoding_end}
use Rattle.ntriples_utf8.proofs.decode.Goals as goal

pub loop-i-preserved-then-b-lt128 : goal.loop-i-preserved-then-b-lt128
loop-i-preserved-then-b-lt128 c =
    rw c.from.ensures
    (let bytes = c.args.bytes.now in
    let i = c.loop-i.i in
    decoding_next c.loop-i.invariant c.loop-i-test.true c.requires (get_or bytes i 0) 0
    (first_one (get_or bytes i 0) (drop (i + 1) bytes) c.if-b-lt128.true))

pub returns-in_err-c : goal.returns-in_err-c
returns-in_err-c c = rw c.from_residual.ensures (decoding_bad c.loop-i.invariant c.loop-i-test.true c.in_err-c.ensures)

pub overflow_add-i-in-loop-i : goal.overflow_add-i-in-loop-i
overflow_add-i-in-loop-i c =
    omega (arith, extra_few c.loop-i.invariant c.loop-i-test.true c.requires c.in_ok-c.c.value c.in_ok-c.c.extra c.in_ok-c.ensures)

pub overflow_add-i-in-loop-i-2 : goal.overflow_add-i-in-loop-i-2
overflow_add-i-in-loop-i-2 c =
    omega (arith, extra_few c.loop-i.invariant c.loop-i-test.true c.requires c.in_ok-c.c.value c.in_ok-c.c.extra c.in_ok-c.ensures)

pub loop-i-preserved : goal.loop-i-preserved
loop-i-preserved c =
    decoding_next c.loop-i.invariant c.loop-i-test.true c.requires c.in_ok-c.c.value c.in_ok-c.c.extra c.in_ok-c.ensures

pub returns : goal.returns
returns c = decoding_end c.loop-i.invariant c.loop-i-test.false
