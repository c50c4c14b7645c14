-- `dictionary_layout::hash::digest` meets its contract. Assumes nothing.
use native.Mathlib.Omega.{arith}
use Rattle.dictionary_layout.proofs.Digests.{digest_more, digest_end}
use Rattle.dictionary_layout.proofs.hash.digest.Goals as goal

pub loop-b-preserved : goal.loop-b-preserved
loop-b-preserved c =
    let i = c.loop-b.b-index in
    digest_more i c.from-b.result c.loop-b-test.true c.from-b.ensures (omega (arith, c.type_inv.bytes i)) c.loop-b.invariant

pub returns : goal.returns
returns c = digest_end c.loop-b.b-index c.loop-b-test.false c.loop-b.invariant
