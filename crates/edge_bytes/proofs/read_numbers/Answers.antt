-- `edge_bytes::read_numbers` meets its contract. Assumes nothing.
use Rattle.std.proofs.Common.{arith, refl}
use Rattle.std.proofs.Math.ListN.{length-set}
use Rattle.edge_bytes.proofs.Coding.{numbers_more, numbers_done}
use Rattle.edge_bytes.proofs.read_numbers.Goals as goal

pub loop-i-preserved : goal.loop-i-preserved
loop-i-preserved c = (
  simp length-set (omega arith),
  numbers_more c.args.bytes.now c.loop-i.numbers _ _ c.loop-i.i _ (omega arith) (omega arith) refl
      (rw c.as_chunks.ensures.front at c.from_le_bytes.ensures) c.loop-i.invariant.1,
)

pub returns : goal.returns
returns c = λ h. numbers_done _ _ _ c.loop-i.i (omega arith) (omega arith) c.loop-i.invariant.1
