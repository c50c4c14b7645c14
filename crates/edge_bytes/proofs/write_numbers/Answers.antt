-- `edge_bytes::write_numbers` meets its contract. Assumes nothing.
use Rattle.std.proofs.Common.{arith, rules}
use Rattle.edge_bytes.proofs.Coding.{bytes_more, bytes_done}
use Rattle.edge_bytes.proofs.write_numbers.Goals as goal

pub loop-i-preserved : goal.loop-i-preserved
loop-i-preserved c =
    bytes_more c.args.numbers.now c.loop-i.bytes _ _ c.loop-i.i _ (omega arith) (omega arith) (search rules) c.loop-i.invariant

pub returns : goal.returns
returns c = bytes_done _ _ _ c.loop-i.i (omega arith) (omega arith) c.loop-i.invariant
