-- `output::put_bytes` meets its contract. Assumes nothing.
use Rattle.std.proofs.Common.{◌+◌, ◌-◌, length, arith}
use Rattle.edge_closer_text.proofs.Writing.{wrote_bytes}
use Rattle.edge_closer_text.proofs.output.put_bytes.Goals as goal

pub returns : goal.returns
returns c =
    let bs = c.args.bytes.now in
    let at = c.args.at in
    rw c.copy_from_slice.ensures.after (wrote_bytes c.args.out.now at (at + length bs - at) bs (omega arith) c.requires)
