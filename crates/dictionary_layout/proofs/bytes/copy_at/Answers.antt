-- `dictionary_layout::bytes::copy_at` meets its contract. Assumes nothing.
use Rattle.dictionary_layout.proofs.Rows.{copy_start, copy_more, copy_end}
use Rattle.dictionary_layout.proofs.bytes.copy_at.Goals as goal

pub loop-i-init : goal.loop-i-init
loop-i-init c = copy_start c.args.dst.now c.args.at c.args.src.now

pub loop-i-preserved : goal.loop-i-preserved
loop-i-preserved c =
    copy_more c.args.dst.now c.args.at c.args.src.now c.loop-i.i c.requires c.loop-i-test.true c.loop-i.invariant

pub returns : goal.returns
returns c = copy_end c.args.dst.now c.args.at c.args.src.now c.loop-i.i c.loop-i-test.false c.loop-i.invariant
