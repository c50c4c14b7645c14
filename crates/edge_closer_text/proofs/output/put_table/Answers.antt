-- `output::put_table` meets its contract. Assumes nothing.
use Rattle.edge_closer_text.proofs.Writing.{tabled_step, tabled_end}
use Rattle.edge_closer_text.proofs.output.put_table.Goals as goal

pub loop-i-preserved : goal.loop-i-preserved
loop-i-preserved c =
    tabled_step c.requires c.loop-i.invariant c.loop-i-test.true (λ k. (c.type_inv.numbers k).fits) c.put_line-to.ensures

pub returns : goal.returns
returns c = tabled_end c.requires c.loop-i.invariant c.loop-i-test.false
