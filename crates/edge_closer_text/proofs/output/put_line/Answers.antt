-- `output::put_line` meets its contract. Assumes nothing.
use Rattle.edge_closer_text.proofs.Writing.{lined_number, lined_byte, lined_step, lined_end}
use Rattle.edge_closer_text.proofs.output.put_line.Goals as goal

pub put_number-end-requires : goal.put_number-end-requires
put_number-end-requires c =
    lined_number c.requires c.loop-i.invariant c.loop-i-test.true (c.type_inv.numbers c.loop-i.i).fits

pub bounds-out-end : goal.bounds-out-end
bounds-out-end c =
    lined_byte c.requires c.loop-i.invariant c.loop-i-test.true (c.type_inv.numbers c.loop-i.i).fits c.put_number-end.ensures

pub loop-i-preserved : goal.loop-i-preserved
loop-i-preserved c =
    lined_step c.requires c.loop-i.invariant c.loop-i-test.true (c.type_inv.numbers c.loop-i.i).fits c.put_number-end.ensures
    c.ending.ensures

pub returns : goal.returns
returns c = lined_end c.requires c.loop-i.invariant c.loop-i-test.false
