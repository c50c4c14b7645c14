-- `literal::put_escaped` meets its contract. Assumes nothing.
use Rattle.ntriples_text.proofs.Escapes.{escaping_room, escaping_step, escaping_end}
use Rattle.ntriples_text.proofs.literal.put_escaped.Goals as goal

pub put_escape-n-requires : goal.put_escape-n-requires
put_escape-n-requires c = escaping_room c.loop-b.invariant c.requires c.loop-b-test.true

pub loop-b-preserved : goal.loop-b-preserved
loop-b-preserved c = escaping_step c.loop-b.invariant c.loop-b-test.true c.put_escape-n.ensures

pub returns : goal.returns
returns c = escaping_end c.loop-b.invariant c.loop-b-test.false
