-- `literal::last_zero` meets its contract. Assumes nothing.
use borrow.Author.Rules.{rules}
use Rattle.ntriples_text.proofs.Zeros.{by_places}
use Rattle.ntriples_text.proofs.literal.last_zero.Goals as goal

pub returns : goal.returns
returns c = by_places c.args.bytes.now c.rposition.result (search rules)
