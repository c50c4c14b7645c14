-- `ntriples_lines::statement` meets its contract. Assumes nothing.
use Rattle.ntriples_lines.proofs.Lines.{statement_ended, statement_triple}
use Rattle.ntriples_lines.proofs.statement.Goals as goal

pub returns-then-ended : goal.returns-then-ended
returns-then-ended c = statement_ended c.skip_space-at.ensures c.if-ended.ensures

pub returns : goal.returns
returns c = rw (statement_triple c.skip_space-at.ensures c.if-ended.ensures) c.triple_line.ensures
