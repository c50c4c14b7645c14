-- `terms::named` meets its contract. Assumes nothing.
use Rattle.ntriples.specs.Grammar.{named}
use Rattle.ntriples_lines.proofs.Answers.{token_found}
use Rattle.ntriples_lines.proofs.terms.named.Goals as goal

pub returns : goal.returns
unfolding named
returns c = token_found 1 c.iriref.ensures c.as_term.ensures
