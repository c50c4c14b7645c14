-- `terms::blank_node` meets its contract. Assumes nothing.
use Rattle.ntriples.specs.Grammar.{blank_node}
use Rattle.ntriples_lines.proofs.Answers.{token_found}
use Rattle.ntriples_lines.proofs.terms.blank_node.Goals as goal

pub returns : goal.returns
unfolding blank_node
returns c = token_found 2 c.blank_node_label.ensures c.as_term.ensures
