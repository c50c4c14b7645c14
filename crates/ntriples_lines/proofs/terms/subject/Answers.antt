-- `terms::subject` meets its contract. Assumes nothing.
use mathlib.Core.Path.{refl}
use native.Mathlib.Omega.{arith}
use Rattle.ntriples_lines.proofs.Answers.{no_term, term_as}
use Rattle.ntriples_lines.proofs.ByFirst.{subject_end, subject_named, subject_blank}
use Rattle.ntriples_lines.proofs.terms.subject.Goals as goal

pub returns-then-at-chars : goal.returns-then-at-chars
returns-then-at-chars c = no_term (subject_end c.args.chars.now c.args.at (omega arith)) refl

pub returns-then-chars-at : goal.returns-then-chars-at
returns-then-chars-at c = term_as (subject_named c.args.chars.now c.args.at (omega arith) c.if-chars-at.true) (omega arith) c.named.ensures

pub returns : goal.returns
returns c =
    term_as (subject_blank c.args.chars.now c.args.at (omega arith) c.if-chars-at.false) (omega arith) c.blank_node.ensures
