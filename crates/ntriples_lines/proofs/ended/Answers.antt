-- `ntriples_lines::ended` meets its contract. Assumes nothing.
use mathlib.Core.Path.{◌∙◌}
use native.Mathlib.Omega.{arith}
use lib.ListN.{length}
use borrow.Author.Tests.{eq-eqb}
use Rattle.ntriples_lines.proofs.Lines.{ended_end, ended_char}
use Rattle.ntriples_lines.proofs.ended.Goals as goal

pub returns-then-at-chars : goal.returns-then-at-chars
returns-then-at-chars c =
    let chars = c.args.chars.now in
    eq-eqb c.args.at (length chars) c.if-at-chars.true ∙ ended_end chars c.args.at (omega arith)

pub returns-else-at-chars : goal.returns-else-at-chars
returns-else-at-chars c = ended_char c.args.chars.now c.args.at (omega arith)
