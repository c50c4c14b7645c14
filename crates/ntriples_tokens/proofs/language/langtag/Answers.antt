-- `language::langtag` meets its contract. Assumes nothing.
use mathlib.Core.Path.{sym, ◌∙◌}
use native.Mathlib.Omega.{arith}
use Rattle.ntriples_tokens.proofs.Tags.{langtag_is}
use Rattle.ntriples_tokens.proofs.Tokens.{parses_none, parses_part}
use Rattle.ntriples_tokens.proofs.language.langtag.Goals as goal

pub returns-then-tag : goal.returns-then-tag
returns-then-tag c =
    let ends = c.tag_end-next.ensures in
    let wrote = c.put_part-end.ensures in
    parses_part (omega arith) ends.after ends.within
    (langtag_is c.requires ends wrote (sym c.if-tag.true ∙ c.tag.ensures)) wrote

pub returns-else-tag : goal.returns-else-tag
returns-else-tag c =
    let wrote = c.put_part-end.ensures in
    parses_none (langtag_is c.requires c.tag_end-next.ensures wrote (sym c.if-tag.false ∙ c.tag.ensures)) wrote.same
