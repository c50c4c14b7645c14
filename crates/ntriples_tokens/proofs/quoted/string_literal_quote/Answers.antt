-- `quoted::string_literal_quote` meets its contract. Assumes nothing.
use mathlib.Core.Path.{refl}
use native.Mathlib.Omega.{arith}
use Rattle.ntriples_tokens.proofs.Tokens.{parses_none, parses_from, string_opens, opens_none, opens_not, opens_with}
use Rattle.ntriples_tokens.proofs.quoted.string_literal_quote.Goals as goal
use Rattle.ntriples_tokens.proofs.quoted.string_literal_quote.Goals.{then-at-chars-via-then-at-chars}
use Rattle.ntriples_tokens.proofs.quoted.string_literal_quote.Goals.{then-at-chars-via-else-at-chars+then-chars-at}

pub returns-then-at-chars : goal.returns-then-at-chars
returns-then-at-chars c =
    let chars = c.args.chars.now in
    let at = c.args.at in
    elim c.then-at-chars.branch [
      | then-at-chars-via-then-at-chars w ↦ parses_none (opens_none string_opens chars at (omega arith)) refl
      | then-at-chars-via-else-at-chars+then-chars-at w ↦
          parses_none (opens_not string_opens chars at (omega arith) w.if-chars-at.true) refl
    ]

pub returns : goal.returns
returns c =
    parses_from (omega arith) (opens_with string_opens c.args.chars.now c.args.at (omega arith) c.if-chars-at.false) c.quoted.ensures
