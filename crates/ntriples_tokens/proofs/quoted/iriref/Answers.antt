-- `quoted::iriref` meets its contract. Assumes nothing.
use mathlib.Core.Path.{refl, sym, ◌∙◌}
use native.Mathlib.Omega.{arith}
use Rattle.ntriples_tokens.proofs.Tokens.{parses_none, opens_none, opens_not, opens_with}
use Rattle.ntriples_tokens.proofs.Iris.{iriref_opens, iriref_bad, iriref_yes, iriref_no}
use Rattle.ntriples_tokens.proofs.quoted.iriref.Goals as goal
use Rattle.ntriples_tokens.proofs.quoted.iriref.Goals.{then-at-chars-via-then-at-chars, then-at-chars-via-else-at-chars+then-chars-at}

pub returns-then-at-chars : goal.returns-then-at-chars
returns-then-at-chars c =
    let chars = c.args.chars.now in
    let at = c.args.at in
    elim c.then-at-chars.branch [
      | then-at-chars-via-then-at-chars w ↦ parses_none (opens_none iriref_opens chars at (omega arith)) refl
      | then-at-chars-via-else-at-chars+then-chars-at w ↦
          parses_none (opens_not iriref_opens chars at (omega arith) w.if-chars-at.true) refl
    ]

pub returns-in_err-t : goal.returns-in_err-t
returns-in_err-t c =
    let opens = opens_with iriref_opens c.args.chars.now c.args.at (omega arith) c.if-chars-at.false in
    rw c.from_residual.ensures (iriref_bad opens c.in_err-t.ensures)

pub returns-then-iri : goal.returns-then-iri
returns-then-iri c =
    let opens = opens_with iriref_opens c.args.chars.now c.args.at (omega arith) c.if-chars-at.false in
    iriref_yes opens c.in_ok-t.ensures c.requires (sym c.if-iri.true ∙ c.iri.ensures)

pub returns-else-iri : goal.returns-else-iri
returns-else-iri c =
    let opens = opens_with iriref_opens c.args.chars.now c.args.at (omega arith) c.if-chars-at.false in
    iriref_no opens c.in_ok-t.ensures c.requires (sym c.if-iri.false ∙ c.iri.ensures)
