-- `terms::typed` meets its contract. Assumes nothing.
use mathlib.Core.Path.{refl}
use native.Mathlib.Omega.{arith}
use Rattle.ntriples_lines.proofs.Answers.{no_token, token_after}
use Rattle.ntriples_lines.proofs.ByFirst.{typed_end, typed_other, typed_iri}
use Rattle.ntriples_lines.proofs.terms.typed.Goals as goal
use Rattle.ntriples_lines.proofs.terms.typed.Goals.{then-at-chars-via-then-at-chars, then-at-chars-via-else-at-chars+then-chars-at}

pub returns-then-at-chars : goal.returns-then-at-chars
returns-then-at-chars c =
    elim c.then-at-chars.branch [
      | then-at-chars-via-then-at-chars w ↦ no_token (typed_end c.args.chars.now c.args.at (omega arith)) refl
      | then-at-chars-via-else-at-chars+then-chars-at w
          ↦ no_token (typed_other c.args.chars.now c.args.at (omega arith) w.if-chars-at.true) refl
    ]

pub returns : goal.returns
returns c =
    let s = c.skip_space-next.ensures in
    let e = typed_iri c.args.chars.now c.args.at (omega arith) c.if-chars-at.false s in
    token_after e (omega arith) (omega arith) c.iriref.ensures
