-- `terms::suffix` meets its contract. Assumes nothing.
use mathlib.Core.Path.{◌≡◌}
use mathlib.Core.Option.{some}
use native.Mathlib.Omega.{arith}
use lib.ListN.{drop}
use Rattle.ntriples.specs.Grammar.{token, xsd_string, suffix}
use Rattle.ntriples_lines.proofs.Answers.{token_after}
use Rattle.ntriples_lines.proofs.ByFirst.{suffix_typed, suffix_tag, suffix_plain, suffix_end, plain}
use Rattle.ntriples_lines.proofs.terms.suffix.Goals as goal
use Rattle.ntriples_lines.proofs.terms.suffix.Goals.{then-at-chars+else-c+else-c-2, else-at-chars}

pub returns-then-c : goal.returns-then-c
returns-then-c c =
    let e = suffix_typed c.args.chars.now c.args.at c.if-at-chars.true c.if-c.true in
    token_after e (omega arith) (omega arith) c.typed.ensures

pub returns-then-c-2 : goal.returns-then-c-2
returns-then-c-2 c =
    let e = suffix_tag c.args.chars.now c.args.at c.if-at-chars.true c.if-c-2.true in
    token_after e (omega arith) (omega arith) c.langtag.ensures

pub returns : goal.returns
unfolding xsd_string
returns c =
    let chars = c.args.chars.now in
    let at = c.args.at in
    let e : suffix (drop at chars) ≡ some (token xsd_string (drop at chars)) =
    elim c.if-at-chars.branch [
      | then-at-chars+else-c+else-c-2 w ↦ suffix_plain chars at w.if-at-chars.true w.if-c.false w.if-c-2.false
      | else-at-chars w ↦ suffix_end chars at w.if-at-chars.false
    ] in
    let p = c.requires in
    plain p.within (omega arith) e c.copy_at.ensures
