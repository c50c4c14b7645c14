-- `label::blank_node_label` meets its contract. Assumes nothing.
use mathlib.Core.Path.{refl, sym, ◌∙◌, ap}
use mathlib.Core.Bool.{◌||◌}
use native.Mathlib.Omega.{arith}
use Rattle.std.proofs.Common.{◌≤◌, ◌+◌, ◌-◌, length}
use Rattle.ntriples.specs.Characters.{pn_chars_u, digit}
use Rattle.ntriples_tokens.proofs.Parts.{part_length, char_at}
use Rattle.ntriples_tokens.proofs.Labels.{label_short, label_other, label_colon, label_first_bad, label_is}
use Rattle.ntriples_tokens.proofs.Tokens.{parses_none, parses_part}
use Rattle.ntriples_tokens.proofs.label.blank_node_label.Goals as goal
use Rattle.ntriples_tokens.proofs.label.blank_node_label.Goals.{then-a-via-then-a, then-a-via-else-a+then-b}
use Rattle.ntriples_tokens.proofs.label.blank_node_label.Goals.{then-a-via-else-a+else-b+then-not-label_first}

pub returns-in_default : goal.returns-in_default
returns-in_default c =
    let chars = c.args.chars.now in
    let at = c.args.at in
    let l = part_length chars at (length chars) (omega arith) in
    parses_none (label_short chars at c.requires.within (omega (arith, l))) refl

pub returns-then-a : goal.returns-then-a
returns-then-a c =
    let chars = c.args.chars.now in
    let at = c.args.at in
    let long : 3 ≤ length chars - at = omega (arith, part_length chars at (length chars) (omega arith)) in
    let p = char_at chars at 0 at (omega arith) (omega arith) in
    let q = char_at chars at 1 (at + 1) (omega arith) refl in
    let r = char_at chars at 2 (at + 2) (omega arith) refl in
    elim c.then-a.branch [
      | then-a-via-then-a w ↦ parses_none (label_other chars at (omega arith) (λ e. w.if-a.true (p ∙ e))) refl
      | then-a-via-else-a+then-b w ↦
          parses_none (label_colon chars at (omega arith) (sym p ∙ w.if-a.false) (λ e. w.if-b.true (q ∙ e))) refl
      | then-a-via-else-a+else-b+then-not-label_first w ↦
          parses_none (label_first_bad chars at (omega arith) (sym p ∙ w.if-a.false) (sym q ∙ w.if-b.false)
          (sym w.if-not-label_first.true ∙ w.label_first.ensures ∙ ap (λ x. pn_chars_u x || digit x) r)) refl
    ]

pub returns : goal.returns
returns c =
    let chars = c.args.chars.now in
    let at = c.args.at in
    let long : 3 ≤ length chars - at = omega (arith, part_length chars at (length chars) (omega arith)) in
    let p = char_at chars at 0 at (omega arith) (omega arith) in
    let q = char_at chars at 1 (at + 1) (omega arith) refl in
    let r = char_at chars at 2 (at + 2) (omega arith) refl in
    let ends = c.label_end-next.ensures in
    let a = ends.after in
    let first = sym c.if-not-label_first.false ∙ c.label_first.ensures ∙ ap (λ x. pn_chars_u x || digit x) r in
    let is = label_is chars at (omega arith) (sym p ∙ c.if-a.false) (sym q ∙ c.if-b.false) first ends in
    parses_part (omega arith) (omega arith) ends.within is c.put_part-end.ensures
