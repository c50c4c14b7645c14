-- `label::whole_label` meets its contract. Assumes nothing.
use mathlib.Core.Path.{refl, sym, ◌∙◌}
use native.Mathlib.Omega.{arith}
use Rattle.ntriples_tokens.proofs.Labels.{whole_none, whole_is, whole_bad}
use Rattle.ntriples_tokens.proofs.label.whole_label.Goals as goal

pub returns-in-empty : goal.returns-in-empty
returns-in-empty c = whole_none c.args.chars.now (omega arith)

pub returns-then-label_first : goal.returns-then-label_first
returns-then-label_first c =
    whole_is c.args.chars.now c.in-len1-up.len_at_least (sym c.if-label_first.true ∙ c.label_first.ensures) c.label_end.ensures refl

pub returns-else-label_first : goal.returns-else-label_first
returns-else-label_first c =
    c.if-label_first.false ∙ whole_bad c.args.chars.now c.in-len1-up.len_at_least (sym c.if-label_first.false ∙ c.label_first.ensures)
