-- `label::label_end` meets its contract. Assumes nothing.
use mathlib.Core.Path.{sym, ◌∙◌}
use Rattle.ntriples_tokens.proofs.Labels.{labelling_start, labelling_step, labelling_dot, labelling_stop, labelling_end}
use Rattle.ntriples_tokens.proofs.label.label_end.Goals as goal
use Rattle.ntriples_tokens.proofs.label.label_end.Goals.{then-pn_chars, else-pn_chars+else-c}

pub loop-i-init : goal.loop-i-init
loop-i-init c = labelling_start c.args.chars.now c.args.at c.requires

pub returns-then-c : goal.returns-then-c
returns-then-c c =
    labelling_stop c.loop-i.invariant c.loop-i-test.true (sym c.pn_chars.ensures ∙ c.if-pn_chars.false) c.if-c.true

pub loop-i-preserved : goal.loop-i-preserved
loop-i-preserved c =
    let d = c.loop-i.invariant in
    let h = c.loop-i-test.true in
    elim c.if-pn_chars.branch [
      | then-pn_chars w ↦ rw w.end-is (labelling_step d h (sym c.pn_chars.ensures ∙ w.if-pn_chars.true))
      | else-pn_chars+else-c w ↦ rw w.end-is (labelling_dot d h (sym c.pn_chars.ensures ∙ w.if-pn_chars.false) w.if-c.false)
    ]

pub returns : goal.returns
returns c = labelling_end c.loop-i.invariant c.loop-i-test.false
