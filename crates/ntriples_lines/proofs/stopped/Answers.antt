-- `ntriples_lines::stopped` meets its contract. Assumes nothing.
use mathlib.Core.Path.{◌∙◌}
use native.Mathlib.Omega.{arith}
use Rattle.ntriples_lines.proofs.Lines.{finish_end, finish_other, finish_dot}
use Rattle.ntriples_lines.proofs.stopped.Goals as goal
use Rattle.ntriples_lines.proofs.stopped.Goals.{then-at-chars-via-then-at-chars, then-at-chars-via-else-at-chars+then-chars-at}

pub returns-then-at-chars : goal.returns-then-at-chars
returns-then-at-chars c =
    elim c.then-at-chars.branch [
      | then-at-chars-via-then-at-chars w ↦ finish_end c.args.chars.now c.args.at (omega arith)
      | then-at-chars-via-else-at-chars+then-chars-at w
          ↦ finish_other c.args.chars.now c.args.at (omega arith) w.if-chars-at.true
    ]

pub returns : goal.returns
returns c =
    let s = c.skip_space-next.ensures in
    c.ended.ensures ∙ finish_dot c.args.chars.now c.args.at (omega arith) c.if-chars-at.false s
