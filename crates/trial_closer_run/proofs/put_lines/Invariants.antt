use Rattle.std.proofs.Common.{◌-◌, ◌+◌, ◌*◌, ◌≤◌}
use Rattle.edge_closer_text.specs.Sizes.{three_width}
use Rattle.trial_closer_run.proofs.put_lines.Given as goal

abbrev pub invariant-loop-s : goal.invariant-loop-s
invariant-loop-s l = l.to ≤ l.at + three_width * (l.s - l.first)
