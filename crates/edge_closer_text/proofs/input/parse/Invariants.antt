use Rattle.std.proofs.Common.{◌-◌, length}
use Rattle.edge_closer_text.proofs.Parsing.{LinesRead}
use Rattle.edge_closer_text.proofs.input.parse.Given as goal

abbrev pub invariant-loop-end : goal.invariant-loop-end
invariant-loop-end l = LinesRead l.input l.initial.ids l.count l.ids l.end l.lines

abbrev pub decreases-loop-end : goal.decreases-loop-end
decreases-loop-end l = length l.input - l.end
