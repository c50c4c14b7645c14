use Rattle.ntriples_tokens.proofs.Labels.{Labelling}
use Rattle.ntriples_tokens.proofs.label.label_end.Given as goal

abbrev pub invariant-loop-i : goal.invariant-loop-i
invariant-loop-i l = Labelling l.chars l.at l.end l.i
