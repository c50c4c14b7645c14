use Rattle.edge_closer_text.proofs.Writing.{Lined}
use Rattle.edge_closer_text.proofs.output.put_line.Given as goal

abbrev pub invariant-loop-i : goal.invariant-loop-i
invariant-loop-i l = Lined l.numbers l.initial.out l.at l.out l.to l.i
