use Rattle.edge_closer_text.proofs.Writing.{Tabled}
use Rattle.edge_closer_text.proofs.output.put_table.Given as goal

abbrev pub invariant-loop-i : goal.invariant-loop-i
invariant-loop-i l = Tabled l.numbers l.width l.printed l.rows l.initial.out l.at l.out l.to l.i
