use Rattle.edge_decimal.proofs.Reading.{Counted}
use Rattle.edge_decimal.proofs.number.Given as goal

abbrev pub invariant-loop-b : goal.invariant-loop-b
invariant-loop-b l = Counted l.bytes l.most l.b-index l.value
