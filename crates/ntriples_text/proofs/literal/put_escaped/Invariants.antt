use Rattle.ntriples_text.proofs.Escapes.{Escaping}
use Rattle.ntriples_text.proofs.literal.put_escaped.Given as goal

abbrev pub invariant-loop-b : goal.invariant-loop-b
invariant-loop-b l = Escaping l.text l.initial.page l.at l.page l.n l.b-index
