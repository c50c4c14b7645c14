use Rattle.ntriples_text.proofs.Escapes.{Measuring}
use Rattle.ntriples_text.proofs.literal.escaped_length.Given as goal

abbrev pub invariant-loop-b : goal.invariant-loop-b
invariant-loop-b l = Measuring l.text l.n l.b-index
