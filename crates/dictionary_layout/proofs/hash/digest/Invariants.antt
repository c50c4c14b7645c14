use Rattle.dictionary_layout.proofs.Digests.{Digesting}
use Rattle.dictionary_layout.proofs.hash.digest.Given as goal

abbrev pub invariant-loop-b : goal.invariant-loop-b
invariant-loop-b l = Digesting l.kind l.bytes l.sum l.hash l.b-index
