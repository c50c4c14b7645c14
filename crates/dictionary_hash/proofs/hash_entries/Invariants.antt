use Rattle.dictionary_hash.specs.Hashing.{Hashed}
use Rattle.dictionary_hash.proofs.hash_entries.Given as goal

abbrev pub invariant-loop-k : goal.invariant-loop-k
invariant-loop-k l = Hashed l.table l.arena l.hash l.k
