use Rattle.dictionary_layout.specs.Terms.{term}
use Rattle.dictionary_hash.proofs.Hashing.{Seeking}
use Rattle.dictionary_hash.proofs.find_entry.Given as goal

abbrev pub invariant-loop-cur : goal.invariant-loop-cur
invariant-loop-cur l = Seeking l.table l.arena l.k (term l.kind l.bytes) l.cur

abbrev pub decreases-loop-cur : goal.decreases-loop-cur
decreases-loop-cur l = l.cur
