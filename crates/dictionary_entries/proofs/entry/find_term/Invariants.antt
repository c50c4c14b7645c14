use Rattle.dictionary_layout.specs.Terms.{term}
use Rattle.dictionary_layout.specs.Layout.{decode}
use Rattle.dictionary_layout.specs.Values.{contents}
use Rattle.dictionary_layout.proofs.Walking.{Walked}
use Rattle.dictionary_entries.proofs.entry.find_term.Given as goal

abbrev pub invariant-loop-id : goal.invariant-loop-id
invariant-loop-id l = Walked (decode (contents l.table l.arena l.fn.counters)) (term l.kind l.bytes) l.id

abbrev pub decreases-loop-id : goal.decreases-loop-id
decreases-loop-id l = l.id
