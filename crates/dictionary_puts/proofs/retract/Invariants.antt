use Rattle.dictionary_layout.specs.Values.{contents}
use Rattle.dictionary_puts.proofs.Retracting.{Left}
use Rattle.dictionary_puts.proofs.retract.Given as goal

abbrev pub invariant-loop-left : goal.invariant-loop-left
invariant-loop-left l = Left (contents l.initial.table l.initial.arena l.initial.left) l.terms l.table l.arena l.left

abbrev pub decreases-loop-left : goal.decreases-loop-left
decreases-loop-left l = l.left.terms
