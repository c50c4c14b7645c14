use Rattle.dictionary_layout.proofs.Rows.{Copied}
use Rattle.dictionary_layout.proofs.bytes.copy_at.Given as goal

abbrev pub invariant-loop-i : goal.invariant-loop-i
invariant-loop-i l = Copied l.initial.dst l.at l.src l.dst l.i
