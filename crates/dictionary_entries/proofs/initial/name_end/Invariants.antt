use Rattle.dictionary_entries.proofs.Words.{ReadingName}
use Rattle.dictionary_entries.proofs.initial.name_end.Given as goal

abbrev pub invariant-loop-end : goal.invariant-loop-end
invariant-loop-end l = ReadingName l.names l.from l.end
