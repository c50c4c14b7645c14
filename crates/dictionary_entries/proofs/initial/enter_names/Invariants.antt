use lib.ListN.{get_or}
use Rattle.dictionary_layout.specs.Values.{contents}
use Rattle.dictionary_entries.proofs.Words.{Entering}
use Rattle.dictionary_entries.proofs.initial.enter_names.Given as goal

abbrev pub invariant-loop-id : goal.invariant-loop-id
invariant-loop-id l =
    Entering (contents l.table l.arena l.c) (get_or l.ids 0 0) l.namespace l.names l.ids l.from l.id-index
