use Rattle.common.proofs.Filling.{Filled}
use Rattle.dictionary_layout.specs.Layout.{decode}
use Rattle.dictionary_layout.specs.Dictionary.{term_of}
use Rattle.dictionary_layout.specs.Values.{contents}
use Rattle.ntriples_text.specs.Promises.{text_length}
use Rattle.driver_write.proofs.terms.term_lengths.Given as goal

abbrev pub invariant-loop-i : goal.invariant-loop-i
invariant-loop-i l = Filled (λ k. text_length (term_of (decode (contents l.table l.arena l.counters)) k)) l.initial.lengths l.lengths l.i
