use Rattle.dictionary_layout.specs.Values.{contents}
use Rattle.driver_write.proofs.Texts.{Lining}
use Rattle.driver_write.proofs.rows.put_lines.Given as goal

abbrev pub invariant-loop-j : goal.invariant-loop-j
invariant-loop-j l = Lining (contents l.table l.arena l.counters) l.store l.initial.page l.page l.at l.j
