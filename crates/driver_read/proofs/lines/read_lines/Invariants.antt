-- The invariant and the measure of the loop in `lines::read_lines`: what is left of the file comes to the outcome of all its lines.
use Prim.Native.Nat.{◌+◌, ◌-◌}
use lib.ListN.{length}
use Rattle.dictionary_layout.specs.Values.{contents}
use Rattle.ntriples.specs.Reading.{lines}
use Rattle.driver_read.specs.Lines.{lines_come}
use Rattle.driver_read.proofs.Outcomes.{Going}
use Rattle.driver_read.proofs.lines.read_lines.Given as goal

abbrev pub invariant-loop-at : goal.invariant-loop-at
invariant-loop-at l =
    let d = contents l.initial.table l.initial.arena l.initial.next.counters in
    Going (lines_come d l.initial.load l.initial.next.count (lines l.file)) d l.file l.initial.hash l.initial.load l.initial.chars
    l.initial.out l.table l.arena l.hash l.load l.chars l.out l.next l.at

abbrev pub decreases-loop-at : goal.decreases-loop-at
decreases-loop-at l = length l.file + 1 - l.at
