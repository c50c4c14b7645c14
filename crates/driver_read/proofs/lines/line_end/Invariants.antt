use Rattle.ntriples.specs.Files.{Clear}
use Rattle.driver_read.proofs.lines.line_end.Given as goal

abbrev pub invariant-loop-end : goal.invariant-loop-end
invariant-loop-end l = Clear l.file l.at l.end
