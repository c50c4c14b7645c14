use Rattle.dictionary_valid.proofs.Checking.{ScanState}
use Rattle.dictionary_valid.proofs.scan.Given as goal

abbrev pub invariant-loop-k : goal.invariant-loop-k
invariant-loop-k l = ScanState l.table l.arena l.heads l.hash l.k l.at
