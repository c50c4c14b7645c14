-- The loop of `edge_records::findings_as_records`: the records below i are filled, the others are as they were. Assumes nothing.
use Rattle.std.proofs.Common.{◌≡◌}
use Rattle.edge_records.specs.Records.{filled}
use Rattle.edge_records.proofs.findings_as_records.Given as goal

abbrev pub invariant-loop-i : goal.invariant-loop-i
invariant-loop-i l = l.records ≡ filled l.numbers l.i l.fn.records
