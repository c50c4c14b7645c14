-- What is left of records of which the first are lent: these as the call leaves them, then the others as they were. Assumes nothing.
use Rattle.std.specs.Prelude.{List, ◌++◌}
use Rattle.edge_records.specs.declared.FindingRecord.{FindingRecord}
use Rattle.edge_records.specs.Records.{RecordsResult, records_result}

abbrev pub filled_of : RecordsResult → List FindingRecord → RecordsResult
filled_of g others = records_result g.number (g.records ++ others)
