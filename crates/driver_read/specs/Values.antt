-- The answers that values of the types of src/ stand for, with the buffers as they are left. Assumes nothing.
use Rattle.std.specs.Prelude.{List, ℕ}
use Rattle.dictionary_layout.specs.Values.{contents}
use Rattle.ntriples.specs.Reading.{ReadResult, read_answer}
use Rattle.driver_read.specs.declared.values.ReadNext.{ReadNext}

-- the answer of a read that leaves this table, arena and load
abbrev pub read_left : ReadNext → List ℕ → List ℕ → List ℕ → ReadResult
read_left r t a load = record { answer = read_answer r.number r.count load; contents = contents t a r.counters }
