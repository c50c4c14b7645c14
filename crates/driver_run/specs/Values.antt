-- The answers that values of the types of src/ stand for, with the buffers as they are left. Assumes nothing.
use Rattle.std.specs.Prelude.{List, [], ℕ}
use Rattle.dictionary_layout.specs.Values.{contents}
use Rattle.driver_refusals.specs.Lent.{Lent, lent}
use Rattle.driver_load.specs.Values.{answered}
use Rattle.driver_run.specs.declared.values.RunNext.{RunNext}
use Rattle.driver_run.specs.Run.{RunResult}

-- the answer of a run that leaves this table and arena, and the buffers b
abbrev pub run_leaves : RunNext → List ℕ → List ℕ → Lent → RunResult
run_leaves r t a b = record { answer = answered r.answer b; contents = contents t a r.counters }

-- the same, from the store, the findings and the list work buffer
abbrev pub run_left : RunNext → List ℕ → List ℕ → List ℕ → List ℕ → List ℕ → RunResult
run_left r t a s f w = run_leaves r t a (lent [] s f w)
