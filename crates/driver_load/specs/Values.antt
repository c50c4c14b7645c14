-- The answer that a value of src/ stands for, with the buffers as they are left. Assumes nothing.
use Rattle.std.specs.Prelude.{Result, Ok, Err, List, ℕ}
use Rattle.common.specs.declared.refusal.Refusal.{Refusal}
use Rattle.common.specs.Refusals.{answer_number}
use Rattle.driver_load.specs.declared.values.RunAnswer.{RunAnswer}
use Rattle.driver_refusals.specs.Lent.{Lent}
use Rattle.driver_load.specs.Closed.{AnswerOfRun, five_zeros}

-- the counts of an answer; those of a refusal are zeros
abbrev pub count_of : Result RunAnswer Refusal → ℕ
count_of (Ok r) = r.count
count_of (Err e) = 0

abbrev pub counts_of : Result RunAnswer Refusal → List ℕ
counts_of (Ok r) = r.counts
counts_of (Err e) = five_zeros

-- the answer of a run that leaves the buffers b
abbrev pub answered : Result RunAnswer Refusal → Lent → AnswerOfRun
answered r b = record {
  number = answer_number r;
  count = count_of r;
  counts = counts_of r;
  store = b.store;
  findings = b.findings;
  work = b.work;
}
