-- What the functions promise. Assumes nothing.
use Rattle.std.specs.Prelude.{◌≡◌, Result, List, ℕ, length, take}
use Rattle.common.specs.declared.refusal.Refusal.{Refusal}
use Rattle.common.specs.Refusals.{answer_number}
use Rattle.edge_decimal.specs.Promises.{Wrote}
use Rattle.driver_load.specs.Closed.{AnswerOfRun}
use Rattle.driver_load.specs.Values.{count_of, counts_of}
use Rattle.driver_load.specs.declared.values.RunAnswer.{RunAnswer}
use Rattle.edge_closer_run.specs.Program.{output}

-- the answer of a run, with store and findings as they are left
pub record Ran (a : AnswerOfRun) (r : Result RunAnswer Refusal) (store findings : List ℕ) : Type 0 where
  pub number : answer_number r ≡ a.number
  pub count : count_of r ≡ a.count
  pub counts : counts_of r ≡ a.counts
  pub stored : store ≡ a.store
  pub found : findings ≡ a.findings

-- what is printed for the first n bytes of a room, and that they decide as much as any input of which they are all, or as many as the
-- room holds
pub record Printed (room : List ℕ) (n : ℕ) (old new : List ℕ) (next : ℕ) : Type 0 where
  pub wrote : Wrote old 0 (output (take n room)) new next
  pub whole : (text : List ℕ) → take n room ≡ take (length room) text → output (take n room) ≡ output text
