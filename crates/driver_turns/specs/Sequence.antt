-- An opening call and the passes after it, each lent the same load and what the call before left: what they give, and what makes them
-- the run. REFERENCE 3.6. Assumes nothing.
use Rattle.std.specs.Prelude.{◌≡◌, ℕ, zero, suc, ◌+◌, ◌≤◌, ◌<◌, length}
use Rattle.common.specs.Rows.{triples}
use Rattle.meaning.specs.Containers.{Containers}
use Rattle.meaning.specs.Start.{start}
use Rattle.meaning.specs.Closure.{closure}
use Rattle.meaning.specs.Passes.{closure_rows}
use Rattle.meaning_turns.specs.Turns.{going}
use Rattle.dictionary_layout.specs.Layout.{Dict, decode}
use Rattle.driver_refusals.specs.Lent.{Lent, lent}
use Rattle.driver_load.specs.Closed.{store_room, containers}
use Rattle.driver_run.specs.Run.{run_gives}
use Rattle.driver_step.specs.Step.{AnswerOfTurn, turn_shown}
use Rattle.driver_turns.specs.Turns.{TurnResult, open_gives, pass_gives}

-- what the next call of a sequence is lent: the same load, and the buffers as the call before left them
abbrev pub next_lent : Lent → AnswerOfTurn → Lent
next_lent b a = lent b.load a.run.store a.run.findings a.run.work

abbrev pub then_pass : Lent → TurnResult → TurnResult
then_pass b r = pass_gives r.contents (next_lent b r.answer)

-- THE SEQUENCE: what the last call gives of an opening call and n passes
abbrev pub turns_give : Dict → Lent → ℕ → TurnResult
turns_give d b zero = open_gives d b
turns_give d b (suc n) = then_pass b (turns_give d b n)

-- what is known of container properties by the terms held after the opening call
abbrev pub containers_then : Dict → Lent → Containers
containers_then d b = containers (decode (open_gives d b).contents)

-- a run is done exactly if its number is 0
abbrev pub done_for : ℕ → ℕ
done_for zero = 1
done_for (suc n) = 0

-- THE CALLS ARE THE RUN: each before the last is accepted, is not done and shows the closure's rows after as many rounds; the last answers
-- and leaves what the run does, refusals 8 and 9 among it; and every one leaves the run's dictionary
pub record TurnsRun (d : Dict) (b : Lent) : Type 0 where
  -- how many passes there are: at most closure size minus starting size plus 1
  pub count : ℕ
  pub within : count + length (start (containers_then d b) (triples b.load))
      ≤ suc (length (closure (containers_then d b) (suc (store_room b)) (triples b.load)))
  pub before : (i : ℕ) → i < count → turns_give d b i ≡ record {
    answer = turn_shown b (going (closure_rows (containers_then d b) i (triples b.load)));
    contents = (run_gives d b).contents;
  }
  pub end : turns_give d b count ≡ record {
    answer = record { run = (run_gives d b).answer; done = done_for (run_gives d b).answer.number };
    contents = (run_gives d b).contents;
  }
