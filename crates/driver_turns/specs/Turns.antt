-- What an opening call and a pass give, and what they leave in the buffers that they are lent, for all inputs. REFERENCE 3.6. A run's
-- refusals 1 to 7 in order, then what the call does with the terms that the dictionary holds then. Assumes nothing.
use Rattle.std.specs.Prelude.{Bool, true, false, List, ℕ, zero, suc, length}
use Rattle.common.specs.Triples.{if}
use Rattle.dictionary_layout.specs.Terms.{Term, run_terms}
use Rattle.dictionary_layout.specs.Layout.{Dict, layout}
use Rattle.dictionary_layout.specs.Dictionary.{AllPut, full, all_put, put_all}
use Rattle.dictionary_layout.specs.Calls.{on_valid}
use Rattle.driver_refusals.specs.Lent.{Lent}
use Rattle.driver_refusals.specs.RunRefusals.{first_refusal, run_refusals}
use Rattle.driver_step.specs.Step.{AnswerOfTurn, kept, opened_answer, takes_pass, passed_answer}

-- a call's answer, and the terms held afterwards
pub record AbstractTurnResult : Type 0 where
  pub answer : AnswerOfTurn
  pub held : List Term

-- what a call does past refusal 7: lent b, with the terms held before the run's three were put, and those held since
abbrev pub Past7 : Type 0
Past7 = Lent → List Term → List Term → AbstractTurnResult

abbrev pub open_past : Past7
open_past b ts us = record { answer = opened_answer b us; held = us }

-- refusal 4 for the store leaves the dictionary as it was
abbrev pub pass_past : Past7
pass_past b ts us = record { answer = passed_answer b us; held = if (takes_pass b us) (λ _. us) (λ _. ts) }

-- refusal 7 where there is no room for the run's three terms
abbrev pub turn_all_put : Past7 → Lent → List Term → AllPut → AbstractTurnResult
turn_all_put f b ts full = record { answer = kept 7 b; held = ts }
turn_all_put f b ts (all_put us) = f b ts us

abbrev pub turn_passed : Past7 → ℕ → ℕ → ℕ → List Term → Lent → AbstractTurnResult
turn_passed f zero tl al ts b = turn_all_put f b ts (put_all tl al ts run_terms)
turn_passed f (suc n) tl al ts b = record { answer = kept (suc n) b; held = ts }

-- A CALL, computed from the lengths of table and arena and the terms held
unfoldable pub abstract_turn : Past7 → ℕ → ℕ → List Term → Lent → AbstractTurnResult
abstract_turn f tl al ts b = turn_passed f (first_refusal (run_refusals (length ts) b)) tl al ts b

-- the answer, and the contents as they are left; refusal 1 first
pub record TurnResult : Type 0 where
  pub answer : AnswerOfTurn
  pub contents : Dict

abbrev pub turn_laid : Past7 → Lent → ℕ → ℕ → List Term → TurnResult
turn_laid f b tl al ts = let r = abstract_turn f tl al ts b in record { answer = r.answer; contents = layout tl al r.held }

unfoldable pub turn_gives : Past7 → Dict → Lent → TurnResult
turn_gives f d b = on_valid d (turn_laid f b) (λ _. record { answer = kept 1 b; contents = d })

-- both by one name: a pass, or an opening call
abbrev pub past : Bool → Past7
past true = pass_past
past false = open_past

-- OPEN
abbrev pub open_gives : Dict → Lent → TurnResult
open_gives = turn_gives open_past

-- PASS
abbrev pub pass_gives : Dict → Lent → TurnResult
pass_gives = turn_gives pass_past
