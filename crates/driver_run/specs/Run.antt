-- What a run gives, and what it leaves in the buffers that it is lent, for all inputs. REFERENCE 3.4. Refusals 1 to 9 in order; 1 to 7
-- change no buffer, and after 8 or 9 the dictionary holds the three terms that a run puts, REFERENCE 1.6 and 1.7. Assumes nothing.
use Rattle.std.specs.Prelude.{List, ℕ, zero, suc, length}
use Rattle.dictionary_layout.specs.Terms.{Term, run_terms}
use Rattle.dictionary_layout.specs.Layout.{Dict, layout}
use Rattle.dictionary_layout.specs.Dictionary.{AllPut, full, all_put, put_all}
use Rattle.dictionary_layout.specs.Calls.{on_valid}
use Rattle.driver_refusals.specs.Lent.{Lent}
use Rattle.driver_load.specs.Closed.{AnswerOfRun, five_zeros, closed_answer}
use Rattle.driver_refusals.specs.RunRefusals.{first_refusal, run_refusals}

-- refused, with no buffer changed
abbrev pub unchanged : ℕ → Lent → AnswerOfRun
unchanged n b = record { number = n; count = 0; counts = five_zeros; store = b.store; findings = b.findings; work = b.work }

-- A RUN, computed from the lengths of table and arena and the terms held: its answer, and the terms held afterwards
pub record AbstractRunResult : Type 0 where
  pub answer : AnswerOfRun
  pub held : List Term

-- refusal 7 where there is no room for the run's three terms
abbrev pub run_all_put : Lent → List Term → AllPut → AbstractRunResult
run_all_put b ts full = record { answer = unchanged 7 b; held = ts }
run_all_put b ts (all_put us) = record { answer = closed_answer b us; held = us }

abbrev pub run_passed : ℕ → ℕ → ℕ → List Term → Lent → AbstractRunResult
run_passed zero tl al ts b = run_all_put b ts (put_all tl al ts run_terms)
run_passed (suc n) tl al ts b = record { answer = unchanged (suc n) b; held = ts }

unfoldable pub abstract_run : ℕ → ℕ → List Term → Lent → AbstractRunResult
abstract_run tl al ts b = run_passed (first_refusal (run_refusals (length ts) b)) tl al ts b

-- RUN: the answer, and the contents as they are left; refusal 1 first
pub record RunResult : Type 0 where
  pub answer : AnswerOfRun
  pub contents : Dict

abbrev pub run_laid : Lent → ℕ → ℕ → List Term → RunResult
run_laid b tl al ts = let r = abstract_run tl al ts b in record { answer = r.answer; contents = layout tl al r.held }

unfoldable pub run_gives : Dict → Lent → RunResult
run_gives d b = on_valid d (run_laid b) (λ _. record { answer = unchanged 1 b; contents = d })
