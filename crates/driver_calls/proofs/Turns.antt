-- An opening call and a pass, by cases of what they leave, each law once for both: refused, with no buffer and no term changed and by no
-- refusal 1; or a turn shown, with the run's three terms held. Assumes nothing.
use mathlib.Core.Path.{◌≡◌, refl}
use mathlib.Core.Logic.{◌≢◌}
use mathlib.Core.Bool.{Bool, true, false, ◌&&◌}
use mathlib.Core.List.{List, [], ◌∷◌}
use Prim.Native.Nat.{ℕ, zero, suc, ◌<◌}
use native.Mathlib.Omega.{arith}
use lib.Dec.{T, ltb, ltb→lt}
use lib.ListN.{length}
use Rattle.common.specs.Triples.{if}
use Rattle.common.specs.Rows.{triples}
use Rattle.common.proofs.Lists.{and→}
use Rattle.meaning.specs.Run.{store_full, findings_full, accepted}
use Rattle.meaning_turns.specs.Turns.{Turn, going, ended, opening}
use Rattle.dictionary_layout.specs.Terms.{Term, run_terms}
use Rattle.dictionary_layout.specs.Dictionary.{AllPut, full, all_put, put_all}
use Rattle.driver_refusals.specs.Lent.{Lent}
use Rattle.driver_refusals.specs.RunRefusals.{Refusal, first_refusal, run_refusals}
use Rattle.driver_load.specs.Closed.{store_room, containers}
use Rattle.driver_step.specs.Step.{kept, turn_shown, takes_pass, turned}
use Rattle.driver_turns.specs.Turns.{AbstractTurnResult, Past7, open_past, pass_past, turn_all_put, turn_passed, abstract_turn}

-- the refusals after refusal 1
abbrev past_1 : List Refusal → Bool
past_1 [] = true
past_1 (s ∷ r) = ltb 1 s.number && past_1 r

first_refusal_not_1 : (r : List Refusal) → T (past_1 r) → first_refusal r ≢ 1
first_refusal_not_1 [] h e = omega arith
first_refusal_not_1 (s ∷ r) h e =
    let (a, k) = and→ (ltb 1 s.number) (past_1 r) h in go s.met (ltb→lt 1 s.number a) e (first_refusal_not_1 r k)
  where
    go : (b : Bool) → 1 < s.number → (if b (λ _. s.number) (λ _. first_refusal r)) ≡ 1 → (first_refusal r ≢ 1) → ⊥
    go true a e k = omega arith
    go false a e k = k e

-- a run meets only such ones before it puts its terms
pub run_refusal_not_1 : (n : ℕ) (b : Lent) → first_refusal (run_refusals n b) ≢ 1
run_refusal_not_1 n b = first_refusal_not_1 (run_refusals n b) tt

-- what is left by a refusal, and where a turn is shown
abbrev pub left_refused : Lent → List Term → ℕ → AbstractTurnResult
left_refused b ts n = record { answer = kept n b; held = ts }

abbrev pub left_shown : Lent → List Term → Turn → AbstractTurnResult
left_shown b us t = record { answer = turn_shown b t; held = us }

-- past refusal 7 a call refuses with 4 or shows a turn: a claim of both is one of what it leaves
abbrev pub Shows : Past7 → Type 1
Shows f =
    (b : Lent) (ts us : List Term) (P : AbstractTurnResult → Type 0)
    → P (left_refused b ts 4) → ((t : Turn) → P (left_shown b us t)) → P (f b ts us)

pub open_shows : Shows open_past
open_shows b ts us P r s = s (opening (containers us) (store_room b) (triples b.load))

pub pass_shows : Shows pass_past
pass_shows b ts us P r s = go (takes_pass b us)
  where
    go : (y : Bool)
        → P (record { answer = if y (λ _. turn_shown b (turned b us)) (λ _. kept 4 b); held = if y (λ _. us) (λ _. ts) })
    go true = s (turned b us)
    go false = r

-- BY CASES: a claim of what every refusal but 1 leaves, and of every turn shown once the run's terms are put
pub turn_cases : (f : Past7) → Shows f → (tl al : ℕ) (ts : List Term) (b : Lent) (P : AbstractTurnResult → Type 0)
    → ((n : ℕ) → n ≢ 1 → P (left_refused b ts n))
    → ((us : List Term) (t : Turn) → put_all tl al ts run_terms ≡ all_put us → P (left_shown b us t))
    → P (abstract_turn f tl al ts b)
unfolding abstract_turn
turn_cases f w tl al ts b P r s = passed (first_refusal (run_refusals (length ts) b)) (run_refusal_not_1 (length ts) b)
  where
    three : (a : AllPut) → put_all tl al ts run_terms ≡ a → P (turn_all_put f b ts a)
    three full e = r 7 (omega arith)
    three (all_put us) e = w b ts us P (r 4 (omega arith)) (λ t. s us t e)

    passed : (n : ℕ) → n ≢ 1 → P (turn_passed f n tl al ts b)
    passed zero h = three (put_all tl al ts run_terms) refl
    passed (suc n) h = r (suc n) h

module _ (f : Past7) (w : Shows f) (tl al : ℕ) (ts : List Term) (b : Lent) where
  -- THE CALL keeps a claim of the terms held that putting the run's three keeps
  pub turn_keeps : (P : List Term → Type 0) → ((us : List Term) → put_all tl al ts run_terms ≡ all_put us → P us) → P ts
      → P (abstract_turn f tl al ts b).held
  turn_keeps P k h = turn_cases f w tl al ts b (λ r. P r.held) (λ n e. h) (λ us t e. k us e)

  -- and never answers 1
  pub turn_not_1 : (abstract_turn f tl al ts b).answer.run.number ≢ 1
  turn_not_1 = turn_cases f w tl al ts b (λ r. r.answer.run.number ≢ 1) (λ n e. e) (λ us t e. shown t)
    where
      shown : (t : Turn) → (turn_shown b t).run.number ≢ 1
      shown (going rows) = omega arith
      shown (ended store_full) = omega arith
      shown (ended findings_full) = omega arith
      shown (ended (accepted N F n k)) = omega arith
