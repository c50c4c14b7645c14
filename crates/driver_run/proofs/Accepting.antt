-- What an accepted run says: the closure that it reads, the terms that it puts, and that no refusal was met. Assumes nothing.
use mathlib.Core.Path.{◌≡◌, refl, sym, ap, ◌∙◌}
use mathlib.Core.Bool.{not}
use mathlib.Core.List.{List}
use Prim.Native.Nat.{ℕ, zero, suc, ◌*◌, ◌≤◌}
use native.Mathlib.Omega.{arith}
use lib.Dec.{T, ltb, eqb}
use lib.ListN.{length}
use Rattle.driver_refusals.specs.Lent.{Lent}
use Rattle.driver_load.specs.Closed.{store_room, findings_room, containers, outcome_answer, closed}
use Rattle.driver_run.specs.Run.{AbstractRunResult, run_all_put, run_passed, abstract_run}
use Rattle.driver_refusals.specs.RunRefusals.{first_refusal, run_refusals}
use Rattle.dictionary_layout.specs.Terms.{Term, run_terms}
use Rattle.dictionary_layout.specs.Dictionary.{AllPut, full, all_put, put_all}
use Rattle.common.specs.Triples.{Row, Finding, all, erase}
use Rattle.common.specs.Sizes.{store_width, store_limit}
use Rattle.common.specs.Rows.{triples}
use Rattle.meaning.specs.Run.{Outcome, store_full, findings_full, accepted, run}
use Rattle.meaning.specs.RowsRun.{erase_outcome}
use Rattle.meaning.proofs.RowsRun.{erase_run}
use Rattle.driver_refusals.proofs.Refusing.{unmet_all, not_not}
use Rattle.driver_run.proofs.Running.{not_above}

pub record AcceptedRun (tl al : ℕ) (ts : List Term) (b : Lent) (l : AbstractRunResult) : Type 0 where
  pub rows : List Row
  pub row : List Finding
  pub n : ℕ
  pub k : List ℕ
  pub terms : List Term
  pub puts_all : put_all tl al ts run_terms ≡ all_put terms
  pub held : l.held ≡ terms
  pub runs : closed b terms ≡ accepted rows row n k
  pub gives : l.answer ≡ outcome_answer b (accepted rows row n k)
  pub few : length b.store ≤ store_width * store_limit
  pub unblank : T (all (λ i. not (eqb i 0)) b.load)
  pub known : T (all (λ i. ltb i (length ts)) b.load)

-- without pass and rule it is the run of triples
pub runs_triples : (b : Lent) (ws : List Term) {R : List Row} {F : List Finding} {n : ℕ} {k : List ℕ} → closed b ws ≡ accepted R F n k
    → run (containers ws) (store_room b) (findings_room b) (triples b.load) ≡ accepted (erase R) F n k
runs_triples b ws e = sym (erase_run (containers ws) (store_room b) (findings_room b) (triples b.load)) ∙ ap erase_outcome e

pub run_accepted : (tl al : ℕ) (ts : List Term) (b : Lent) → (abstract_run tl al ts b).answer.number ≡ 0
    → AcceptedRun tl al ts b (abstract_run tl al ts b)
unfolding abstract_run
run_accepted tl al ts b e = passed (first_refusal (run_refusals (length ts) b)) refl e
  where
    result : List Term → Outcome Row
    result us = closed b us

    judged : (us : List Term) → first_refusal (run_refusals (length ts) b) ≡ 0 → put_all tl al ts run_terms ≡ all_put us →
        (o : Outcome Row)
        → result us ≡ o → (outcome_answer b o).number ≡ 0 → AcceptedRun tl al ts b (record { answer = outcome_answer b o; held = us })
    judged us q f store_full g e = absurd (omega arith)
    judged us q f findings_full g e = absurd (omega arith)
    judged us q f (accepted N F m l) g e =
        let h = unmet_all (run_refusals (length ts) b) tt q in
        record {
          rows = N;
          row = F;
          n = m;
          k = l;
          terms = us;
          puts_all = f;
          held = refl;
          runs = g;
          gives = refl;
          few = not_above (store_width * store_limit) (length b.store) h.1.1.1.0;
          unblank = not_not (all (λ i. not (eqb i 0)) b.load) h.1.1.1.1.1.1.1.0;
          known = not_not (all (λ i. ltb i (length ts)) b.load) h.1.1.1.1.1.1.1.1.0;
        }

    three : first_refusal (run_refusals (length ts) b) ≡ 0 → (w : AllPut) → put_all tl al ts run_terms ≡ w
        → (run_all_put b ts w).answer.number ≡ 0 → AcceptedRun tl al ts b (run_all_put b ts w)
    three q full f e = absurd (omega arith)
    three q (all_put us) f e = judged us q f (result us) refl e

    passed : (n : ℕ) → first_refusal (run_refusals (length ts) b) ≡ n → (run_passed n tl al ts b).answer.number ≡ 0
        → AcceptedRun tl al ts b (run_passed n tl al ts b)
    passed zero q e = three q (put_all tl al ts run_terms) refl e
    passed (suc n) q e = absurd (omega arith)
