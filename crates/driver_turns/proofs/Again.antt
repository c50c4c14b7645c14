-- A later call of a sequence: the terms that it puts are held, none of refusals 2 to 6 is met that was not met at first, and what it
-- shows depends on the lengths of its buffers only. Assumes nothing.
use mathlib.Core.Path.{◌≡◌, refl, sym, ap, subst, ◌∙◌}
use mathlib.Core.Bool.{Bool, true, false, not}
use mathlib.Core.List.{List, [], ◌∷◌, ◌++◌}
use Prim.Native.Nat.{ℕ, ◌+◌, ◌-◌, ◌*◌, ◌%◌, ◌≤◌}
use native.Mathlib.Omega.{arith}
use lib.Dec.{T, ltb, eqb, ltb→lt, lt→ltb}
use lib.ListN.{length, replicate, length-append, length-replicate}
use borrow.Author.Tests.{le-ltb}
use Rattle.common.specs.Sizes.{store_width, store_limit, finding_width, finding_limit, work_width, run_terms_count}
use Rattle.common.specs.Triples.{Row, In, here, there, if, all}
use Rattle.common.specs.Rows.{flat_rows, flat_findings, filled, zeros}
use Rattle.common.proofs.Rows.{length_flat_rows}
use Rattle.meaning.specs.Run.{Outcome, store_full, findings_full, accepted}
use Rattle.meaning.proofs.Table.{all→, all←}
use Rattle.meaning_turns.specs.Turns.{Turn, going, ended}
use Rattle.dictionary_layout.specs.Terms.{Term, run_terms}
use Rattle.dictionary_layout.specs.Layout.{Dict, layout, decode}
use Rattle.dictionary_layout.specs.Dictionary.{kind_known, short, PutAnswer, full, all_put, if_zero, put_all, valid}
use Rattle.dictionary_layout.proofs.Distinct.{in_well}
use Rattle.dictionary_layout.proofs.Holding.{valid→}
use Rattle.dictionary_entries.proofs.Putting.{abstract_put_held}
use Rattle.driver_refusals.specs.Lent.{Lent, lent}
use Rattle.driver_refusals.specs.RunRefusals.{Refusal, first_refusal, run_refusals}
use Rattle.driver_refusals.proofs.Refusing.{Unmet, unmet_all, not_not}
use Rattle.driver_load.specs.Closed.{AnswerOfRun, five_zeros, zeroed, outcome_answer}
use Rattle.driver_run.proofs.PuttingAll.{Has}
use Rattle.driver_step.specs.Step.{done_by, turn_shown, takes_pass, passed_answer}
use Rattle.driver_turns.specs.Turns.{pass_past, pass_gives}
use Rattle.driver_turns.proofs.Turning.{result, past_7}

-- THE TERMS: those that are held already are put without a change
put_held : (tl al : ℕ) (us r : List Term) → ((t : Term) → In t r → T (kind_known t) × T (short t)) → ((t : Term) → In t r → Has us t)
    → put_all tl al us r ≡ all_put us
unfolding put_all
put_held tl al us [] w h = refl
put_held tl al us (t ∷ r) w h =
    let (k, s) = w t (here refl) in
    let (j, p) = h t (here refl) in
    ap (λ (a : PutAnswer). if_zero a.number (λ _. put_all tl al a.held r) (λ _. full)) (abstract_put_held tl al us t k s j p)
    ∙ put_held tl al us r (λ u i. w u (there i)) (λ u i. h u (there i))

-- so are the run's three
pub put_again : (tl al : ℕ) (us : List Term) → ((t : Term) → In t run_terms → Has us t) → put_all tl al us run_terms ≡ all_put us
unfolding run_terms
put_again tl al us h = put_held tl al us run_terms (in_well run_terms tt) h

-- A PASS OF A DICTIONARY THAT HOLDS THE RUN'S TERMS leaves it as it is, whether the store can take the pass or not
pub pass_again : (d : Dict) (b : Lent) → T (valid d) → 0 ≡ first_refusal (run_refusals d.terms b)
    → ((t : Term) → In t run_terms → Has (decode d) t) → pass_gives d b ≡ result (passed_answer b (decode d)) d
pass_again d b v e h =
    let tl = length d.table in
    let al = length d.arena in
    let ts = decode d in
    sym (past_7 d b v pass_past e (put_again tl al ts h))
    ∙ ap (result (passed_answer b ts)) (go (takes_pass b ts) ∙ (valid→ d v).1)
  where
    go : (t : Bool) → layout (length d.table) (length d.arena) (if t (λ _. decode d) (λ _. decode d))
        ≡ layout (length d.table) (length d.arena) (decode d)
    go true = refl
    go false = refl

-- THE BUFFERS keep their lengths: a store of rows that fit,
pub filled_long : (s : List ℕ) (rows : List Row) → store_width * length rows ≤ length s → length (filled s (flat_rows rows)) ≡ length s
filled_long s rows l =
    let n = length_flat_rows rows in
    length-append (flat_rows rows) (replicate (length s - length (flat_rows rows)) 0)
    ∙ (ap (λ (k : ℕ). length (flat_rows rows) + k) (length-replicate {A = ℕ} (length s - length (flat_rows rows)) 0) ∙ omega arith)

-- and zeros
pub zeros_long : (l : List ℕ) → length (zeros l) ≡ length l
zeros_long l = length-replicate {A = ℕ} (length l) 0

-- a test that is met is not unmet
yes_yes : (b : Bool) → T b → T (not (not b))
yes_yes true t = tt
yes_yes false t = absurd t

-- no refusal of a table of them is met
none_unmet : (r : List Refusal) → Unmet r → 0 ≡ first_refusal r
none_unmet [] u = refl
none_unmet (s ∷ r) u = go s.met u.0 (none_unmet r u.1)
  where
    go : (b : Bool) → T (not b) → 0 ≡ first_refusal r → 0 ≡ if b (λ _. s.number) (λ _. first_refusal r)
    go true t e = absurd t
    go false t e = e

module _ (b : Lent) (s f w : List ℕ) (hs : length s ≡ length b.store) (hf : length f ≡ length b.findings)
    (hw : length w ≡ length b.work) where
  -- what the end of a run shows, refused
  refused_again : (n : ℕ) → zeroed n (lent b.load s f w) ≡ zeroed n b
  refused_again n = λ i. record {
    number = n;
    count = 0;
    counts = five_zeros;
    store = replicate (hs i) 0;
    findings = replicate (hf i) 0;
    work = replicate (hw i) 0;
  }

  -- accepted or refused,
  outcome_again : (o : Outcome Row) → outcome_answer (lent b.load s f w) o ≡ outcome_answer b o
  outcome_again store_full = refused_again 8
  outcome_again findings_full = refused_again 9
  outcome_again (accepted rows found n k) = λ i. record {
    number = 0;
    count = n;
    counts = k;
    store = flat_rows rows ++ replicate (hs i - length (flat_rows rows)) 0;
    findings = flat_findings found ++ replicate (hf i - length (flat_findings found)) 0;
    work = replicate (hw i) 0;
  }

  -- and what a call does
  pub shown_again : (y : Turn) → turn_shown (lent b.load s f w) y ≡ turn_shown b y
  shown_again (going rows) = λ i. record {
    run = record {
      number = 0;
      count = length rows;
      counts = five_zeros;
      store = flat_rows rows ++ replicate (hs i - length (flat_rows rows)) 0;
      findings = replicate (hf i) 0;
      work = replicate (hw i) 0;
    };
    done = 0;
  }
  shown_again (ended o) = ap (λ (a : AnswerOfRun). record { run = a; done = done_by o }) (outcome_again o)

  -- refusals 2 to 6, by more terms
  pub unmet_again : {n m : ℕ} → 0 ≡ first_refusal (run_refusals n b) → n ≤ m → work_width * (m + run_terms_count) ≤ length b.work
      → 0 ≡ first_refusal (run_refusals m (lent b.load s f w))
  unmet_again {n} {m} e l room =
      let u = unmet_all (run_refusals n b) tt (sym e) in
      let v = u.1.1.1.1.1.1.1 in
      let a : T (not (not (eqb (length s % store_width) 0))) = rw hs u.1.1.0 in
      let c : T (not (ltb (store_width * store_limit) (length s))) = rw hs u.1.1.1.0 in
      let g : T (not (not (eqb (length f % finding_width) 0))) = rw hf u.1.1.1.1.0 in
      let h : T (not (ltb (finding_width * finding_limit) (length f))) = rw hf u.1.1.1.1.1.0 in
      let k : T (not (ltb (length w) (work_width * (m + run_terms_count)))) = wide (omega arith) in
      none_unmet (run_refusals m (lent b.load s f w))
      (u.0, (u.1.0, (a, (c, (g, (h, (k, (v.0, (known v.1.0, tt)))))))))
    where
      wide : work_width * (m + run_terms_count) ≤ length w → T (not (ltb (length w) (work_width * (m + run_terms_count))))
      wide h = subst (λ (c : Bool). T (not c)) (sym (le-ltb (length w) (work_width * (m + run_terms_count)) h)) tt

      known : T (not (not (all (λ i. ltb i n) b.load))) → T (not (not (all (λ i. ltb i m) b.load)))
      known h =
          yes_yes (all (λ i. ltb i m) b.load) (all← (λ i. ltb i m) b.load
          (λ i j. lt→ltb i m (omega (arith, ltb→lt i n (all→ (λ i. ltb i n) (not_not (all (λ i. ltb i n) b.load) h) j)))))
