-- Dictionary and list work buffer are large enough: of a run's refusals the program prints 5, 6, 8 and 9 alone. REFERENCE 10.3. Assumes
-- nothing.
use mathlib.Core.Path.{◌≡◌, refl, sym, ap, subst, ◌∙◌}
use mathlib.Core.Logic.{◌⊎◌, inl, inr}
use mathlib.Core.Bool.{Bool, true, false, not}
use mathlib.Core.List.{List, [], ◌∷◌}
use Prim.Native.Nat.{ℕ, zero, suc, ◌+◌, ◌*◌, ◌%◌, ◌≤◌, ◌<◌}
use native.Mathlib.Omega.{arith}
use lib.Dec.{T, ltb, eqb, ltb→lt}
use lib.ListN.{length, replicate}
use Rattle.common.specs.Triples.{Row, all}
use Rattle.meaning.specs.Run.{Outcome, store_full, findings_full, accepted}
use Rattle.dictionary_layout.specs.Terms.{Term, start_terms, run_terms}
use Rattle.dictionary_layout.specs.Layout.{Dict, size, layout}
use Rattle.dictionary_layout.specs.Dictionary.{AllPut, full, all_put, put_all}
use Rattle.dictionary_layout.proofs.Reachable.{on_layout}
use Rattle.driver_refusals.specs.Lent.{Lent, lent}
use Rattle.driver_load.specs.Closed.{outcome_answer, closed}
use Rattle.driver_run.specs.Run.{RunResult, unchanged, run_all_put, run_passed, abstract_run, run_laid, run_gives}
use Rattle.driver_refusals.specs.RunRefusals.{refusal_if, first_refusal, run_refusals}
use Rattle.edge_closer_text.specs.Input.{input, parse}
use Rattle.edge_closer_text.proofs.Longest.{count_small, input_threes}
use Rattle.common.specs.Sizes.{load_width, load_limit, store_width, store_limit, finding_width, finding_limit, work_width}
use Rattle.common.specs.Sizes.{run_terms_count}
use Rattle.edge_closer_text.specs.Sizes.{count_limit, ids_length, store_length, findings_length, name_width}
use Rattle.edge_closer_run.specs.Sizes.{table_length, arena_length, work_length}
use Rattle.edge_closer_run.specs.Program.{dictionary, ran}
use Rattle.dictionary_layout.proofs.Vocabulary.{start_sizes}
use Rattle.edge_closer_run.proofs.Room.{zeros_length, put_all_room, run_well, run_size, all_named}

-- what a refusal or an accepted run of the program has as its number
abbrev pub Possible : ℕ → Type 0
Possible k = (k ≡ 0) ⊎ ((k ≡ 5) ⊎ ((k ≡ 6) ⊎ ((k ≡ 8) ⊎ (k ≡ 9))))

-- what is found before the closure begins
abbrev Early : ℕ → Type 0
Early k = (k ≡ 0) ⊎ ((k ≡ 5) ⊎ (k ≡ 6))

-- a number that is not below another
not_below : {a b : ℕ} → b ≤ a → ltb a b ≡ false
not_below {a} {b} h = go (ltb a b) (ltb→lt a b)
  where
    go : (c : Bool) → (T c → a < b) → c ≡ false
    go true f = absurd (omega (arith, f tt))
    go false f = refl

-- A RUN in the program's buffers
module _ (n : ℕ) (b : Lent) (whole : length b.load % load_width ≡ 0) (short_load : length b.load ≤ ids_length)
    (store : length b.store ≡ store_length) (findings : length b.findings ≡ findings_length)
    (work : work_width * (n + run_terms_count) ≤ length b.work) where
  -- of the refusals of a run those of ids that are 0 or unknown are left
  abbrev last_refusals : ℕ
  last_refusals =
      first_refusal (refusal_if 5 (not (all (λ i. not (eqb i 0)) b.load)) ∷ refusal_if 6 (not (all (λ i. ltb i n) b.load)) ∷ [])

  -- the others do not occur
  refusals : first_refusal (run_refusals n b) ≡ last_refusals
  refusals =
      let load_fits : length b.load ≤ load_width * load_limit = omega arith in
      let store_fits : length b.store ≤ store_width * store_limit = omega arith in
      let findings_fit : length b.findings ≤ finding_width * finding_limit = omega arith in
      let e₁ : not (eqb (length b.load % load_width) 0) ≡ false = ap (λ (k : ℕ). not (eqb k 0)) whole in
      let e₂ : ltb (load_width * load_limit) (length b.load) ≡ false = not_below load_fits in
      let e₃ : not (eqb (length b.store % store_width) 0) ≡ false = ap (λ (k : ℕ). not (eqb (k % store_width) 0)) store in
      let e₄ : ltb (store_width * store_limit) (length b.store) ≡ false = not_below store_fits in
      let e₅ : not (eqb (length b.findings % finding_width) 0) ≡ false = ap (λ (k : ℕ). not (eqb (k % finding_width) 0)) findings in
      let e₆ : ltb (finding_width * finding_limit) (length b.findings) ≡ false = not_below findings_fit in
      let e₇ : ltb (length b.work) (work_width * (n + run_terms_count)) ≡ false = not_below work in
      λ i. first_refusal
      (refusal_if 2 (e₁ i) ∷ refusal_if 3 (e₂ i) ∷ refusal_if 4 (e₃ i) ∷ refusal_if 4 (e₄ i) ∷ refusal_if 4 (e₅ i)
      ∷ refusal_if 4 (e₆ i) ∷ refusal_if 4 (e₇ i)
      ∷ refusal_if 5 (not (all (λ j. not (eqb j 0)) b.load)) ∷ refusal_if 6 (not (all (λ j. ltb j n) b.load)) ∷ [])

  -- their numbers
  refusal_numbers : Early last_refusals
  refusal_numbers = go (not (all (λ i. not (eqb i 0)) b.load)) (not (all (λ i. ltb i n) b.load))
    where
      go : (x y : Bool) → Early (first_refusal (refusal_if 5 x ∷ refusal_if 6 y ∷ []))
      go true y = inr (inl refl)
      go false true = inr (inr refl)
      go false false = inl refl

-- the number of an outcome
outcome_number : (b : Lent) (o : Outcome Row) → Possible (outcome_answer b o).number
outcome_number b store_full = inr (inr (inr (inl refl)))
outcome_number b findings_full = inr (inr (inr (inr refl)))
outcome_number b (accepted N F m k) = inl refl

-- the number of a run over the start's terms and the names
abstract_number : (ts : List Term) (b : Lent) → length ts ≤ length start_terms + count_limit
    → size ts ≤ size start_terms + name_width * count_limit → length b.load % load_width ≡ 0 → length b.load ≤ ids_length
    → length b.store ≡ store_length → length b.findings ≡ findings_length → length b.work ≡ work_length
    → Possible (abstract_run table_length arena_length ts b).answer.number
unfolding abstract_run
abstract_number ts b f z l m s r w =
    let c = start_sizes in
    go (first_refusal (run_refusals (length ts) b)) (subst Early
    (sym (refusals (length ts) b l m s r (omega arith))) (refusal_numbers (length ts) b l m s r (omega arith)))
  where
    with_terms : (v : AllPut) → (us : List Term) × (v ≡ all_put us) → Possible (run_all_put b ts v).answer.number
    with_terms full h = let e = h.1 in let y : ◌≡◌ {A = ℕ} 0 1 = cc in absurd (omega arith)
    with_terms (all_put us) h = outcome_number b (closed b us)

    go : (k : ℕ) → Early k → Possible (run_passed k table_length arena_length ts b).answer.number
    go zero h =
        let c = run_size in
        let d = start_sizes in
        with_terms (put_all table_length arena_length ts run_terms)
        (put_all_room table_length arena_length ts run_terms run_well (omega arith) (omega arith))
    go (suc k) (inl h) = absurd (omega arith)
    go (suc k) (inr (inl h)) = inr (inl h)
    go (suc k) (inr (inr h)) = inr (inr (inl h))

-- the number of the program's run of a load
pub ran_number : (n : ℕ) (load : List ℕ) → n ≤ count_limit → length load % load_width ≡ 0 → length load ≤ ids_length
    → Possible (ran n load (replicate store_length 0) (replicate findings_length 0)).number
unfolding ran run_gives
ran_number n load h l m =
    let p = all_named n h in
    let b = lent load (replicate store_length 0) (replicate findings_length 0) (replicate work_length 0) in
    let few = p.few in
    let small = p.small in
    let e : run_gives (dictionary n) b ≡ run_laid b table_length arena_length p.terms =
    ap (λ (d : Dict). run_gives d b) p.is
    ∙ on_layout table_length arena_length p.terms (run_laid b)
    (λ _. record { answer = unchanged 1 b; contents = layout table_length arena_length p.terms }) p.holds in
    subst (λ (r : RunResult). Possible r.answer.number) (sym e)
    (abstract_number p.terms b (omega arith) (omega arith) l m (zeros_length store_length) (zeros_length findings_length)
    (zeros_length work_length))

-- LARGE ENOUGH: the run of an input is accepted, or refused for its ids or for the sizes of its closure and findings
pub large_enough : (text : List ℕ) (n : ℕ) (ids : List ℕ) → parse text ≡ input n ids
    → Possible (ran n ids (replicate store_length 0) (replicate findings_length 0)).number
large_enough text n ids e =
    let (m, l, h) = input_threes text n ids e in
    ran_number n ids (count_small text n ids e) (omega arith) (omega arith)
