-- From the steps of a run to what its definition gives. Assumes nothing.
use mathlib.Core.Path.{◌≡◌, refl, sym, ap, subst, ◌∙◌}
use mathlib.Core.Logic.{◌≢◌, ⊎_elim}
use mathlib.Core.Bool.{Bool, true, false, not}
use mathlib.Core.List.{List}
use Prim.Native.Nat.{ℕ, zero, suc, ◌+◌, ◌*◌, ◌%◌, ◌≤◌, ◌<◌}
use native.Mathlib.Omega.{arith}
use lib.Dec.{T, ltb, eqb, eqb→eq, ltb→lt, lt→ltb}
use lib.ListN.{length}
use Rattle.common.specs.Sizes.{load_width, store_width, store_limit, finding_width, finding_limit, work_width, run_terms_count}
use Rattle.common.specs.Triples.{Triple, In, here, there, all}
use Rattle.store_rows.proofs.Cases.{le_or, true_false}
use Rattle.engine_checks.specs.Findings.{Buffer}
use Rattle.dictionary_layout.specs.Terms.{Term, property_term, membership_term, member_term, run_terms}
use Rattle.dictionary_layout.specs.Layout.{Dict, layout, decode}
use Rattle.dictionary_layout.specs.Dictionary.{place_of, id_of, AllPut, full, all_put, put_all, valid}
use Rattle.dictionary_layout.specs.Values.{contents}
use Rattle.dictionary_run_terms.specs.Calls.{ids_in, RunTermsResult, run_terms_result, run_terms_laid, run_terms_give}
use Rattle.dictionary_layout.specs.declared.values.Counters.{Counters}
use Rattle.dictionary_run_terms.specs.declared.values.RunTermIds.{RunTermIds}
use Rattle.dictionary_run_terms.specs.declared.values.RunTerms.{RunTerms}
use Rattle.dictionary_layout.proofs.Choice.{if_yes, if_no}
use Rattle.dictionary_layout.proofs.Decoding.{decode_layout}
use Rattle.dictionary_layout.proofs.Holding.{Holds, put_all_holds, valid→, valid_layout}
use Rattle.dictionary_entries.proofs.Reading.{held, count}
use Rattle.driver_refusals.specs.Lent.{Lent}
use Rattle.driver_load.specs.Closed.{AnswerOfRun, closed_answer}
use Rattle.driver_run.specs.Run.{unchanged, AbstractRunResult, run_all_put, run_passed, abstract_run, RunResult, run_laid, run_gives}
use Rattle.driver_refusals.specs.RunRefusals.{first_refusal, run_refusals}
use Rattle.driver_load.specs.Loads.{Below, Termed, Loaded}
use Rattle.driver_refusals.proofs.Refusing.{Unmet, unmet_all, not_not, all_in}
use Rattle.driver_run.proofs.PuttingAll.{grown_length, put_all_grows, put_all_few, put_all_below}

-- a number that is not above another
pub not_above : (a b : ℕ) → T (not (ltb a b)) → b ≤ a
not_above a b h = ⊎_elim (λ p. p) (λ p. absurd (go (ltb a b) (lt→ltb a b p) h)) (le_or b a)
  where
    go : (c : Bool) → T c → T (not c) → ⊥
    go true p q = absurd q
    go false p q = absurd p

abbrev result : AnswerOfRun → Dict → RunResult
result a d = record { answer = a; contents = d }

-- refusal 1
pub run_broken : (d : Dict) (b : Lent) → (T (valid d) → ⊥) → result (unchanged 1 b) d ≡ run_gives d b
unfolding run_gives
run_broken d b f =
    sym (if_no (valid d) (λ _. run_laid b (length d.table) (length d.arena) (decode d)) (λ _. result (unchanged 1 b) d) f)

module _ (d : Dict) (b : Lent) (v : T (valid d)) where
  abbrev tl : ℕ
  tl = length d.table

  abbrev al : ℕ
  al = length d.arena

  abbrev ts : List Term
  ts = decode d

  laid : layout tl al ts ≡ d
  laid = (valid→ d v).1

  abbrev laid_out : AbstractRunResult → RunResult
  laid_out r = result r.answer (layout tl al r.held)

  -- what the terms held say
  gives : {n : ℕ} → n ≡ first_refusal (run_refusals d.terms b) → run_gives d b ≡ laid_out (run_passed n tl al ts b)
  unfolding run_gives abstract_run
  gives {n} e =
      if_yes (valid d) (λ _. run_laid b tl al ts) (λ _. result (unchanged 1 b) d) v
      ∙ ap (λ (m : ℕ). laid_out (run_passed (first_refusal (run_refusals m b)) tl al ts b)) (sym (count d v))
      ∙ ap (λ (m : ℕ). laid_out (run_passed m tl al ts b)) (sym e)

  -- refusals 2 to 6
  pub run_refused : {n : ℕ} → n ≡ first_refusal (run_refusals d.terms b) → n ≢ 0 → result (unchanged n b) d ≡ run_gives d b
  run_refused {n} e z = go n z ∙ sym (gives e)
    where
      go : (n : ℕ) → n ≢ 0 → result (unchanged n b) d ≡ laid_out (run_passed n tl al ts b)
      go zero z = absurd (z refl)
      go (suc n) z = ap (result (unchanged (suc n) b)) (sym laid)

  module _ (e : 0 ≡ first_refusal (run_refusals d.terms b)) (x : RunTermsResult) (g : x ≡ run_terms_give d) where
    terms_laid : x ≡ run_terms_laid tl al ts (put_all tl al ts run_terms)
    unfolding run_terms_give
    terms_laid = g

    -- refusal 7
    pub run_refused_7 : x.number ≢ 0 → (x.contents ≡ d) × (result (unchanged x.number b) d ≡ run_gives d b)
    run_refused_7 z = let (p, q) = go (put_all tl al ts run_terms) terms_laid in (p, q ∙ sym (gives e))
      where
        go : (w : AllPut) → x ≡ run_terms_laid tl al ts w
            → (x.contents ≡ d) × (result (unchanged x.number b) d ≡ laid_out (run_all_put b ts w))
        go full h = (
          ap (λ (r : RunTermsResult). r.contents) h ∙ laid,
          ap (λ (r : RunTermsResult). result (unchanged r.number b) d) h ∙ ap (result (unchanged 7 b)) (sym laid),
        )
        go (all_put us) h = absurd (z (ap (λ (r : RunTermsResult). r.number) h))

    -- the terms that the dictionary holds then
    pub record Held : Type 0 where
      pub terms : List Term
      pub puts_all : put_all tl al ts run_terms ≡ all_put terms
      pub left : x ≡ run_terms_result 0 (ids_in terms) (layout tl al terms)

    pub held_then : x.number ≡ 0 → Held
    held_then z = go (put_all tl al ts run_terms) refl terms_laid
      where
        go : (w : AllPut) → put_all tl al ts run_terms ≡ w → x ≡ run_terms_laid tl al ts w → Held
        go full q h = absurd (omega (arith, z, ap (λ (r : RunTermsResult). r.number) h))
        go (all_put us) q h = record { terms = us; puts_all = q; left = h }

    module _ (H : Held) where
      us_hold : Holds tl al H.terms
      us_hold = put_all_holds tl al ts run_terms H.terms (held d v) H.puts_all

      left : x.contents ≡ layout tl al H.terms
      left = ap (λ (r : RunTermsResult). r.contents) H.left

      decoded : decode x.contents ≡ H.terms
      decoded = ap decode left ∙ decode_layout tl al H.terms

      -- an accepted run, or refusal 8 or 9
      pub run_done : result (closed_answer b (decode x.contents)) x.contents ≡ run_gives d b
      run_done =
          ap (λ (us : List Term). result (closed_answer b us) x.contents) decoded
          ∙ ap (result (closed_answer b H.terms)) left
          ∙ ap (λ (w : AllPut). laid_out (run_all_put b ts w)) (sym H.puts_all)
          ∙ sym (gives e)

      still_valid : T (valid x.contents)
      still_valid = subst (λ (c : Dict). T (valid c)) (sym left) (valid_layout tl al H.terms us_hold)

      counted : x.contents.terms ≡ length H.terms
      counted = count x.contents still_valid ∙ ap (λ (us : List Term). length us) decoded

      id_below : (t : Term) → In t run_terms → id_of (place_of t H.terms) < x.contents.terms
      id_below t i = omega (arith, counted, put_all_below tl al ts run_terms H.terms H.puts_all t i)

      ids_below : (r : RunTermIds) → r ≡ ids_in H.terms → Below r x.contents.terms
      unfolding run_terms
      ids_below r e = record {
        property = omega (arith, ap (λ (i : RunTermIds). i.property.0) e, id_below property_term (here refl));
        membership = omega (arith, ap (λ (i : RunTermIds). i.membership.0) e, id_below membership_term (there (here refl)));
        member = omega (arith, ap (λ (i : RunTermIds). i.member.0) e, id_below member_term (there (there (here refl))));
      }

      -- WHAT THE CLOSING IS TOLD of the dictionary
      pub termed : (r : RunTerms) {table arena : List ℕ} → run_terms_result 0 r.ids (contents table arena r.counters) ≡ x
          → Termed table arena r
      termed r {table} {arena} q =
          let e : r.ids ≡ ids_in H.terms = ap (λ (y : RunTermsResult). y.ids) (q ∙ H.left) in
          let c : x.contents ≡ contents table arena r.counters = sym (ap (λ (y : RunTermsResult). y.contents) q) in
          record {
            sound = subst (λ (k : Dict). T (valid k)) c still_valid;
            ids = e ∙ ap ids_in (sym decoded ∙ ap decode c);
            below = subst (λ (k : Dict). Below r.ids k.terms) c (ids_below r.ids e);
          }

      -- and of load and buffers
      few_more : x.contents.terms ≤ d.terms + run_terms_count
      unfolding run_terms
      few_more = omega (arith, counted, count d v, put_all_few tl al ts run_terms H.terms H.puts_all)

      more : d.terms ≤ x.contents.terms
      more = omega (arith, counted, count d v, grown_length ts H.terms (put_all_grows tl al ts run_terms H.terms H.puts_all))

      abbrev passed : Unmet (run_refusals d.terms b)
      passed = unmet_all (run_refusals d.terms b) tt (sym e)

      pub loaded : Loaded b.load b.store b.work x.contents.terms
      loaded = record {
        whole = eqb→eq (length b.load % load_width) 0 (not_not (eqb (length b.load % load_width) 0) passed.0);
        few = not_above (store_width * store_limit) (length b.store) passed.1.1.1.0;
        room = omega (
          arith,
          few_more,
          not_above (length b.work) (work_width * (d.terms + run_terms_count))
              passed.1.1.1.1.1.1.0,
        );
        known = λ t i. known t (all_in (λ j. ltb j d.terms) b.load
            (not_not (all (λ j. ltb j d.terms) b.load) passed.1.1.1.1.1.1.1.1.0) t i);
      }
        where
          known : (t : Triple) → T (ltb t.s d.terms) × T (ltb t.p d.terms) × T (ltb t.o d.terms)
              → (t.s < x.contents.terms) × (t.p < x.contents.terms) × (t.o < x.contents.terms)
          known t k = (below t.s k.0, below t.p k.1, below t.o k.2)
            where
              below : (i : ℕ) → T (ltb i d.terms) → i < x.contents.terms
              below i h = omega (arith, more, ltb→lt i d.terms h)

      pub buffer : Buffer b.findings
      buffer = record {
        whole = eqb→eq (length b.findings % finding_width) 0
            (not_not (eqb (length b.findings % finding_width) 0) passed.1.1.1.1.0);
        few = not_above (finding_width * finding_limit) (length b.findings) passed.1.1.1.1.1.0;
      }

-- the same table and arena, with the counters as they were
pub same_contents : {t t' a a' : List ℕ} {c c' : Counters} → contents t' a' c' ≡ contents t a c → contents t' a' c ≡ contents t a c
same_contents {c = c} e = let f = ap (λ (d : Dict). d.table) e in let g = ap (λ (d : Dict). d.arena) e in λ i. contents (f i) (g i) c

-- what the code's test says of the dictionary
pub valid_by : {r : Bool} (d : Dict) → not r ≡ false → r ≡ valid d → T (valid d)
valid_by {r = true} d e f = subst T f tt
valid_by {r = false} d e f = true_false e

pub broken_by : {r : Bool} (d : Dict) → not r ≡ true → r ≡ valid d → T (valid d) → ⊥
broken_by {r = true} d e f h = true_false (sym e)
broken_by {r = false} d e f h = subst T (sym f) h
