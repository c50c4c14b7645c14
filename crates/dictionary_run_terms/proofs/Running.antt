-- Three puts are the put of a run's terms. Assumes nothing.
use mathlib.Core.Path.{◌≡◌, refl, sym, ◌∙◌, ap, subst}
use mathlib.Core.Bool.{true, false}
use mathlib.Core.List.{List, [], ◌∷◌}
use Prim.Native.Nat.{ℕ, zero, suc}
use native.Mathlib.Omega.{arith}
use lib.Dec.{T}
use lib.ListN.{length}
use Rattle.dictionary_layout.specs.Terms.{Term, property_term, membership_term, member_term, run_terms}
use Rattle.dictionary_layout.specs.Layout.{Dict, layout, decode}
use Rattle.dictionary_layout.specs.Dictionary.{id_of, PutAnswer, abstract_put, AllPut, full, all_put, if_zero, put_all, valid}
use Rattle.dictionary_layout.specs.Calls.{PutResult, put_result, put_laid, put_gives}
use Rattle.dictionary_run_terms.specs.Calls.{run_term_ids, run_terms_result, run_terms_laid, run_terms_give}
use Rattle.dictionary_run_terms.specs.Running.{is_all_put}
use Rattle.dictionary_layout.proofs.Choice.{true_false}
use Rattle.dictionary_layout.proofs.Holding.{Holds, holds_put, valid_layout, valid→}
use Rattle.dictionary_layout.proofs.Reachable.{on_layout, put_valid}
use Rattle.dictionary_entries.proofs.Reading.{held}
use Rattle.dictionary_run_terms.proofs.Places.{put_place, place_kept}

-- THREE PUTS, where all of them fit
all_put_by : (b : AllPut) → true ≡ is_all_put b → (us : List Term) × (b ≡ all_put us)
all_put_by full e = true_false e
all_put_by (all_put us) e = (us, refl)

put_all_one : (tl al : ℕ) (ts : List Term) (t : Term) (r us : List Term) → put_all tl al ts (t ∷ r) ≡ all_put us
    → ((abstract_put tl al ts t).number ≡ 0) × (put_all tl al (abstract_put tl al ts t).held r ≡ all_put us)
unfolding put_all
put_all_one tl al ts t r us e = go (abstract_put tl al ts t).number e
  where
    go : (n : ℕ) → if_zero n (λ _. put_all tl al (abstract_put tl al ts t).held r) (λ _. full) ≡ all_put us
        → (n ≡ 0) × (put_all tl al (abstract_put tl al ts t).held r ≡ all_put us)
    go zero e = (refl, e)
    go (suc n) e = let z : ◌≡◌ {A = ℕ} 0 1 = cc in absurd (omega arith)

-- a put on contents that hold terms
pub put_on : (tl al : ℕ) (ts : List Term) (t : Term) → Holds tl al ts → put_gives (layout tl al ts) t ≡ put_laid t tl al ts
unfolding put_gives
put_on tl al ts t h = on_layout tl al ts (put_laid t) (λ _. put_result 1 0 (layout tl al ts)) h

-- all three fit in the dictionary
abbrev pub AllFit : Dict → Type 0
AllFit d = true ≡ is_all_put (put_all (length d.table) (length d.arena) (decode d) run_terms)

module _ (d : Dict) (v : T (valid d)) (b : AllFit d) where
  abbrev l : ℕ
  l = length d.table

  abbrev m : ℕ
  m = length d.arena

  abbrev p : PutAnswer
  p = abstract_put l m (decode d) property_term

  abbrev q : PutAnswer
  q = abstract_put l m p.held membership_term

  abbrev r : PutAnswer
  r = abstract_put l m q.held member_term

  p_holds : Holds l m p.held
  p_holds = holds_put l m (decode d) property_term (held d v)

  q_holds : Holds l m q.held
  q_holds = holds_put l m p.held membership_term p_holds

  -- the three answers
  pub run_first : put_gives d property_term ≡ put_result p.number p.id (layout l m p.held)
  run_first = put_valid d property_term v

  pub run_second : {e : Dict} → e ≡ layout l m p.held
      → put_gives e membership_term ≡ put_result q.number q.id (layout l m q.held)
  run_second f = ap (λ (x : Dict). put_gives x membership_term) f ∙ put_on l m p.held membership_term p_holds

  pub run_third : {e : Dict} → e ≡ layout l m q.held → put_gives e member_term ≡ put_result r.number r.id (layout l m r.held)
  run_third f = ap (λ (x : Dict). put_gives x member_term) f ∙ put_on l m q.held member_term q_holds

  pub run_valid : {e : Dict} → e ≡ layout l m p.held → T (valid e)
  run_valid f = subst (λ (x : Dict). T (valid x)) (sym f) (valid_layout l m p.held p_holds)

  pub run_valid_2 : {e : Dict} → e ≡ layout l m q.held → T (valid e)
  run_valid_2 f = subst (λ (x : Dict). T (valid x)) (sym f) (valid_layout l m q.held q_holds)

  -- are accepted
  pub run_accepted : (p.number ≡ 0) × (q.number ≡ 0) × (r.number ≡ 0)
  unfolding run_terms
  run_accepted =
      let (us, e) = all_put_by (put_all l m (decode d) run_terms) b in
      let (a, f) = put_all_one l m (decode d) property_term (membership_term ∷ member_term ∷ []) us e in
      let (c, g) = put_all_one l m p.held membership_term (member_term ∷ []) us f in
      let (h, k) = put_all_one l m q.held member_term [] us g in
      (a, c, h)

  -- and are those that the definition gives
  pub run_all_put : run_terms_result 0 (run_term_ids p.id q.id r.id) (layout l m r.held) ≡ run_terms_give d
  unfolding run_terms_give run_terms put_all
  run_all_put =
      let (us, e) = all_put_by (put_all l m (decode d) run_terms) b in
      let (a, f) = put_all_one l m (decode d) property_term (membership_term ∷ member_term ∷ []) us e in
      let (c, g) = put_all_one l m p.held membership_term (member_term ∷ []) us f in
      let (h, k) = put_all_one l m q.held member_term [] us g in
      let x = place_kept l m q.held member_term property_term p.id
      (place_kept l m p.held membership_term property_term p.id (put_place l m (decode d) property_term a)) in
      let y = place_kept l m q.held member_term membership_term q.id (put_place l m p.held membership_term c) in
      let z = put_place l m q.held member_term h in
      (λ i. run_terms_result 0 (run_term_ids (id_of (sym x i)) (id_of (sym y i)) (id_of (sym z i))) (layout l m r.held))
      ∙ sym (ap (run_terms_laid l m (decode d)) (e ∙ sym (last k)))
    where
      last : {us : List Term} → put_all l m r.held [] ≡ all_put us → all_put r.held ≡ all_put us
      last k = k

-- none of them fits
pub run_full : (d : Dict) → T (valid d) → false ≡ is_all_put
    (put_all (length d.table) (length d.arena) (decode d) run_terms) → run_terms_result 7 (run_term_ids 0 0 0) d ≡ run_terms_give d
unfolding run_terms_give
run_full d v e =
    ap (run_terms_result 7 (run_term_ids 0 0 0)) (sym (valid→ d v).1)
    ∙ ap (run_terms_laid (length d.table) (length d.arena) (decode d))
    (sym (go (put_all (length d.table) (length d.arena) (decode d) run_terms) e))
  where
    go : (b : AllPut) → false ≡ is_all_put b → b ≡ full
    go full e = refl
    go (all_put us) e = true_false (sym e)

-- three answers as one
pub run_results : {p q r p' q' r' : PutResult} → p ≡ p' → q ≡ q' → r ≡ r'
    → run_terms_result 0 (run_term_ids p.id q.id r.id) r.contents
    ≡ run_terms_result 0 (run_term_ids p'.id q'.id r'.id) r'.contents
run_results e f g = λ i. run_terms_result 0 (run_term_ids (e i).id (f i).id (g i).id) (g i).contents
