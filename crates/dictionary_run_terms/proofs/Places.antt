-- The places of terms, as terms are added. Assumes nothing.
use mathlib.Core.Path.{◌≡◌, refl, sym, ◌∙◌, ap}
use mathlib.Core.Logic.{◌⊎◌, inl, inr, ◌≢◌}
use mathlib.Core.Bool.{Bool, true, false}
use mathlib.Core.Option.{Option, some, none}
use mathlib.Core.List.{List, [], ◌∷◌, ◌++◌}
use Prim.Native.Nat.{ℕ, suc, ◌+◌}
use native.Mathlib.Omega.{arith}
use lib.Dec.{T}
use lib.ListN.{length}
use Rattle.common.specs.Triples.{if}
use Rattle.dictionary_layout.specs.Terms.{Term}
use Rattle.dictionary_layout.specs.Dictionary.{same_term, place_from, place_of, kind_known, short, roomy, PutAnswer, abstract_put}
use Rattle.dictionary_layout.proofs.Choice.{if_no, decide_bool}
use Rattle.dictionary_layout.proofs.Equality.{same_term→}
use Rattle.dictionary_layout.proofs.Holding.{Added, put_cases}
use Rattle.dictionary_layout.proofs.Distinct.{absent→}
use Rattle.dictionary_layout.proofs.Walking.{index_there}
use Rattle.dictionary_entries.proofs.Putting.{abstract_put_10, abstract_put_11, abstract_put_held, abstract_put_7, abstract_put_new}

-- PLACES as terms are added
pub place_here : (i : ℕ) (ts : List Term) (t u : Term) → u ≢ t → place_from i u (ts ++ (t ∷ [])) ≡ place_from i u ts
unfolding place_from
place_here i [] t u n = if_no (same_term u t) (λ _. some i) (λ _. none) (λ h. n (same_term→ u t h))
place_here i (w ∷ ts) t u n = ap (λ (x : Option ℕ). if (same_term u w) (λ _. some i) (λ _. x)) (place_here (suc i) ts t u n)

-- a term that is held keeps its place
pub place_stays : (i : ℕ) (t : Term) (ts us : List Term) (j : ℕ) → place_from i t ts ≡ some j → place_from i t (ts ++ us) ≡ some j
unfolding place_from
place_stays i t [] us j e = let z : ◌≡◌ {A = ℕ} 0 1 = cc in absurd (omega arith)
place_stays i t (u ∷ ts) us j e = go (same_term t u) e (place_stays (suc i) t ts us j)
  where
    go : (b : Bool) → (if b (λ _. some i) (λ _. place_from (suc i) t ts)) ≡ some j
        → (place_from (suc i) t ts ≡ some j → place_from (suc i) t (ts ++ us) ≡ some j)
        → (if b (λ _. some i) (λ _. place_from (suc i) t (ts ++ us))) ≡ some j
    go true e f = e
    go false e f = f e

place_last : (ts : List Term) (t : Term) → place_of t ts ≡ none → place_of t (ts ++ (t ∷ [])) ≡ some (length ts)
place_last ts t e = index_there 0 ts t [] (absent→ 0 t ts e) ∙ ap some (let q : 0 + length ts ≡ length ts = omega arith in q)

-- an accepted put answers the term's place, and leaves the places of others
module _ (tl al : ℕ) (ts : List Term) (t : Term) where
  pub put_place : (abstract_put tl al ts t).number ≡ 0 → place_of t (abstract_put tl al ts t).held ≡ some (abstract_put tl al ts t).id
  put_place e = go (place_of t ts) refl (decide_bool (kind_known t)) (decide_bool (short t)) (decide_bool (roomy tl al ts t))
    where
      refused : (n : ℕ) {p : PutAnswer} → abstract_put tl al ts t ≡ p → p.number ≡ suc n
          → place_of t (abstract_put tl al ts t).held ≡ some (abstract_put tl al ts t).id
      refused n q z = let m = ap (λ (x : PutAnswer). x.number) q in absurd (omega arith)

      go : (o : Option ℕ) → place_of t ts ≡ o → T (kind_known t) ⊎ (T (kind_known t) → ⊥) → T (short t) ⊎ (T (short t) → ⊥)
          → T (roomy tl al ts t) ⊎ (T (roomy tl al ts t) → ⊥)
          → place_of t (abstract_put tl al ts t).held ≡ some (abstract_put tl al ts t).id
      go o p (inr k) s r = refused 9 (abstract_put_10 tl al ts t k) refl
      go o p (inl k) (inr s) r = refused 10 (abstract_put_11 tl al ts t k s) refl
      go (some i) p (inl k) (inl s) r =
          let q = abstract_put_held tl al ts t k s i p in ap (λ (x : PutAnswer). place_of t x.held) q
          ∙ (p ∙ ap (λ (x : PutAnswer). some x.id) (sym q))
      go none p (inl k) (inl s) (inr r) = refused 6 (abstract_put_7 tl al ts t k s p r) refl
      go none p (inl k) (inl s) (inl r) =
          let q = abstract_put_new tl al ts t k s p r in ap (λ (x : PutAnswer). place_of t x.held) q
          ∙ (place_last ts t p ∙ ap (λ (x : PutAnswer). some x.id) (sym q))

  pub place_kept : (u : Term) (i : ℕ) → place_of u ts ≡ some i → place_of u (abstract_put tl al ts t).held ≡ some i
  place_kept u i e = go (put_cases tl al ts t)
    where
      go : ((abstract_put tl al ts t).held ≡ ts) ⊎ Added tl al ts t (abstract_put tl al ts t)
          → place_of u (abstract_put tl al ts t).held ≡ some i
      go (inl q) = ap (place_of u) q ∙ e
      go (inr a) = ap (place_of u) a.longer ∙ place_stays 0 u ts (t ∷ []) i e
