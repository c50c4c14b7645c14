-- The terms that can be held, as facts of the terms: the start's first, kinds and lengths in range, none twice, all fits. Assumes nothing.
use mathlib.Core.Path.{◌≡◌, refl, sym, subst}
use mathlib.Core.Logic.{◌⊎◌, inl, inr}
use mathlib.Core.Bool.{Bool, true, false, ◌&&◌}
use mathlib.Core.Option.{some, none}
use mathlib.Core.List.{List, [], ◌∷◌, ◌++◌}
use Prim.Native.Nat.{ℕ, zero, suc, ◌<◌}
use native.Mathlib.Omega.{arith}
use lib.Dec.{T}
use lib.ListN.{length}
use Rattle.common.specs.Triples.{In, here, there, if}
use Rattle.common.proofs.Lists.{in_nil, in_cons, in_cases, and→}
use Rattle.dictionary_layout.specs.Terms.{Term, start_terms}
use Rattle.dictionary_layout.specs.Dictionary.{same_term, place_from, kind_known, short, abstract_put, term_of, sized, grows}
use Rattle.dictionary_layout.proofs.Equality.{same_term_refl, same_term→}
use Rattle.dictionary_layout.proofs.Holding.{Added, end→added, step, Fits, Holds, holds_fits}

-- a term is held at a place exactly when it stands in the list
pub absent→ : (i : ℕ) (t : Term) (ts : List Term) → place_from i t ts ≡ none → In t ts → ⊥
unfolding place_from
absent→ i t [] e h = in_nil h
absent→ i t (u ∷ ts) e h =
    go (same_term t u) (λ q. subst (λ x. T (same_term t x)) q (same_term_refl t)) e (in_cons h) (absent→ (suc i) t ts)
  where
    go : (b : Bool) → (t ≡ u → T b) → (if b (λ _. some i) (λ _. place_from (suc i) t ts)) ≡ none → (t ≡ u) ⊎ In t ts
        → (place_from (suc i) t ts ≡ none → In t ts → ⊥) → ⊥
    go true f e h k = let z : ◌≡◌ {A = ℕ} 0 1 = cc in omega arith
    go false f e (inl q) k = f q
    go false f e (inr j) k = k e j

pub absent← : (i : ℕ) (t : Term) (ts : List Term) → (In t ts → ⊥) → place_from i t ts ≡ none
unfolding place_from
absent← i t [] n = refl
absent← i t (u ∷ ts) n = go (same_term t u) (same_term→ t u) (absent← (suc i) t ts (λ j. n (there j)))
  where
    go : (b : Bool) → (T b → t ≡ u) → place_from (suc i) t ts ≡ none → (if b (λ _. some i) (λ _. place_from (suc i) t ts)) ≡ none
    go true f k = absurd (n (here (f tt)))
    go false f k = k

-- none of us stands in ts or before itself in us
abbrev pub Fresh : List Term → List Term → Type 0
Fresh ts [] = Unit {0}
Fresh ts (u ∷ us) = (In u ts → ⊥) × Fresh (ts ++ (u ∷ [])) us

pub record Direct (tl al : ℕ) (ts : List Term) : Type 0 where
  pub sizes : T (sized tl al)
  pub more : List Term
  pub whole : ts ≡ start_terms ++ more
  pub well : (t : Term) → In t more → T (kind_known t) × T (short t)
  pub fresh : Fresh start_terms more
  pub fits : Fits tl al ts

module _ (tl al : ℕ) where
  grows→ : (ts us : List Term) → T (grows tl al ts us) → ((t : Term) → In t us → T (kind_known t) × T (short t)) × Fresh ts us
  grows→ ts [] h = (λ t i. absurd (in_nil i), tt)
  grows→ ts (u ∷ us) h =
      let (a, b) = step tl al ts u us h in
      let d = end→added tl al ts u a in
      let (w, n) = grows→ (ts ++ (u ∷ [])) us b in
      (λ t i. pick t d w (in_cons i), (absent→ 0 u ts d.fresh, n))
    where
      pick : (t : Term) → Added tl al ts u (abstract_put tl al ts u) → ((t : Term) → In t us → T (kind_known t) × T (short t))
          → (t ≡ u) ⊎ In t us → T (kind_known t) × T (short t)
      pick t d w (inl e) = subst (λ x. T (kind_known x) × T (short x)) (sym e) (d.known, d.fits)
      pick t d w (inr i) = w t i

pub direct← : (tl al : ℕ) (ts : List Term) → Holds tl al ts → Direct tl al ts
direct← tl al ts h =
    let (w, n) = grows→ tl al start_terms h.more h.grown in
    record { sizes = h.sizes; more = h.more; whole = h.whole; well = w; fresh = n; fits = holds_fits tl al ts h }

-- EVERY TERM THAT CAN BE HELD has a kind from 1 to 3 and at most `term_limit` bytes
abbrev pub all_well : List Term → Bool
all_well [] = true
all_well (t ∷ ts) = (kind_known t && short t) && all_well ts

start_well : T (all_well start_terms)
unfolding start_terms
start_well = tt

pub in_well : (ts : List Term) → T (all_well ts) → (t : Term) → In t ts → T (kind_known t) × T (short t)
in_well [] h t i = absurd (in_nil i)
in_well (u ∷ ts) h t i = go (in_cons i) (in_well ts (and→ (kind_known u && short u) (all_well ts) h).1 t)
  where
    go : (t ≡ u) ⊎ In t ts → (In t ts → T (kind_known t) × T (short t)) → T (kind_known t) × T (short t)
    go (inl e) f =
        subst (λ (x : Term). T (kind_known x) × T (short x)) (sym e)
        (and→ (kind_known u) (short u) (and→ (kind_known u && short u) (all_well ts) h).0)
    go (inr j) f = f j

pub holds_well : (tl al : ℕ) (ts : List Term) → Holds tl al ts → (t : Term) → In t ts → T (kind_known t) × T (short t)
holds_well tl al ts h t i = let d = direct← tl al ts h in go d (in_cases start_terms (subst (In t) d.whole i))
  where
    go : (d : Direct tl al ts) → In t start_terms ⊎ In t d.more → T (kind_known t) × T (short t)
    go d (inl j) = in_well start_terms start_well t j
    go d (inr j) = d.well t j

pub at_in : (ts : List Term) (j : ℕ) → j < length ts → In (term_of ts j) ts
at_in [] j h = absurd (omega arith)
at_in (t ∷ ts) zero h = here refl
at_in (t ∷ ts) (suc j) h = there (at_in ts j (omega arith))
