-- Terms put one after the other: they only grow, those that are held keep their ids, and those put are held. Assumes nothing.
use mathlib.Core.Path.{◌≡◌, refl, sym, ◌∙◌, ap, subst}
use mathlib.Core.Logic.{◌⊎◌, inl, inr}
use mathlib.Core.Bool.{Bool, true, false}
use mathlib.Core.Option.{Option, some}
use mathlib.Core.List.{List, [], ◌∷◌, ◌++◌, append_assoc, append-nil}
use Prim.Native.Nat.{ℕ, zero, suc, ◌+◌, ◌≤◌, ◌<◌}
use native.Mathlib.Omega.{arith}
use lib.ListN.{length, length-append}
use Rattle.common.specs.Triples.{In, if}
use Rattle.common.proofs.Lists.{in_nil, in_cons}
use Rattle.dictionary_layout.specs.Terms.{Term}
use Rattle.dictionary_layout.specs.Dictionary.{same_term, place_from, place_of, id_of, abstract_put, full, all_put, if_zero, put_all}
use Rattle.dictionary_run_terms.proofs.Places.{place_stays, put_place}
use Rattle.dictionary_layout.proofs.Holding.{Added, put_cases}

-- more terms behind these
abbrev pub Grown : List Term → List Term → Type 0
Grown ts us = (r : List Term) × (us ≡ ts ++ r)

pub grown_none : (ts : List Term) → Grown ts ts
grown_none ts = ([], sym (append-nil ts))

pub grown_trans : (ts us ws : List Term) → Grown ts us → Grown us ws → Grown ts ws
grown_trans ts us ws g h = (g.0 ++ h.0, h.1 ∙ (ap (λ l. l ++ h.0) g.1 ∙ append_assoc ts g.0 h.0))

pub grown_length : (ts us : List Term) → Grown ts us → length ts ≤ length us
grown_length ts us g = omega (arith, length-append ts g.0, ap (λ (l : List Term). length l) g.1)

pub put_grows : (tl al : ℕ) (ts : List Term) (t : Term) → Grown ts (abstract_put tl al ts t).held
put_grows tl al ts t = go (put_cases tl al ts t)
  where
    go : ((abstract_put tl al ts t).held ≡ ts) ⊎ Added tl al ts t (abstract_put tl al ts t) → Grown ts (abstract_put tl al ts t).held
    go (inl e) = ([], e ∙ sym (append-nil ts))
    go (inr a) = (t ∷ [], a.longer)

pub put_all_grows : (tl al : ℕ) (ts r us : List Term) → put_all tl al ts r ≡ all_put us → Grown ts us
unfolding put_all
put_all_grows tl al ts [] us e = subst (Grown ts) (cc) (grown_none ts)
put_all_grows tl al ts (t ∷ r) us e = go (abstract_put tl al ts t).number e (put_all_grows tl al (abstract_put tl al ts t).held r us)
  where
    go : (n : ℕ) → if_zero n (λ _. put_all tl al (abstract_put tl al ts t).held r) (λ _. full) ≡ all_put us
        → (put_all tl al (abstract_put tl al ts t).held r ≡ all_put us → Grown (abstract_put tl al ts t).held us) → Grown ts us
    go zero e k = grown_trans ts (abstract_put tl al ts t).held us (put_grows tl al ts t) (k e)
    go (suc n) e k = let z : ◌≡◌ {A = ℕ} 0 1 = cc in absurd (omega arith)

-- a term that is held keeps its id
abbrev pub Has : List Term → Term → Type 0
Has ts t = (j : ℕ) × (place_from 0 t ts ≡ some j)

pub has_kept : (ts us : List Term) (t : Term) → Grown ts us → Has ts t → Has us t
has_kept ts us t g h = (h.0, ap (place_from 0 t) g.1 ∙ place_stays 0 t ts g.0 h.0 h.1)

-- a put that was accepted: the term is held
pub put_has : (tl al : ℕ) (ts : List Term) (t : Term) → (abstract_put tl al ts t).number ≡ 0 → Has (abstract_put tl al ts t).held t
put_has tl al ts t e = ((abstract_put tl al ts t).id, put_place tl al ts t e)

pub put_all_has : (tl al : ℕ) (ts r us : List Term) → put_all tl al ts r ≡ all_put us → (t : Term) → In t r → Has us t
unfolding put_all
put_all_has tl al ts [] us e t i = absurd (in_nil i)
put_all_has tl al ts (u ∷ r) us e t i =
    go (abstract_put tl al ts u).number refl e (in_cons i) (λ f j. put_all_has tl al (abstract_put tl al ts u).held r us f t j)
  where
    go : (n : ℕ) → (abstract_put tl al ts u).number ≡ n → if_zero n (λ _. put_all tl al (abstract_put tl al ts u).held r) (λ _. full)
        ≡ all_put us → (t ≡ u) ⊎ In t r → (put_all tl al (abstract_put tl al ts u).held r ≡ all_put us → In t r → Has us t) → Has us t
    go zero q e (inl s) k =
        subst (Has us) (sym s) (has_kept (abstract_put tl al ts u).held us u
        (put_all_grows tl al (abstract_put tl al ts u).held r us e) (put_has tl al ts u q))
    go zero q e (inr j) k = k e j
    go (suc n) q e s k = let z : ◌≡◌ {A = ℕ} 0 1 = cc in absurd (omega arith)

-- at most one term more for each
pub put_all_few : (tl al : ℕ) (ts r us : List Term) → put_all tl al ts r ≡ all_put us → length us ≤ length ts + length r
unfolding put_all
put_all_few tl al ts [] us e = let f : ts ≡ us = cc in omega (arith, ap (λ (l : List Term). length l) f)
put_all_few tl al ts (t ∷ r) us e =
    go (abstract_put tl al ts t).number e (put_all_few tl al (abstract_put tl al ts t).held r us) (one (put_cases tl al ts t))
  where
    one : ((abstract_put tl al ts t).held ≡ ts) ⊎ Added tl al ts t (abstract_put tl al ts t)
        → length (abstract_put tl al ts t).held ≤ length ts + 1
    one (inl f) = omega (arith, ap (λ (l : List Term). length l) f)
    one (inr a) = omega (arith, ap (λ (l : List Term). length l) a.longer, length-append ts (t ∷ []))

    go : (n : ℕ) → if_zero n (λ _. put_all tl al (abstract_put tl al ts t).held r) (λ _. full) ≡ all_put us
        → (put_all tl al (abstract_put tl al ts t).held r ≡ all_put us
        → length us ≤ length (abstract_put tl al ts t).held + length r) → length (abstract_put tl al ts t).held ≤ length ts + 1
        → length us ≤ length ts + suc (length r)
    go zero e k o = omega (arith, k e)
    go (suc n) e k o = let z : ◌≡◌ {A = ℕ} 0 1 = cc in absurd (omega arith)

-- an id is below the number of terms
pub place_below : (i : ℕ) (t : Term) (ts : List Term) (j : ℕ) → place_from i t ts ≡ some j → j < i + length ts
unfolding place_from
place_below i t [] j e = let z : ◌≡◌ {A = ℕ} 0 1 = cc in absurd (omega arith)
place_below i t (u ∷ ts) j e = go (same_term t u) e (place_below (suc i) t ts j)
  where
    go : (b : Bool) → (if b (λ _. some i) (λ _. place_from (suc i) t ts)) ≡ some j
        → (place_from (suc i) t ts ≡ some j → j < suc i + length ts) → j < i + suc (length ts)
    go true e k = let f : i ≡ j = cc in omega arith
    go false e k = omega (arith, k e)

-- so is the id of a term that was put
pub put_all_below : (tl al : ℕ) (ts r us : List Term) → put_all tl al ts r ≡ all_put us → (t : Term) → In t r
    → id_of (place_of t us) < length us
put_all_below tl al ts r us e t i =
    let (j, p) = put_all_has tl al ts r us e t i in
    subst (λ (o : Option ℕ). id_of o < length us) (sym p) (omega (arith, place_below 0 t us j p))
