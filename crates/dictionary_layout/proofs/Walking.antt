-- Following a chain finds a term's id, or shows that it is not held. Assumes nothing.
use mathlib.Core.Path.{◌≡◌, refl, sym, ◌∙◌, ap, subst}
use mathlib.Core.Logic.{◌⊎◌, inl, inr, ◌≢◌}
use mathlib.Core.Bool.{Bool, true, false}
use mathlib.Core.Option.{Option, some, none}
use mathlib.Core.List.{List, [], ◌∷◌, ◌++◌, append_assoc, append-nil}
use Prim.Native.Nat.{ℕ, zero, suc, ◌+◌, ◌≤◌, ◌<◌}
use native.Mathlib.Omega.{arith}
use native.Mathlib.Decide.{dec_lt}
use lib.Dec.{T}
use lib.ListN.{length, get_or, take, drop}
use lib.Seq.{split_at, length-take-le}
use Rattle.common.specs.Triples.{In, here, there, if}
use Rattle.common.proofs.Lists.{in_nil, in_cons, in_right}
use Rattle.dictionary_layout.specs.Terms.{Term, no_term, start_terms}
use Rattle.dictionary_layout.specs.Layout.{chain}
use Rattle.dictionary_layout.specs.Dictionary.{same_term, place_from, place_of, term_of}
use Rattle.dictionary_layout.proofs.Equality.{same_term_refl, same_term→}
use Rattle.dictionary_layout.proofs.Holding.{Holds}
use Rattle.dictionary_layout.proofs.Chains.{prev, prev_less, prev_chain, prev_gap}
use Rattle.dictionary_layout.proofs.Distinct.{absent→, absent←, Fresh, direct←}

-- no term is held twice
abbrev is_none : Option ℕ → Bool
is_none (some i) = false
is_none none = true

missing_test : (q : Option ℕ) → T (is_none q) → q ≡ none
missing_test (some i) h = absurd h
missing_test none h = refl

abbrev fresh_test : List Term → List Term → Bool
fresh_test ps [] = true
fresh_test ps (u ∷ us) = if (is_none (place_from 0 u ps)) (λ _. fresh_test (ps ++ (u ∷ [])) us) (λ _. false)

fresh_test→ : (ps us : List Term) → T (fresh_test ps us) → Fresh ps us
fresh_test→ ps [] h = tt
fresh_test→ ps (u ∷ us) h = go (is_none (place_from 0 u ps)) (missing_test (place_from 0 u ps)) h (fresh_test→ (ps ++ (u ∷ [])) us)
  where
    go : (b : Bool) → (T b → place_from 0 u ps ≡ none) → T (if b (λ _. fresh_test (ps ++ (u ∷ [])) us) (λ _. false))
        → (T (fresh_test (ps ++ (u ∷ [])) us) → Fresh (ps ++ (u ∷ [])) us) → (In u ps → ⊥) × Fresh (ps ++ (u ∷ [])) us
    go true e h k = (absent→ 0 u ps (e tt), k h)
    go false e h k = absurd h

start_distinct : T (fresh_test [] start_terms)
unfolding start_terms place_from
start_distinct = tt

fresh_append : (ps us ws : List Term) → Fresh ps us → Fresh (ps ++ us) ws → Fresh ps (us ++ ws)
fresh_append ps [] ws f g = subst (λ (l : List Term). Fresh l ws) (append-nil ps) g
fresh_append ps (u ∷ us) ws f g =
    (f.0, fresh_append (ps ++ (u ∷ [])) us ws f.1 (subst (λ (l : List Term). Fresh l ws) (sym (append_assoc ps (u ∷ []) us)) g))

pub holds_fresh : (tl al : ℕ) (ts : List Term) → Holds tl al ts → Fresh [] ts
holds_fresh tl al ts h =
    let d = direct← tl al ts h in subst (Fresh []) (sym d.whole)
    (fresh_append [] start_terms d.more (fresh_test→ [] start_terms start_distinct) d.fresh)

fresh_here : (ps us : List Term) (t : Term) (ws : List Term) → Fresh ps (us ++ (t ∷ ws)) → In t us → ⊥
fresh_here ps us t ws f i = go ps us f i
  where
    later : (ps us : List Term) → Fresh ps (us ++ (t ∷ ws)) → In t (ps ++ us) → ⊥
    later ps [] f j = f.0 (subst (In t) (append-nil ps) j)
    later ps (u ∷ us) f j = later (ps ++ (u ∷ [])) us f.1 (subst (In t) (sym (append_assoc ps (u ∷ []) us)) j)

    go : (ps us : List Term) → Fresh ps (us ++ (t ∷ ws)) → In t us → ⊥
    go ps us f i = later ps us f (in_right ps i)

pub index_there : (i : ℕ) (us : List Term) (t : Term) (ws : List Term) → (In t us → ⊥)
    → place_from i t (us ++ (t ∷ ws)) ≡ some (i + length us)
unfolding place_from
index_there i [] t ws n = go (same_term t t) (same_term_refl t)
  where
    go : (b : Bool) → T b → (if b (λ _. some i) (λ _. place_from (suc i) t ws)) ≡ some (i + 0)
    go true h = let q : i ≡ i + 0 = omega arith in ap some q
    go false h = absurd h
index_there i (u ∷ us) t ws n = go (same_term t u) (same_term→ t u) (index_there (suc i) us t ws (λ j. n (there j)))
  where
    go : (b : Bool) → (T b → t ≡ u) → place_from (suc i) t (us ++ (t ∷ ws)) ≡ some (suc i + length us)
        → (if b (λ _. some i) (λ _. place_from (suc i) t (us ++ (t ∷ ws)))) ≡ some (i + suc (length us))
    go true e k = absurd (n (here (e tt)))
    go false e k = let q : suc i + length us ≡ i + suc (length us) = omega arith in k ∙ ap some q

-- FOUND: the id at which a term is found is the one that `place_from` gives
pub index_of : (ts : List Term) (j : ℕ) → Fresh [] ts → j < length ts → place_from 0 (get_or ts j no_term) ts ≡ some j
index_of ts j f h =
    let t = get_or ts j no_term in
    let e = split_at ts j no_term h in
    let n = fresh_here [] (take j ts) t (drop (suc j) ts) (subst (Fresh []) e f) in
    let q : 0 + length (take j ts) ≡ j = omega (arith, length-take-le j ts (omega arith)) in
    ap (place_from 0 t) e ∙ (index_there 0 (take j ts) t (drop (suc j) ts) n ∙ ap some q)

-- THE WALK: none of the ids behind j is t's, and j is 0 or in t's chain
pub record Walked (ts : List Term) (t : Term) (j : ℕ) : Type 0 where
  pub below : j < length ts
  pub none_behind : (k : ℕ) → j < k → k < length ts → get_or ts k no_term ≢ t
  pub in_chain : 0 < j → chain (get_or ts j no_term) ≡ chain t

from_prev : (ts : List Term) (t : Term) (i : ℕ) → 0 < i → i ≤ length ts
    → ((k : ℕ) → i ≤ k → k < length ts → get_or ts k no_term ≢ t) → Walked ts t (prev ts (chain t) i)
from_prev ts t i p l f =
    let h = prev_less ts (chain t) i p in record
    { below = omega arith; none_behind = λ k a b. go k a b (dec_lt k i); in_chain = prev_chain ts (chain t) i }
  where
    go : (k : ℕ) → prev ts (chain t) i < k → k < length ts → Dec (k < i) → get_or ts k no_term ≢ t
    go k a b (yes c) = λ e. prev_gap ts (chain t) i k a c (ap chain e)
    go k a b (no c) = f k (omega arith) b

-- the head of t's chain
pub walk_start : (ts : List Term) (t : Term) → 0 < length ts → Walked ts t (prev ts (chain t) (length ts))
walk_start ts t p = from_prev ts t (length ts) p (omega arith) (λ k a b. absurd (omega arith))

-- the next id
pub walk_step : (ts : List Term) (t : Term) (j : ℕ) → Walked ts t j → 0 < j → get_or ts j no_term ≢ t
    → Walked ts t (prev ts (chain (get_or ts j no_term)) j)
walk_step ts t j w p n =
    let l = w.below in subst (λ (c : ℕ). Walked ts t (prev ts c j)) (sym (w.in_chain p))
    (from_prev ts t j p (omega arith) (λ k a b. go k b (dec_lt j k) a))
  where
    go : (k : ℕ) → k < length ts → Dec (j < k) → j ≤ k → get_or ts k no_term ≢ t
    go k b (yes c) a = w.none_behind k c b
    go k b (no c) a = let q : j ≡ k = omega arith in subst (λ (x : ℕ). get_or ts x no_term ≢ t) q n

-- a term that stands in a list has a place there
pub in_place : (us : List Term) (t : Term) → In t us → (k : ℕ) × (k < length us) × (term_of us k ≡ t)
in_place [] t i = absurd (in_nil i)
in_place (u ∷ us) t i = pick (in_cons i) (λ j. in_place us t j)
  where
    pick : (t ≡ u) ⊎ In t us → (In t us → (k : ℕ) × (k < length us) × (term_of us k ≡ t))
        → (k : ℕ) × (k < length (u ∷ us)) × (term_of (u ∷ us) k ≡ t)
    pick (inl e) f = (0, omega arith, sym e)
    pick (inr j) f = let (k, l, e) = f j in (suc k, omega arith, e)

-- the chain's end: only id 0 is left
pub walk_end : (ts : List Term) (t : Term) → Walked ts t 0 → term_of ts 0 ≢ t → place_of t ts ≡ none
walk_end ts t w n = absent← 0 t ts (λ i. let (k, l, e) = in_place ts t i in go k l e)
  where
    go : (k : ℕ) → k < length ts → term_of ts k ≡ t → ⊥
    go zero l e = n e
    go (suc k) l e = w.none_behind (suc k) (omega arith) l e
