-- Those of a list of terms that are not held, and their count. Assumes nothing.
use mathlib.Core.Path.{◌≡◌, ◌∙◌, ap}
use mathlib.Core.Option.{Option, some, none}
use mathlib.Core.List.{List, [], ◌∷◌}
use Prim.Native.Nat.{ℕ, ◌+◌, ◌≤◌}
use native.Mathlib.Omega.{arith}
use lib.Dec.{T}
use lib.ListN.{length}
use Rattle.dictionary_layout.specs.declared.values.Counters.{Counters}
use Rattle.common.specs.Sizes.{term_limit}
use Rattle.dictionary_layout.specs.Terms.{Term, property_term, membership_term, member_term, run_terms}
use Rattle.dictionary_layout.specs.Layout.{Dict, sum, size, decode}
use Rattle.dictionary_layout.specs.Dictionary.{place_of, valid}
use Rattle.dictionary_run_terms.specs.Running.{count_at, counted, Countable}
use Rattle.dictionary_entries.proofs.Reading.{lengths}

-- THOSE NOT HELD
abbrev pub new_at : Option ℕ → Term → List Term → List Term
new_at (some i) t r = r
new_at none t r = t ∷ r

unfoldable pub new : List Term → List Term → List Term
new ts [] = []
new ts (t ∷ r) = new_at (place_of t ts) t (new ts r)

-- counting them
abbrev pub count_all : List Term → List Term → Counters → Counters
count_all ts [] c = c
count_all ts (t ∷ r) c = count_all ts r (counted ts t c)

pub count_new : (ts r : List Term) (c : Counters) → ((count_all ts r c).terms ≡ c.terms + length (new ts r))
    × ((count_all ts r c).used ≡ c.used + size (new ts r))
unfolding new
count_new ts [] c = (omega arith, omega arith)
count_new ts (t ∷ r) c = go (place_of t ts) (count_new ts r)
  where
    go : (o : Option ℕ) → ((c : Counters) → ((count_all ts r c).terms ≡ c.terms + length (new ts r))
        × ((count_all ts r c).used ≡ c.used + size (new ts r)))
        → ((count_all ts r (count_at o t c)).terms ≡ c.terms + length (new_at o t (new ts r)))
        × ((count_all ts r (count_at o t c)).used ≡ c.used + size (new_at o t (new ts r)))
    go (some i) f = f c
    go none f = let (a, b) = f (record { terms = c.terms + 1; used = c.used + length t.bytes }) in (omega arith, omega arith)

-- COUNTING ONE
module _ (ts : List Term) (t : Term) (c : Counters) where
  pub count_held : {i : ℕ} → some i ≡ place_of t ts → c ≡ counted ts t c
  count_held e = ap (λ (o : Option ℕ). count_at o t c) e

  pub count_more : none ≡ place_of t ts → ◌≡◌ {A = Counters} (record { terms = c.terms + 1; used = c.used + length t.bytes })
      (counted ts t c)
  count_more e = ap (λ (o : Option ℕ). count_at o t c) e

-- by at most one term and its bytes
pub counted_below : (ts : List Term) (t : Term) (c : Counters)
    → ((counted ts t c).terms ≤ c.terms + 1) × ((counted ts t c).used ≤ c.used + length t.bytes)
counted_below ts t c = go (place_of t ts)
  where
    go : (o : Option ℕ) → ((count_at o t c).terms ≤ c.terms + 1) × ((count_at o t c).used ≤ c.used + length t.bytes)
    go (some i) = (omega arith, omega arith)
    go none = (omega arith, omega arith)

-- what counting needs, where at most two were counted
pub countable : (d : Dict) → T (valid d) → (iri : List ℕ) (sum : Counters) → length iri ≤ term_limit → sum.terms ≤ d.terms + 2
    → sum.used ≤ d.used + 200 → Countable d iri sum
countable d v iri sum s a b =
    let l = lengths d v in record { unbroken = v; short = s; terms = omega (arith, l.few); used = omega (arith, l.bytes, l.arena) }

-- after one, and after two
module _ (d : Dict) (t : Term) {c₁ : Counters} (e : c₁ ≡ counted (decode d) t (record { terms = d.terms; used = d.used })) where
  pub counted_one : length t.bytes ≤ 100 → (c₁.terms ≤ d.terms + 2) × (c₁.used ≤ d.used + 200)
  counted_one h =
      let b = counted_below (decode d) t (record { terms = d.terms; used = d.used }) in
      (omega (arith, b.0, ap (λ (x : Counters). x.terms) e), omega (arith, b.1, ap (λ (x : Counters). x.used) e))

  pub counted_two : (u : Term) {c₂ : Counters} → c₂ ≡ counted (decode d) u c₁ → length t.bytes ≤ 100
      → length u.bytes ≤ 100 → (c₂.terms ≤ d.terms + 2) × (c₂.used ≤ d.used + 200)
  counted_two u f h k =
      let b = counted_below (decode d) t (record { terms = d.terms; used = d.used }) in
      let g = counted_below (decode d) u c₁ in (
        omega (arith, b.0, g.0, ap (λ (x : Counters). x.terms) e, ap (λ (x : Counters). x.terms) f),
        omega (arith, b.1, g.1, ap (λ (x : Counters). x.used) e, ap (λ (x : Counters). x.used) f),
      )

-- all three
pub counted_three : (ts : List Term) (c : Counters) {c₁ c₂ c₃ : Counters} → c₁ ≡ counted ts property_term c
    → c₂ ≡ counted ts membership_term c₁ → c₃ ≡ counted ts member_term c₂ → c₃ ≡ count_all ts run_terms c
unfolding run_terms
counted_three ts c e f g = g ∙ ap (counted ts member_term) (f ∙ ap (counted ts membership_term) e)
