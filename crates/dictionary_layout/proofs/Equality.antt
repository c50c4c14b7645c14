-- The tests of equality of rows, terms and contents say what they seem to say. Assumes nothing.
use mathlib.Core.Path.{◌≡◌, refl, ap₂, subst}
use mathlib.Core.Bool.{Bool, true, false, ◌&&◌}
use mathlib.Core.List.{List, [], ◌∷◌}
use Prim.Native.Nat.{ℕ}
use lib.Dec.{T, eqb, eqb→eq, eqb_refl}
use lib.ListN.{length, replicate}
use Rattle.std.specs.List.{list_all}
use Rattle.std.specs.Cmp.Lexicographic.{pointwise}
use Rattle.common.specs.Triples.{if}
use Rattle.common.proofs.Lists.{and→, and←}
use Rattle.dictionary_layout.specs.Terms.{Term}
use Rattle.dictionary_layout.specs.Layout.{Dict}
use Rattle.dictionary_layout.specs.Dictionary.{same_row, same_term, same_dict}

pub same_row_refl : (r : List ℕ) → T (same_row r r)
same_row_refl [] = tt
same_row_refl (a ∷ r) = go (eqb a a) (eqb_refl a) (same_row_refl r)
  where
    go : (b : Bool) → T b → T (same_row r r) → T (if b (λ _. same_row r r) (λ _. false))
    go true t h = h
    go false t h = absurd t

pub same_row→ : (r s : List ℕ) → T (same_row r s) → r ≡ s
same_row→ [] [] h = refl
same_row→ [] (b ∷ s) h = absurd h
same_row→ (a ∷ r) [] h = absurd h
same_row→ (a ∷ r) (b ∷ s) h = go (eqb a b) (eqb→eq a b) h (same_row→ r s)
  where
    go : (c : Bool) → (T c → a ≡ b) → T (if c (λ _. same_row r s) (λ _. false)) → (T (same_row r s) → r ≡ s) → a ∷ r ≡ b ∷ s
    go true f h k = ap₂ (λ x y. x ∷ y) (f tt) (k h)
    go false f h k = absurd h

pub same_term_refl : (t : Term) → T (same_term t t)
same_term_refl t = and← (eqb t.kind t.kind) (same_row t.bytes t.bytes) (eqb_refl t.kind) (same_row_refl t.bytes)

pub same_term→ : (t u : Term) → T (same_term t u) → t ≡ u
same_term→ t u h =
    let (a, b) = and→ (eqb t.kind u.kind) (same_row t.bytes u.bytes) h in
    let e = eqb→eq t.kind u.kind a in
    let f = same_row→ t.bytes u.bytes b in
    λ i. record { kind = e i; bytes = f i }

pub same_dict_refl : (d : Dict) → T (same_dict d d)
same_dict_refl d =
    and← (eqb d.terms d.terms) (eqb d.used d.used &&
    (same_row d.table d.table && same_row d.arena d.arena)) (eqb_refl d.terms)
    (and← (eqb d.used d.used) (same_row d.table d.table && same_row d.arena d.arena) (eqb_refl d.used)
    (and← (same_row d.table d.table) (same_row d.arena d.arena) (same_row_refl d.table) (same_row_refl d.arena)))

pub same_dict→ : (d e : Dict) → T (same_dict d e) → d ≡ e
same_dict→ d e h =
    let (a, h₁) = and→ (eqb d.terms e.terms)
    (eqb d.used e.used && (same_row d.table e.table && same_row d.arena e.arena)) h in
    let (b, h₂) = and→ (eqb d.used e.used) (same_row d.table e.table && same_row d.arena e.arena) h₁ in
    let (c, g) = and→ (same_row d.table e.table) (same_row d.arena e.arena) h₂ in
    let ea = eqb→eq d.terms e.terms a in
    let eb = eqb→eq d.used e.used b in
    let ec = same_row→ d.table e.table c in
    let eg = same_row→ d.arena e.arena g in
    λ i. record { table = ec i; arena = eg i; terms = ea i; used = eb i }

-- equal rows pass the test
pub same_rows : {r s : List ℕ} → r ≡ s → T (same_row r s)
same_rows {r} e = subst (λ (x : List ℕ). T (same_row r x)) e (same_row_refl r)

-- what `==` of two rows computes
pub rows_equal : (r s : List ℕ) → pointwise eqb r s ≡ same_row r s
rows_equal [] [] = refl
rows_equal [] (b ∷ s) = refl
rows_equal (a ∷ r) [] = refl
rows_equal (a ∷ r) (b ∷ s) = go (eqb a b) (rows_equal r s)
  where
    go : (c : Bool) → pointwise eqb r s ≡ same_row r s → (c && pointwise eqb r s) ≡ if c (λ _. same_row r s) (λ _. false)
    go true e = e
    go false e = refl

-- and what the test of each number of a row for zero does
pub all_zero : (r : List ℕ) → list_all (λ x. eqb x 0) r ≡ same_row r (replicate (length r) 0)
all_zero [] = refl
all_zero (a ∷ r) = go (eqb a 0) (all_zero r)
  where
    go : (c : Bool) → list_all (λ x. eqb x 0) r ≡ same_row r (replicate (length r) 0)
        → (c && list_all (λ x. eqb x 0) r) ≡ if c (λ _. same_row r (replicate (length r) 0)) (λ _. false)
    go true e = e
    go false e = refl
