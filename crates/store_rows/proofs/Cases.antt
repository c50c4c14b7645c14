-- Cases of numbers and answers. Assumes nothing.
use Rattle.std.proofs.Common.{◌≡◌, ℕ, ◌+◌, ◌<◌, ◌≤◌, true, false, ◌⊎◌, sym, inl, inr, arith}
use native.Mathlib.Decide.{dec_lt, ℕ_discrete}
use Rattle.store_rows.specs.Rows.{Reflects}

-- a number is another, or it is not
pub is_or_not : (a b : ℕ) → (a ≡ b) ⊎ (a ≡ b → ⊥)
is_or_not a b = elim (ℕ_discrete a b) [ yes e ↦ inl e | no f ↦ inr f ]

-- of two numbers one is at most the other
pub le_or : (a b : ℕ) → (a ≤ b) ⊎ (b < a)
le_or a b = elim (dec_lt b a) [ yes e ↦ inr e | no f ↦ inl (omega arith) ]

-- two numbers are the same, or one is below the other
pub three : (k i : ℕ) → (k ≡ i) ⊎ ((k < i) ⊎ (i < k))
three k i = go (dec_lt k i) (dec_lt i k)
  where
    go : Dec (k < i) → Dec (i < k) → (k ≡ i) ⊎ ((k < i) ⊎ (i < k))
    go (yes p) q = inr (inl p)
    go (no p) (yes q) = inr (inr q)
    go (no p) (no q) = inl (omega arith)

-- a number is i, or j, or neither
pub which : (i j k : ℕ) → (k ≡ i) ⊎ (((k ≡ i → ⊥) × (k ≡ j)) ⊎ ((k ≡ i → ⊥) × (k ≡ j → ⊥)))
which i j k = go (is_or_not k i) (is_or_not k j)
  where
    go : (k ≡ i) ⊎ (k ≡ i → ⊥) → (k ≡ j) ⊎ (k ≡ j → ⊥) → (k ≡ i) ⊎ (((k ≡ i → ⊥) × (k ≡ j)) ⊎ ((k ≡ i → ⊥) × (k ≡ j → ⊥)))
    go (inl e) q = inl e
    go (inr n) (inl e) = inr (inl (n, e))
    go (inr n) (inr o) = inr (inr (n, o))

-- below the next number: below it, or it
pub below_or : (i n : ℕ) → i < n + 1 → (i < n) ⊎ (i ≡ n)
below_or i n h = elim (dec_lt i n) [ yes e ↦ inl e | no f ↦ inr (omega arith) ]

-- the two answers differ
pub true_false : {A : Type 0} → true ≡ false → A
true_false e = absurd (let z : ◌≡◌ {A = ℕ} 0 1 = cc in omega arith)

-- a test that failed
pub reflects_no : {P : Type 0} → (P → ⊥) → Reflects P false
reflects_no f = record { yes = λ e. true_false (sym e); no = λ _. f }
