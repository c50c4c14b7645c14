-- What `digits` writes, by its recursion; and how many digits a number has. Assumes nothing.
use mathlib.Core.Path.{◌≡◌, refl, ap, ◌∙◌}
use mathlib.Core.Logic.{◌⊎◌, inl, inr}
use mathlib.Core.Bool.{Bool, true, false}
use mathlib.Core.List.{List, [], ◌∷◌, ◌++◌}
use Prim.Native.Nat.{ℕ, zero, suc, ◌+◌, ◌*◌, ◌/◌, ◌%◌, ◌^◌, ◌≤◌, ◌<◌}
use native.Mathlib.Nat.{pow-suc}
use native.Mathlib.Omega.{arith}
use lib.Dec.{ltb}
use lib.ListN.{length, length-append}
use borrow.Author.Tests.{ltb-true, ltb-false, lt-ltb, le-ltb}
use Rattle.edge_decimal.specs.Decimal.{digits_within, digits}

-- a test is one or the other
pub either : (b : Bool) → (b ≡ true) ⊎ (b ≡ false)
either true = inl refl
either false = inr refl

-- DIGITS, by their recursion. More digits than n suffice.
enough : (k m n : ℕ) → n < k → n < m → digits_within k n ≡ digits_within m n
unfolding digits_within
enough zero m n h i = absurd (omega arith)
enough (suc k) zero n h i = absurd (omega arith)
enough (suc k) (suc m) n h i = go (λ a b. enough k m (n / 10) a b) (either (ltb n 10))
  where
    go : (n / 10 < k → n / 10 < m → digits_within k (n / 10) ≡ digits_within m (n / 10))
        → (ltb n 10 ≡ true) ⊎ (ltb n 10 ≡ false) → digits_within (suc k) n ≡ digits_within (suc m) n
    go f (inl e) = rw e refl
    go f (inr e) =
        let more = ltb-false n 10 e in
        rw e (ap (λ ds. ds ++ ((48 + n % 10) ∷ [])) (f (omega arith) (omega arith)))

-- one digit,
pub digits_one : (n : ℕ) → n < 10 → digits n ≡ (48 + n) ∷ []
unfolding digits digits_within
digits_one n h = rw (lt-ltb n 10 h) refl

-- and one digit after the others
pub digits_more : (n : ℕ) → 10 ≤ n → digits n ≡ digits (n / 10) ++ ((48 + n % 10) ∷ [])
unfolding digits digits_within
digits_more n h = rw (le-ltb n 10 h) (ap (λ ds. ds ++ ((48 + n % 10) ∷ [])) (enough n (suc (n / 10)) (n / 10) (omega arith) (omega arith)))

-- the same, from the front: one digit more
pub digits_next : (v d : ℕ) → 0 < v → d < 10 → digits (10 * v + d) ≡ digits v ++ ((48 + d) ∷ [])
digits_next v d h i =
    let q : (10 * v + d) / 10 ≡ v = omega arith in
    let r : (10 * v + d) % 10 ≡ d = omega arith in
    digits_more (10 * v + d) (omega arith) ∙ rw (q, r) refl

-- what holds of one digit and of one digit more holds of the digits of every number
pub by_digits : (P : ℕ → List ℕ → Type 0) → ((n : ℕ) → n < 10 → P n ((48 + n) ∷ []))
    → ((n : ℕ) → 10 ≤ n → P (n / 10) (digits (n / 10)) → P n (digits (n / 10) ++ ((48 + n % 10) ∷ []))) → (n : ℕ) → P n (digits n)
by_digits P one more n = go (suc n) n (omega arith)
  where
    step : (k m : ℕ) → ((i : ℕ) → i < k → P i (digits i)) → m < suc k → (ltb m 10 ≡ true) ⊎ (ltb m 10 ≡ false) → P m (digits m)
    step k m ih h (inl e) = let l = ltb-true m 10 e in rw (digits_one m l) (one m l)
    step k m ih h (inr e) = let l = ltb-false m 10 e in rw (digits_more m l) (more m l (ih (m / 10) (omega arith)))

    go : (k m : ℕ) → m < k → P m (digits m)
    go zero m h = absurd (omega arith)
    go (suc k) m h = step k m (λ i l. go k i l) h (either (ltb m 10))

-- a number below 10 ^ k has at most k digits, and at least one
pub few_digits : (k n : ℕ) → n < 10 ^ suc k → length (digits n) ≤ suc k
few_digits zero n h = rw (digits_one n h) (omega arith)
few_digits (suc k) n h = go (either (ltb n 10)) (λ i. few_digits k (n / 10) i)
  where
    go : (ltb n 10 ≡ true) ⊎ (ltb n 10 ≡ false) → (n / 10 < 10 ^ suc k → length (digits (n / 10)) ≤ suc k) → length (digits n) ≤ suc
        (suc k)
    go (inl e) ih = rw (digits_one n (ltb-true n 10 e)) (omega arith)
    go (inr e) ih =
        rw (digits_more n (ltb-false n 10 e)) (simp length-append (let w = pow-suc 10 (suc k) in omega (arith, ih (omega arith))))

-- every number has a digit
pub some_digits : (n : ℕ) → 0 < length (digits n)
some_digits = by_digits (λ n ds. 0 < length ds) (λ n h. omega arith) (λ n h i. simp length-append (omega arith))
