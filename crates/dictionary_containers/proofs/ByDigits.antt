-- BY DIGITS AND BY VALUE the same bytes are a container property's number. Values are compared digit by digit, so that no power of ten is
-- needed. Assumes nothing.
use mathlib.Core.Path.{◌≡◌, refl, sym, ◌∙◌, ap}
use mathlib.Core.Logic.{◌≢◌}
use mathlib.Core.Bool.{Bool, true, false, ◌&&◌}
use mathlib.Core.List.{List, [], ◌∷◌}
use Prim.Native.Nat.{ℕ, ◌+◌, ◌-◌, ◌*◌, ◌≤◌, ◌<◌}
use native.Mathlib.Omega.{arith}
use native.Mathlib.Decide.{dec_lt, ℕ_discrete}
use lib.Dec.{T, leb, leb→le}
use lib.ListN.{length, drop}
use borrow.Author.Tests.{lt-ltb, le-ltb, le-leb, lt-leb, eq-eqb, ne_eqb}
use Rattle.common.specs.Triples.{if}
use Rattle.common.specs.Digits.{is_digit, all_digits, value}
use Rattle.common.proofs.Lists.{and→}
use Rattle.dictionary_containers.specs.Containers.{is_number}
use Rattle.dictionary_containers.specs.ByDigits.{after_zeros, not_above, largest, in_range, is_number_by_digits}

-- THE CASES, each by its count
module _ (ds : List ℕ) where
  abbrev n : ℕ
  n = length ds

  pub over_twenty : 20 < n → false ≡ in_range ds
  unfolding in_range
  over_twenty h = sym (rw (ne_eqb n 0 (λ e. omega arith), lt-ltb 20 n h) refl)

  pub under_twenty : 1 ≤ n → n < 20 → true ≡ in_range ds
  unfolding in_range
  under_twenty l h = sym (rw (ne_eqb n 0 (λ e. omega arith), le-ltb 20 n (omega arith), lt-ltb n 20 h) refl)

  pub twenty : n ≡ 20 → not_above ds largest ≡ in_range ds
  unfolding in_range
  twenty h = sym (rw (ne_eqb n 0 (λ e. omega arith), le-ltb 20 n (omega arith), le-ltb n 20 (omega arith)) refl)

-- COMPARED DIGIT BY DIGIT: what the first digits decide
module _ (x y : ℕ) (xs ys : List ℕ) where
  pub smaller_first : x < y → not_above (x ∷ xs) (y ∷ ys) ≡ true
  unfolding not_above
  smaller_first h = rw (ne_eqb x y (λ e. omega arith), lt-ltb x y h) refl

  pub larger_first : y < x → not_above (x ∷ xs) (y ∷ ys) ≡ false
  unfolding not_above
  larger_first h = rw (ne_eqb x y (λ e. omega arith), le-ltb x y (omega arith)) refl

  pub same_first : x ≡ y → not_above (x ∷ xs) (y ∷ ys) ≡ not_above xs ys
  unfolding not_above
  same_first e = rw (eq-eqb x y e) refl

-- VALUES. The first of some digits, and the others
first_digit : (b : ℕ) (bs : List ℕ) → T (all_digits (b ∷ bs)) → (48 ≤ b) × (b ≤ 57) × T (all_digits bs)
unfolding all_digits
first_digit b bs t = go (is_digit b) (λ h. h) t
  where
    go : (c : Bool) → (T c → T (is_digit b)) → T (if c (λ _. all_digits bs) (λ _. false)) → (48 ≤ b) × (b ≤ 57) × T (all_digits bs)
    go true f u = let (l, h) = and→ (leb 48 b) (leb b 57) (f tt) in (leb→le 48 b l, leb→le b 57 h, u)
    go false f u = absurd u

value_grows : (v : ℕ) (bs : List ℕ) → v ≤ value v bs
unfolding value
value_grows v [] = omega arith
value_grows v (b ∷ bs) = let h = value_grows (10 * v + (b - 48)) bs in omega arith

-- digits after the smaller number, no more of them than bytes after the larger one
value_less : (v w : ℕ) (xs ys : List ℕ) → T (all_digits xs) → length xs ≤ length ys → v < w → value v xs < value w ys
unfolding value
value_less v w [] ys d l h = omega (arith, value_grows w ys)
value_less v w (x ∷ xs) [] d l h = absurd (omega arith)
value_less v w (x ∷ xs) (y ∷ ys) d l h =
    let (a, b, e) = first_digit x xs d in
    value_less (10 * v + (x - 48)) (10 * w + (y - 48)) xs ys e (omega arith) (omega arith)

-- as many digits after one number: compared digit by digit and by value
same_order : (v : ℕ) (xs ys : List ℕ) → T (all_digits xs) → T (all_digits ys) → length xs ≡ length ys
    → not_above xs ys ≡ leb (value v xs) (value v ys)
unfolding value not_above
same_order v [] [] d e l = sym (le-leb v v (omega arith))
same_order v [] (y ∷ ys) d e l = absurd (omega arith)
same_order v (x ∷ xs) [] d e l = absurd (omega arith)
same_order v (x ∷ xs) (y ∷ ys) d e l =
    let (a, b, d') = first_digit x xs d in
    let (f, g, e') = first_digit y ys e in
    go a f d' e' (omega arith) (same_order p xs ys d' e' (omega arith)) (dec_lt x y) (dec_lt y x)
  where
    p : ℕ
    p = 10 * v + (x - 48)

    q : ℕ
    q = 10 * v + (y - 48)

    go : 48 ≤ x → 48 ≤ y → T (all_digits xs) → T (all_digits ys) → length xs ≡ length ys
        → not_above xs ys ≡ leb (value p xs) (value p ys) → Dec (x < y) → Dec (y < x)
        → not_above (x ∷ xs) (y ∷ ys) ≡ leb (value p xs) (value q ys)
    go a f d' e' m ih (yes h) s =
        smaller_first x y xs ys h
        ∙ sym (le-leb (value p xs) (value q ys) (omega (arith, value_less p q xs ys d' (omega arith) (omega arith))))
    go a f d' e' m ih (no h) (yes k) =
        larger_first x y xs ys k
        ∙ sym (lt-leb (value p xs) (value q ys) (value_less q p ys xs e' (omega arith) (omega arith)))
    go a f d' e' m ih (no h) (no k) =
        let s : x ≡ y = omega arith in
        same_first x y xs ys s ∙ (ih ∙ ap (λ (z : ℕ). leb (value p xs) (value (10 * v + (z - 48)) ys)) s)

-- the value test of REFERENCE 4.2
abbrev most : ℕ
most = 18446744073709551615

abbrev value_in_range : ℕ → Bool
value_in_range v = leb 1 v && leb v most

-- digits of which the first is not 0, by how many they are
module _ (b : ℕ) (bs : List ℕ) (d : T (all_digits (b ∷ bs))) (n : b ≢ 48) where
  abbrev v : ℕ
  v = value 0 (b ∷ bs)

  some : 1 ≤ v
  unfolding value
  some = let (l, h, t) = first_digit b bs d in let g = value_grows (10 * 0 + (b - 48)) bs in omega arith

  few : length bs < 19 → in_range (b ∷ bs) ≡ value_in_range v
  unfolding value all_digits
  few l =
      let h : v ≤ most = omega (arith, value_less 0 1 (b ∷ bs) (drop 1 largest) d (omega arith) (omega arith)) in
      sym (under_twenty (b ∷ bs) (omega arith) (omega arith)) ∙ rw (le-leb 1 v some, le-leb v most h) refl

  as_many : length bs ≡ 19 → in_range (b ∷ bs) ≡ value_in_range v
  unfolding value all_digits
  as_many l =
      sym (twenty (b ∷ bs) (omega arith)) ∙ (same_order 0 (b ∷ bs) largest d tt (omega arith) ∙ rw (le-leb 1 v some) refl)

  many : 19 < length bs → in_range (b ∷ bs) ≡ value_in_range v
  unfolding value all_digits
  many l =
      let (lo, hi, t) = first_digit b bs d in
      let h : most < v = value_less 0 (10 * 0 + (b - 48)) largest bs tt (omega arith) (omega arith) in
      sym (over_twenty (b ∷ bs) (omega arith)) ∙ rw (le-leb 1 v some, lt-leb v most h) refl

  by_value : in_range (b ∷ bs) ≡ value_in_range v
  by_value = go (dec_lt (length bs) 19) (dec_lt 19 (length bs))
    where
      go : Dec (length bs < 19) → Dec (19 < length bs) → in_range (b ∷ bs) ≡ value_in_range v
      go (yes h) k = few h
      go (no h) (yes k) = many k
      go (no h) (no k) = as_many (omega arith)

-- leading zeros do not change the value
zeros_off : (bs : List ℕ) → T (all_digits bs) → in_range (after_zeros bs) ≡ value_in_range (value 0 bs)
unfolding after_zeros in_range value
zeros_off [] d = refl
zeros_off (b ∷ bs) d = go (ℕ_discrete b 48) (zeros_off bs (first_digit b bs d).2)
  where
    go : Dec (b ≡ 48) → in_range (after_zeros bs) ≡ value_in_range (value 0 bs)
        → in_range (after_zeros (b ∷ bs)) ≡ value_in_range (value 0 (b ∷ bs))
    go (yes e) ih =
        let q : 0 ≡ 10 * 0 + (b - 48) = omega (arith, e) in
        rw (eq-eqb b 48 e) (ih ∙ ap (λ (v : ℕ). value_in_range (value v bs)) q)
    go (no n) ih = rw (ne_eqb b 48 n) (by_value b bs d n)

-- BY DIGITS AND BY VALUE THE SAME BYTES PASS
pub digits_are_value : (bs : List ℕ) → is_number_by_digits bs ≡ is_number bs
unfolding is_number_by_digits is_number
digits_are_value bs = go (all_digits bs) (zeros_off bs)
  where
    go : (c : Bool) → (T c → in_range (after_zeros bs) ≡ value_in_range (value 0 bs))
        → (c && in_range (after_zeros bs)) ≡ (c && value_in_range (value 0 bs))
    go true f = f tt
    go false f = refl

-- THE TEST, once it is known whether all bytes are digits
pub number_when : (c : Bool) (bs : List ℕ) → c ≡ all_digits bs → (c && in_range (after_zeros bs)) ≡ is_number_by_digits bs
unfolding is_number_by_digits
number_when c bs e = ap (λ (b : Bool). b && in_range (after_zeros bs)) e
