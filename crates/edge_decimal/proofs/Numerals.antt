-- The two definitions of decimal numbers agree: `number` reads exactly what `digits` writes. Assumes nothing.
use mathlib.Core.Path.{◌≡◌, refl, sym, ap, ◌∙◌}
use mathlib.Core.Logic.{◌⊎◌, inl, inr}
use mathlib.Core.Bool.{true, false, ◌&&◌, true≢false}
use mathlib.Core.Option.{some, none}
use mathlib.Core.List.{List, [], ◌∷◌, ◌++◌, append_assoc, append-nil}
use Prim.Native.Nat.{ℕ, ◌+◌, ◌-◌, ◌*◌, ◌/◌, ◌%◌, ◌≤◌, ◌<◌}
use native.Mathlib.Nat.{zero-add}
use native.Mathlib.Omega.{arith}
use lib.Dec.{leb, ltb, eqb}
use lib.ListN.{length, get_or, get_or-append}
use borrow.Author.Tests.{ltb-true, ltb-false, leb-true, leb-false, eqb-false, le-leb, lt-leb, eq-eqb, ne_eqb}
use Rattle.common.specs.Digits.{is_digit, all_digits, value}
use Rattle.edge_decimal.specs.Decimal.{no_leading_zero, number, digits}
use Rattle.edge_decimal.proofs.Digits.{either, digits_one, digits_next, by_digits, some_digits}

-- DIGITS READ one after the other
all_append : (xs ys : List ℕ) → all_digits (xs ++ ys) ≡ all_digits xs && all_digits ys
unfolding all_digits
all_append [] ys = refl
all_append (b ∷ xs) ys = go (all_append xs ys) (either (is_digit b))
  where
    go : all_digits (xs ++ ys) ≡ all_digits xs && all_digits ys → (is_digit b ≡ true) ⊎ (is_digit b ≡ false)
        → all_digits (b ∷ xs ++ ys) ≡ all_digits (b ∷ xs) && all_digits ys
    go ih (inl e) = rw (e, ih) refl
    go ih (inr e) = rw e refl

-- the value of digits and further digits
value_append : (v : ℕ) (xs ys : List ℕ) → value v (xs ++ ys) ≡ value (value v xs) ys
unfolding value
value_append v [] ys = refl
value_append v (b ∷ xs) ys = value_append (10 * v + (b - 48)) xs ys

-- digits read later only add to the value
pub value_grows : (v : ℕ) (bs : List ℕ) → v ≤ value v bs
unfolding value
value_grows v [] = omega arith
value_grows v (b ∷ bs) = let g = value_grows (10 * v + (b - 48)) bs in omega arith

-- a digit's byte
pub digit_byte : (d : ℕ) → d < 10 → is_digit (48 + d) ≡ true
digit_byte d h = rw (le-leb 48 (48 + d) (omega arith), le-leb (48 + d) 57 (omega arith)) refl

-- what `digits` writes are digits,
all_of_digits : (n : ℕ) → all_digits (digits n) ≡ true
unfolding all_digits
all_of_digits =
    by_digits (λ n ds. all_digits ds ≡ true) (λ n h. rw (digit_byte n h) refl)
    (λ n h i. all_append (digits (n / 10)) ((48 + n % 10) ∷ []) ∙ rw (i, digit_byte (n % 10) (omega arith)) refl)

-- of the value of the number
value_of_digits : (n : ℕ) → value 0 (digits n) ≡ n
unfolding value
value_of_digits =
    by_digits (λ n ds. value 0 ds ≡ n) (λ n h. omega arith)
    (λ n h i. value_append 0 (digits (n / 10)) ((48 + n % 10) ∷ []) ∙ rw i (omega arith))

-- NUMBER, by its tests
pub number_some : (most : ℕ) (bs : List ℕ) → no_leading_zero bs ≡ true → all_digits bs ≡ true → value 0 bs ≤ most
    → number most bs ≡ some (value 0 bs)
unfolding number
number_some most bs z a h = rw (z, a, le-leb (value 0 bs) most h) refl

-- no byte, or a zero in front,
pub zero_led : (most : ℕ) (bs : List ℕ) → no_leading_zero bs ≡ false → number most bs ≡ none
unfolding number
zero_led most bs z = rw z refl

-- another byte than a digit,
pub no_digit : (most : ℕ) (bs : List ℕ) → all_digits bs ≡ false → number most bs ≡ none
unfolding number
no_digit most bs a = go (either (no_leading_zero bs))
  where
    go : (no_leading_zero bs ≡ true) ⊎ (no_leading_zero bs ≡ false) → number most bs ≡ none
    go (inl z) = rw (z, a) refl
    go (inr z) = rw z refl

-- or too large a value: no number
pub too_large : (most : ℕ) (bs : List ℕ) → most < value 0 bs → number most bs ≡ none
unfolding number
too_large most bs h = go (either (no_leading_zero bs)) (either (all_digits bs))
  where
    go : (no_leading_zero bs ≡ true) ⊎ (no_leading_zero bs ≡ false) → (all_digits bs ≡ true) ⊎ (all_digits bs ≡ false)
        → number most bs ≡ none
    go (inl z) (inl a) = rw (z, a, lt-leb (value 0 bs) most h) refl
    go (inl z) (inr a) = rw (z, a) refl
    go (inr z) a = rw z refl

-- the tests of a number that was read
pub record Numeral (most : ℕ) (bs : List ℕ) (n : ℕ) : Type 0 where
  pub led : no_leading_zero bs ≡ true
  pub all : all_digits bs ≡ true
  pub is : value 0 bs ≡ n
  pub most_is : n ≤ most

-- a number that was read passed them all
pub numeral : (most : ℕ) (bs : List ℕ) (n : ℕ) → number most bs ≡ some n → Numeral most bs n
unfolding number
numeral most bs n e = go (either (no_leading_zero bs)) (either (all_digits bs)) (either (leb (value 0 bs) most))
  where
    clash : number most bs ≡ none → Numeral most bs n
    clash f = let z : ◌≡◌ {A = ℕ} 0 1 = cc in absurd (omega arith)

    go : (no_leading_zero bs ≡ true) ⊎ (no_leading_zero bs ≡ false) → (all_digits bs ≡ true) ⊎ (all_digits bs ≡ false)
        → (leb (value 0 bs) most ≡ true) ⊎ (leb (value 0 bs) most ≡ false) → Numeral most bs n
    go (inr z) a v = clash (zero_led most bs z)
    go (inl z) (inr a) v = clash (no_digit most bs a)
    go (inl z) (inl a) (inr v) = clash (too_large most bs (leb-false (value 0 bs) most v))
    go (inl z) (inl a) (inl v) =
        let h = leb-true (value 0 bs) most v in
        let s = number_some most bs z a h in
        let i : value 0 bs ≡ n = cc in
        record { led = z; all = a; is = i; most_is = omega arith }

-- the first byte decides whether a zero leads
pub leads : (bs : List ℕ) → get_or bs 0 0 ≡ 48 → 1 < length bs → no_leading_zero bs ≡ false
leads [] e h = absurd (omega arith)
leads (b ∷ []) e h = absurd (omega arith)
leads (b ∷ c ∷ bs) e h = rw (eq-eqb b 48 e) refl

-- and where none does
pub leads_not : (bs : List ℕ) → (1 < length bs → get_or bs 0 0 ≡ 48 → ⊥) → 0 < length bs → no_leading_zero bs ≡ true
leads_not [] f h = absurd (omega arith)
leads_not (b ∷ []) f h = refl
leads_not (b ∷ c ∷ bs) f h = rw (ne_eqb b 48 (f (omega arith))) refl

-- no byte is no number
pub number_empty : (most : ℕ) (bs : List ℕ) → length bs ≡ 0 → number most bs ≡ none
number_empty most [] h = zero_led most [] refl
number_empty most (b ∷ bs) h = absurd (omega arith)

-- the digits of a number that is not 0 begin with another digit than 0,
first_digit : (n : ℕ) → 0 < n → get_or (digits n) 0 0 ≡ 48 → ⊥
first_digit = by_digits (λ n ds. 0 < n → get_or ds 0 0 ≡ 48 → ⊥) (λ n h i e. omega arith)
    (λ n h f i e. f (omega arith) (sym (get_or-append (digits (n / 10)) ((48 + n % 10) ∷ []) 0 0 (some_digits (n / 10))) ∙ e))

-- so that `digits` puts no zero in front
digits_led : (n : ℕ) → no_leading_zero (digits n) ≡ true
digits_led n = go (either (ltb n 10))
  where
    go : (ltb n 10 ≡ true) ⊎ (ltb n 10 ≡ false) → no_leading_zero (digits n) ≡ true
    go (inl e) = rw (digits_one n (ltb-true n 10 e)) refl
    go (inr e) = let h = ltb-false n 10 e in leads_not (digits n) (λ l. first_digit n (omega arith)) (some_digits n)

-- THE TWO DEFINITIONS AGREE: the digits of a number are read as that number,
pub number_digits : (most n : ℕ) → n ≤ most → number most (digits n) ≡ some n
number_digits most n h =
    let v = value_of_digits n in
    number_some most (digits n) (digits_led n) (all_of_digits n) (omega arith) ∙ ap some v

-- a digit's byte is from 48 to 57
digit_of : (b : ℕ) → is_digit b ≡ true → (48 ≤ b) × (b ≤ 57)
digit_of b e = go (either (leb 48 b)) (either (leb b 57))
  where
    go : (leb 48 b ≡ true) ⊎ (leb 48 b ≡ false) → (leb b 57 ≡ true) ⊎ (leb b 57 ≡ false) → (48 ≤ b) × (b ≤ 57)
    go (inl l) (inl r) = (leb-true 48 b l, leb-true b 57 r)
    go (inl l) (inr r) = let z : true ≡ false = sym e ∙ rw (l, r) refl in absurd (true≢false z)
    go (inr l) r = let z : true ≡ false = sym e ∙ rw l refl in absurd (true≢false z)

-- digits that follow those of v, which is not 0
digits_follow : (v : ℕ) (bs : List ℕ) → 0 < v → all_digits bs ≡ true → digits (value v bs) ≡ digits v ++ bs
unfolding all_digits value
digits_follow v [] h a = sym (append-nil (digits v))
digits_follow v (b ∷ bs) h a = go (λ w i. digits_follow w bs i) (either (is_digit b))
  where
    go : ((w : ℕ) → 0 < w → all_digits bs ≡ true → digits (value w bs) ≡ digits w ++ bs)
        → (is_digit b ≡ true) ⊎ (is_digit b ≡ false) → digits (value (10 * v + (b - 48)) bs) ≡ digits v ++ b ∷ bs
    go f (inr e) = let z : true ≡ false = sym a ∙ rw e refl in absurd (true≢false z)
    go f (inl e) =
        let d = digit_of b e in
        let g : 48 + (b - 48) ≡ b = omega arith in
        f (10 * v + (b - 48)) (omega arith) (rw e at a) ∙ rw (digits_next v (b - 48) h (omega arith), append_assoc, g) refl

-- the byte that `digits` writes for one digit
digits_byte : (b : ℕ) → is_digit b ≡ true → digits (b - 48) ≡ b ∷ []
digits_byte b e =
    let d = digit_of b e in
    let g : 48 + (b - 48) ≡ b = omega arith in
    digits_one (b - 48) (omega arith) ∙ rw g refl

-- what follows one digit that leads
digits_led_by : (b : ℕ) (bs : List ℕ) → no_leading_zero (b ∷ bs) ≡ true → is_digit b ≡ true → all_digits bs ≡ true
    → digits (value (b - 48) bs) ≡ b ∷ bs
unfolding value
digits_led_by b [] z e a = digits_byte b e
digits_led_by b (c ∷ bs) z e a = go (either (eqb b 48))
  where
    go : (eqb b 48 ≡ true) ⊎ (eqb b 48 ≡ false) → digits (value (b - 48) (c ∷ bs)) ≡ b ∷ c ∷ bs
    go (inl q) = let w : true ≡ false = sym z ∙ rw q refl in absurd (true≢false w)
    go (inr q) =
        let d = digit_of b e in
        let f = eqb-false b 48 q in
        digits_follow (b - 48) (c ∷ bs) (omega arith) a ∙ rw (digits_byte b e) refl

-- and what is read as a number is that number's digits
pub digits_number : (most : ℕ) (bs : List ℕ) (n : ℕ) → number most bs ≡ some n → bs ≡ digits n
unfolding all_digits value
digits_number most [] n e = let m = numeral most [] n e in absurd (true≢false (sym m.led))
digits_number most (b ∷ bs) n e = go (either (is_digit b)) (numeral most (b ∷ bs) n e)
  where
    go : (is_digit b ≡ true) ⊎ (is_digit b ≡ false) → Numeral most (b ∷ bs) n → b ∷ bs ≡ digits n
    go (inr f) m = let w : true ≡ false = sym m.all ∙ rw f refl in absurd (true≢false w)
    go (inl f) m =
        sym (digits_led_by b bs m.led f (rw f at m.all))
        ∙ ap digits (ap (λ v. value v bs) (sym (zero-add (b - 48))) ∙ m.is)
