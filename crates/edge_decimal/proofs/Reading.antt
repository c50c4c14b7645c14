-- The loop that reads a number. Assumes nothing.
use mathlib.Core.Path.{◌≡◌, refl, ap, ◌∙◌}
use mathlib.Core.Logic.{◌⊎◌, inl, inr}
use mathlib.Core.Bool.{true, false}
use mathlib.Core.Option.{some, none}
use mathlib.Core.List.{List, []}
use Prim.Native.Nat.{ℕ, suc, ◌+◌, ◌-◌, ◌*◌, ◌≤◌, ◌<◌}
use native.Mathlib.Numerals.{add-one}
use native.Mathlib.Omega.{arith}
use lib.ListN.{length, get_or, drop, drop_of_length-le}
use lib.Seq.{drop-cons}
use borrow.Author.Tests.{le-leb, lt-leb}
use Rattle.common.specs.Triples.{if}
use Rattle.common.specs.Digits.{is_digit, all_digits, value}
use Rattle.edge_decimal.specs.Decimal.{no_leading_zero, number}
use Rattle.edge_decimal.proofs.Numerals.{value_grows, number_some, no_digit, too_large}

-- THE LOOP that reads a number: what is left gives the same as the whole
pub record Counted (bs : List ℕ) (most i v : ℕ) : Type 0 where
  pub upto : i ≤ length bs
  pub all : all_digits bs ≡ all_digits (drop i bs)
  pub is : value 0 bs ≡ value v (drop i bs)
  pub small : v ≤ most

module _ {bs : List ℕ} {most i v : ℕ} (c : Counted bs most i v) (h : i < length bs) where
  -- the digit at i, and what is left after it
  next_all : all_digits bs ≡ if (is_digit (get_or bs i 0)) (λ _. all_digits (drop (suc i) bs)) (λ _. false)
  unfolding all_digits
  next_all = c.all ∙ rw (drop-cons bs i 0 h) refl

  -- its value
  next_value : value 0 bs ≡ value (10 * v + (get_or bs i 0 - 48)) (drop (suc i) bs)
  unfolding value
  next_value = c.is ∙ rw (drop-cons bs i 0 h) refl

  -- a byte that is no digit
  pub counted_bad : (get_or bs i 0 < 48) ⊎ (57 < get_or bs i 0) → number most bs ≡ none
  counted_bad (inl l) = no_digit most bs (next_all ∙ rw (lt-leb 48 (get_or bs i 0) l) refl)
  counted_bad (inr r) = no_digit most bs (next_all ∙ rw (le-leb 48 (get_or bs i 0) (omega arith), lt-leb (get_or bs i 0) 57 r) refl)

  -- a value over the limit only grows
  pub counted_over : most < 10 * v + (get_or bs i 0 - 48) → number most bs ≡ none
  counted_over l =
      let g = value_grows (10 * v + (get_or bs i 0 - 48)) (drop (suc i) bs) in let e = next_value in too_large most bs (omega arith)

  -- one digit more
  pub counted_step : 48 ≤ get_or bs i 0 → get_or bs i 0 ≤ 57 → 10 * v + (get_or bs i 0 - 48) ≤ most
      → Counted bs most (i + 1) (10 * v + (get_or bs i 0 - 48))
  counted_step l r s = rw add-one (record {
    upto = h;
    all = next_all ∙ rw (le-leb 48 (get_or bs i 0) l, le-leb (get_or bs i 0) 57 r) refl;
    is = next_value;
    small = s;
  })

-- no byte is left
pub counted_end : {bs : List ℕ} {most i v : ℕ} → Counted bs most i v → length bs ≤ i → no_leading_zero bs ≡ true → number most bs ≡ some v
unfolding all_digits value
counted_end {bs} {most} {i} {v} c h z =
    let d : drop i bs ≡ [] = drop_of_length-le bs h in
    let w : value 0 bs ≡ v = c.is ∙ rw d refl in
    number_some most bs z (c.all ∙ rw d refl) (let s = c.small in omega arith) ∙ ap some w
