-- The loops of the test by digits: what is left of the bytes gives the same as the whole. Assumes nothing.
use mathlib.Core.Path.{◌≡◌, refl, sym, ◌∙◌, ap}
use mathlib.Core.Logic.{◌≢◌}
use mathlib.Core.Bool.{Bool, true, false}
use native.Mathlib.Omega.{arith}
use Rattle.std.specs.Prelude.{IsTrue, ◌↔◌, EachIndex, Option, Some}
use Rattle.std.specs.Char.{is_ascii_digit}
use Rattle.std.specs.Cmp.Lexicographic.{slice_partial_cmp}
use Rattle.std.specs.Ordering.{nat_cmp, is_some_and, is_le, partial_ordering_then, MatchOrdering}
use Rattle.std.specs.declared.cmp.Ordering.{Ordering}
use Rattle.std.specs.declared.cmp.Ordering.TheVariants.{Less, Equal, Greater}
use Rattle.std.specs.Cmp.{nat_cmp_is}
use native.Mathlib.Decide.{dec_lt}
use lib.Dec.{T}
use Rattle.common.specs.Triples.{if}
use Rattle.dictionary_layout.proofs.Choice.{is_true, true→T, same_test, true_false}
use mathlib.Core.List.{List, [], ◌∷◌}
use Prim.Native.Nat.{ℕ, zero, suc, ◌+◌, ◌≤◌, ◌<◌}
use native.Mathlib.Numerals.{add-one}
use lib.ListN.{length, get_or, drop, drop_of_length-le}
use lib.Seq.{drop-cons}
use borrow.Author.Tests.{eq-eqb, ne_eqb}
use Rattle.common.specs.Digits.{is_digit, all_digits}
use Rattle.dictionary_containers.specs.ByDigits.{after_zeros, not_above}
use Rattle.dictionary_containers.proofs.ByDigits.{smaller_first, larger_first, same_first}

-- WHAT IS LEFT from place i on gives the same as the whole
pub record Left {A : Type 0} (f : List ℕ → A) (bs : List ℕ) (i : ℕ) : Type 0 where
  pub same : f bs ≡ f (drop i bs)

module _ {A : Type 0} {f : List ℕ → A} {bs : List ℕ} where
  left_end : {i : ℕ} → length bs ≤ i → Left f bs i → f bs ≡ f []
  left_end h k = k.same ∙ ap f (drop_of_length-le bs h)

  left_at : {i : ℕ} → i < length bs → Left f bs i → f bs ≡ f (get_or bs i 0 ∷ drop (suc i) bs)
  left_at {i} h k = k.same ∙ ap f (drop-cons bs i 0 h)

  left_next : {i : ℕ} → i < length bs → Left f bs i → f (get_or bs i 0 ∷ drop (suc i) bs) ≡ f (drop (suc i) bs) → Left f bs (i + 1)
  left_next {i} h k e = rw (add-one i) (record { same = left_at h k ∙ e })

-- LEADING ZEROS: a zero, the first other digit, the end
module _ {bs : List ℕ} {i : ℕ} (h : i < length bs) (k : Left after_zeros bs i) where
  pub zero_next : get_or bs i 0 ≡ 48 → Left after_zeros bs (i + 1)
  unfolding after_zeros
  zero_next e = left_next h k (rw (eq-eqb (get_or bs i 0) 48 e) refl)

  pub zero_none : get_or bs i 0 ≢ 48 → drop i bs ≡ after_zeros bs
  unfolding after_zeros
  zero_none n = drop-cons bs i 0 h ∙ sym (left_at h k ∙ rw (ne_eqb (get_or bs i 0) 48 n) refl)

pub zeros_end : {bs : List ℕ} {i : ℕ} → length bs ≤ i → Left after_zeros bs i → drop (length bs) bs ≡ after_zeros bs
unfolding after_zeros
zeros_end {bs} h k = drop_of_length-le bs (omega arith) ∙ sym (left_end h k)

-- ALL DIGITS, by each of them
digits_at : (bs : List ℕ) → T (all_digits bs) → (k : ℕ) → k < length bs → is_ascii_digit (get_or bs k 0) ≡ true
unfolding all_digits
digits_at [] t k h = absurd (omega arith)
digits_at (b ∷ bs) t k h = go (is_digit b) refl t k h (digits_at bs)
  where
    go : (c : Bool) → is_digit b ≡ c → T (if c (λ _. all_digits bs) (λ _. false)) → (k : ℕ) → k < length (b ∷ bs)
        → (T (all_digits bs) → (j : ℕ) → j < length bs → is_ascii_digit (get_or bs j 0) ≡ true)
        → is_ascii_digit (get_or (b ∷ bs) k 0) ≡ true
    go false e t k h f = absurd t
    go true e t zero h f = e
    go true e t (suc k) h f = f t k (omega arith)

digits_from : (bs : List ℕ) → ((k : ℕ) → k < length bs → is_ascii_digit (get_or bs k 0) ≡ true) → T (all_digits bs)
unfolding all_digits
digits_from [] f = tt
digits_from (b ∷ bs) f = go (is_digit b) (f 0 (omega arith)) (digits_from bs (λ k h. f (suc k) (omega arith)))
  where
    go : (c : Bool) → c ≡ true → T (all_digits bs) → T (if c (λ _. all_digits bs) (λ _. false))
    go true e t = t
    go false e t = true_false (sym e)

pub digits_all : (bs : List ℕ) (r : Bool) → IsTrue r ↔ EachIndex bs (λ k. is_ascii_digit (get_or bs k 0) ≡ true) → r ≡ all_digits bs
digits_all bs r e =
    same_test r r (all_digits bs) refl (λ t. digits_from bs (e.0 (sym (is_true r t))))
    (λ t. true→T r (sym (e.1 (digits_at bs t))))

-- COMPARED by `<=`
pub rows_compare : (xs ys : List ℕ) → is_some_and is_le (slice_partial_cmp (λ x y. Some (nat_cmp x y)) xs ys) ≡ not_above xs ys
unfolding not_above
rows_compare [] [] = refl
rows_compare [] (y ∷ ys) = refl
rows_compare (x ∷ xs) [] = refl
rows_compare (x ∷ xs) (y ∷ ys) = go (dec_lt x y) (dec_lt y x) (rows_compare xs ys)
  where
    rest : Option Ordering
    rest = slice_partial_cmp (λ x y. Some (nat_cmp x y)) xs ys

    by : (o : Ordering) → MatchOrdering o (x < y) (x ≡ y) (y < x) → is_some_and is_le (partial_ordering_then (Some (nat_cmp x y)) rest)
        ≡ is_some_and is_le (partial_ordering_then (Some o) rest)
    by o m = ap (λ (z : Ordering). is_some_and is_le (partial_ordering_then (Some z) rest)) (sym (nat_cmp_is x y o m))

    go : Dec (x < y) → Dec (y < x) → is_some_and is_le rest ≡ not_above xs ys
        → is_some_and is_le (partial_ordering_then (Some (nat_cmp x y)) rest) ≡ not_above (x ∷ xs) (y ∷ ys)
    go (yes l) d e = by Less l ∙ sym (smaller_first x y xs ys l)
    go (no m) (yes l) e = by Greater l ∙ sym (larger_first x y xs ys l)
    go (no m) (no n) e = let q : x ≡ y = omega arith in by Equal q ∙ (e ∙ sym (same_first x y xs ys q))
