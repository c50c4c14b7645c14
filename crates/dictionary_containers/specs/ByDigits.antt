-- THE CONTAINER TEST BY DIGITS: what follows `_` in the local name, case by case. proofs/ByDigits.antt proves that it passes exactly the
-- bytes that `is_number` passes, which goes by their value. REFERENCE 4.2. Assumes nothing.
--
-- To read it: [] is a row of nothing, b ∷ bs a row of b and then the row bs. `eqb m n` asks whether m is n, `ltb m n` whether m is smaller
-- than n. `if t (λ _. x) λ _. y` is x where t is true, and else y; && is 'and'.
use Rattle.std.specs.Prelude.{Bool, true, false, ◌&&◌, List, [], ◌∷◌, ℕ, eqb, ltb, length}
use Rattle.common.specs.Triples.{if}
use Rattle.common.specs.Text.{text}
use Rattle.common.specs.Digits.{all_digits}

-- what is left after leading zeros; the digit 0 is the byte 48
unfoldable pub after_zeros : List ℕ → List ℕ
after_zeros [] = []
after_zeros (b ∷ bs) = if (eqb b 48) (λ _. after_zeros bs) λ _. b ∷ bs

-- compared digit by digit: at the first place where two rows differ, the first one has to have the smaller digit
unfoldable pub not_above : List ℕ → List ℕ → Bool
not_above [] ys = true
not_above (x ∷ xs) [] = false
not_above (x ∷ xs) (y ∷ ys) = if (eqb x y) (λ _. not_above xs ys) λ _. ltb x y

abbrev pub largest : List ℕ
largest = text "18446744073709551615"

-- THE CASES, of what is left after leading zeros
unfoldable pub in_range : List ℕ → Bool
in_range ds =
    let count = length ds in
    -- no digit left fails
    if (eqb count 0) (λ _. false) λ _.
    -- over 20 fail
    if (ltb 20 count) (λ _. false) λ _.
    -- 1 to 19 pass
    if (ltb count 20) (λ _. true) λ _.
    -- 20 are compared with the largest number's
    not_above ds largest

-- THE TEST: a byte that is no digit fails wherever it stands
unfoldable pub is_number_by_digits : List ℕ → Bool
is_number_by_digits bs = all_digits bs && in_range (after_zeros bs)
