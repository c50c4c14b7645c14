-- Decimal numbers, read and written: digits without leading zeros, at most 4294967295 in an input. REFERENCE 10.1 and 10.4.
-- proofs/Numerals.antt shows that the two agree: `number` reads exactly what `digits` writes. Assumes nothing.
use Rattle.std.specs.Prelude.{Bool, true, false, ◌&&◌, not, List, [], ◌∷◌, ◌++◌, ℕ, zero, suc, ◌+◌, ◌/◌, ◌%◌, leb, ltb, eqb}
use Rattle.std.proofs.Math.Option.{Option, some, none}
use Rattle.common.specs.Triples.{if}
use Rattle.common.specs.Digits.{all_digits, value}

-- at least one digit, and no zero in front of another digit
abbrev pub no_leading_zero : List ℕ → Bool
no_leading_zero [] = false
no_leading_zero (b ∷ []) = true
no_leading_zero (b ∷ c ∷ bs) = not (eqb b 48)

-- READ: the number that the bytes write, where it is at most `most`
unfoldable pub number : ℕ → List ℕ → Option ℕ
number most bs = if (no_leading_zero bs && (all_digits bs && leb (value 0 bs) most)) (λ _. some (value 0 bs)) (λ _. none)

-- the digits of n, as far as k suffice
unfoldable pub digits_within : ℕ → ℕ → List ℕ
digits_within zero n = []
digits_within (suc k) n = if (ltb n 10) (λ _. (48 + n) ∷ []) (λ _. digits_within k (n / 10) ++ ((48 + n % 10) ∷ []))

-- WRITTEN: the digits of n, the most significant first. There are at most n + 1.
unfoldable pub digits : ℕ → List ℕ
digits n = digits_within (suc n) n
