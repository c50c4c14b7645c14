-- The last zero of a literal's bytes. Assumes nothing.
use mathlib.Core.Path.{◌≡◌, refl, ap}
use mathlib.Core.Option.{Option, some, none}
use mathlib.Core.List.{List, [], ◌∷◌}
use Prim.Native.Nat.{ℕ, zero, suc, ◌<◌}
use native.Mathlib.Omega.{arith}
use lib.Dec.{eqb}
use lib.ListN.{length, get_or, take, drop}
use borrow.Author.Tests.{eq-eqb, ne_eqb}
use Rattle.std.specs.Prelude.{Option as Maybe, Some, None, MatchOption}
use Rattle.ntriples.specs.Utf8.{on}
use Rattle.ntriples.specs.Grammar.{Token, token, push, or, when}
use Rattle.ntriples_canonical.specs.Writing.{last_zero}
use Rattle.ntriples_text.specs.Promises.{LastZero, no_zero, zero_at}

-- there is none
no_zeros : (bytes : List ℕ) → ((k : ℕ) → k < length bytes → get_or bytes k 0 ≡ 0 → ⊥) → last_zero bytes ≡ none
unfolding last_zero
no_zeros [] h = refl
no_zeros (c ∷ bs) h = rw (no_zeros bs (λ k l. h (suc k) (omega arith)), ne_eqb c 0 (h 0 (omega arith))) refl

-- a zero with none behind it is the last
last_at : (bytes : List ℕ) (z : ℕ) → z < length bytes → get_or bytes z 0 ≡ 0
    → ((k : ℕ) → z < k → k < length bytes → get_or bytes k 0 ≡ 0 → ⊥)
    → last_zero bytes ≡ some (token (take z bytes) (drop (suc z) bytes))
unfolding last_zero
last_at [] z h e n = absurd (omega arith)
last_at (c ∷ bs) zero h e n = rw (no_zeros bs (λ k l. n (suc k) (omega arith) (omega arith)), eq-eqb c 0 e) refl
last_at (c ∷ bs) (suc z) h e n =
    ap (λ (o : Option Token). or (on o (push c)) (λ _. when (eqb c 0) (λ _. some (token [] bs))))
    (last_at bs z (omega arith) e (λ k a b. n (suc k) (omega arith) (omega arith)))

-- THE LAST ZERO, by the places of the zeros
pub by_places : (bytes : List ℕ) (r : Maybe ℕ)
    → MatchOption r ((k : ℕ) → k < length bytes → get_or bytes k 0 ≡ 0 → ⊥)
    (λ z. (z < length bytes) × ((get_or bytes z 0 ≡ 0) × ((k : ℕ) → z < k → k < length bytes → get_or bytes k 0 ≡ 0 → ⊥)))
    → LastZero bytes r
by_places bytes None h = no_zero (no_zeros bytes h)
by_places bytes (Some z) (l, (e, h)) = zero_at z l (last_at bytes z l e h)
