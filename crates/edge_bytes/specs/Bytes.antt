-- Buffers of bytes at the C boundary, and the numbers that they hold, little-endian. REFERENCE 9.1; a length that is no multiple of 4: 9.2.
-- Assumes nothing.
use Rattle.std.specs.Prelude.{Bool, ◌||◌, List, [], ◌∷◌, ℕ, ◌+◌, ◌*◌, ◌/◌, ◌%◌, ◌<◌, leb, eqb, length, replicate}
use Rattle.common.specs.Triples.{if}

-- little-endian: the number of four bytes, the lowest first, and the four bytes of a number, with others behind them
abbrev pub from_bytes : ℕ → ℕ → ℕ → ℕ → ℕ
from_bytes a b c d = a + 256 * b + 65536 * c + 16777216 * d

abbrev pub to_bytes : ℕ → List ℕ → List ℕ
to_bytes n l = (n % 256) ∷ (n / 256 % 256) ∷ (n / 65536 % 256) ∷ (n / 16777216 % 256) ∷ l

unfoldable pub numbers_of : List ℕ → List ℕ
numbers_of [] = []
numbers_of (a ∷ []) = []
numbers_of (a ∷ b ∷ []) = []
numbers_of (a ∷ b ∷ c ∷ []) = []
numbers_of (a ∷ b ∷ c ∷ d ∷ l) = from_bytes a b c d ∷ numbers_of l

unfoldable pub bytes_of : List ℕ → List ℕ
bytes_of [] = []
bytes_of (n ∷ l) = to_bytes n (bytes_of l)

-- every number of a list is below 2 ^ 32, so that four bytes hold it: such numbers are read back from their bytes
abbrev pub FitBytes : List ℕ → Type 0
FitBytes [] = Unit {0}
FitBytes (n ∷ l) = (n < 4294967296) × FitBytes l

-- The numbers of a buffer. One whose length is no multiple of 4 is read as a single number: of that length a load is refused with 2, a
-- table after the start with 1, and a table at a start, a store, findings and a list work buffer with 4.
unfoldable pub read_buffer : List ℕ → List ℕ
read_buffer b = if (eqb (length b % 4) 0) (λ _. numbers_of b) (λ _. 0 ∷ [])

-- whether a call that answers n may have changed a buffer, the load of a read apart: of the refusals only 8 and 9 change any.
-- REFERENCE 1.7
unfoldable pub changes : ℕ → Bool
changes n = eqb n 0 || (eqb n 8 || eqb n 9)

-- a buffer after a call that answered n and left these numbers in it
unfoldable pub left_bytes : ℕ → List ℕ → List ℕ → List ℕ
left_bytes n b l = if (changes n) (λ _. bytes_of l) (λ _. b)

-- HOW MANY NUMBERS a call is passed for a buffer of n bytes: all of them where they are at most `most`, else so many that it refuses
-- them as it would refuse the buffer
unfoldable pub forwarded : ℕ → ℕ → ℕ → ℕ
forwarded most more n = if (eqb (n % 4) 0) (λ _. if (leb (n / 4) most) (λ _. n / 4) (λ _. more)) (λ _. 1)

-- a list work buffer after a call that answered n: no number of it is kept
unfoldable pub cleared : ℕ → List ℕ → List ℕ
cleared n b = if (changes n) (λ _. replicate (length b) 0) (λ _. b)
