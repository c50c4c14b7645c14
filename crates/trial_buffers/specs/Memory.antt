-- Numbers by cell: rows taken from a memory, and given to it. Cells are counted round at 2 ^ 64. Assumes nothing.
use Rattle.std.specs.Prelude.{◌≡◌, ℕ, zero, suc, ◌+◌, ◌%◌, ◌^◌, ◌<◌, List, length, nat_lt, slice_index, slice_index_or, slice_set}
use Rattle.common.specs.Triples.{if}

-- the k-th cell from `at` on
abbrev pub cell_from : ℕ → ℕ → ℕ
cell_from at k = (at + k) % 2 ^ 64

-- the length in a cell, and no more than `most`
abbrev pub length_at : List ℕ → ℕ → ℕ → ℕ
length_at m at most = if (nat_lt (slice_index m at) most) (λ _. slice_index m at) (λ _. most)

-- each number of the row is what f says of its place
abbrev pub Each : (ℕ → ℕ) → List ℕ → Type 0
Each f row = (k : ℕ) → k < length row → slice_index row k ≡ f k

-- what f makes of the k-th element of the row is the k-th number
abbrev pub Makes : {T : Type 0} → (T → ℕ → Type 0) → List T → List ℕ → Type 0
Makes {T} f row numbers = (k : ℕ) (d : T) (n : ℕ) → k < length row → f (slice_index_or row k d) n → n ≡ slice_index numbers k

-- the memory with the first numbers of the row, so many, in the cells from `at` on
unfoldable pub given : List ℕ → ℕ → List ℕ → ℕ → List ℕ
given m at row zero = m
given m at row (suc i) = slice_set (given m at row i) (cell_from at i) (slice_index row i)
