-- What stands in the store at the end: the answer, that is the closure's rows without an id 0, strictly ascending, then zeros.
-- REFERENCE 3.4 and 6.4. Assumes nothing.
use Rattle.std.specs.Prelude.{◌≡◌, ℕ, ◌*◌, ◌^◌, ◌<◌, ◌≤◌, List, [], length}
use Rattle.common.specs.Triples.{Row, key_row, Distinct, insert_all, without_zero_rows}
use Rattle.common.specs.Rows.{flat_rows, filled}
use Rattle.store_rows.specs.Rows.{width, rows, whole_rows}

-- the answer that n rows give
abbrev pub answer_of : ℕ → List ℕ → List Row
answer_of n l = without_zero_rows (insert_all key_row (whole_rows n l) [])

-- n rows that hold no triple twice
pub record DistinctRows (n : ℕ) (l : List ℕ) : Type 0 where
  pub room : width * n ≤ length l
  pub few : n < 2 ^ 32
  pub distinct : Distinct (rows n l)

-- the store m has the answer of the first n rows of l, then zeros, and r is the answer's number of rows
pub record Answer (n : ℕ) (l : List ℕ) (r : ℕ) (m : List ℕ) : Type 0 where
  pub count : r ≡ length (answer_of n l)
  pub store : m ≡ filled l (flat_rows (answer_of n l))
