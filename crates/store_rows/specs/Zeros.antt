-- Rows that have an id 0, taken out: the answer has no triple with an id 0. REFERENCE 6.4. Assumes nothing.
use Rattle.std.specs.Prelude.{◌≡◌, ℕ, ◌*◌, ◌≤◌, List, length, slice_index}
use Rattle.common.specs.Triples.{without_zero_rows}
use Rattle.store_rows.specs.Rows.{width, whole_rows}

-- the first k rows of m are the first n rows of l without those that have an id 0, in order; the rows from k to n are free
pub record Kept (n : ℕ) (l : List ℕ) (k : ℕ) (m : List ℕ) : Type 0 where
  pub same_length : length m ≡ length l
  pub few : k ≤ n
  pub kept : whole_rows k m ≡ without_zero_rows (whole_rows n l)
  pub beyond : (x : ℕ) → width * n ≤ x → slice_index m x ≡ slice_index l x
