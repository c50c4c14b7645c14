-- Triples to append: their ids can be keys. And what appending them to a store of no rows leaves. Assumes nothing.
use Rattle.std.specs.Prelude.{◌≡◌, Bool, List, ℕ, ◌*◌, ◌≤◌, ◌<◌, length}
use Rattle.common.specs.Sizes.{load_width}
use Rattle.common.specs.Triples.{Triple, In}
use Rattle.store_rows.specs.declared.store.Pass.{Pass}
use Rattle.store_rows.specs.Rows.{load_at, load_rows}
use Rattle.store_rows.specs.Store.{Small, Extended}

pub record Load (l : List ℕ) (count : ℕ) : Type 0 where
  pub room : load_width * count ≤ length l
  pub small : (j : ℕ) → j < count → Small (load_at l j)

-- they come in in pass 0, by no rule, as a start does
abbrev pub one_pass : Pass
one_pass = record { first = 0; number = 0 }

-- the first count triples of the load, by no rule
abbrev pub Loaded : List ℕ → ℕ → ℕ → Triple → Type 0
Loaded load count k t = (k ≡ 0) × In t (load_rows count load)

-- From a store l of no rows to n rows of l', each with a triple of the load and none twice: all of them, or the store is full.
pub record Appended (load : List ℕ) (count : ℕ) (l l' h' : List ℕ) (n : ℕ) : Type 0 where
  pub full : Bool
  pub rows : Extended (Loaded load count) one_pass l 0 l' h' n full
