-- A dictionary with an index over its terms, and one with terms taken back: for the contracts of the functions that put many terms.
-- Assumes nothing.
use Rattle.std.specs.Prelude.{List, ℕ, T, length, take}
use Rattle.dictionary_layout.specs.Layout.{Dict, layout, decode}
use Rattle.dictionary_layout.specs.Dictionary.{valid}
use Rattle.dictionary_hash.specs.Hashing.{Hashed}

-- a dictionary that is not broken, and a hash of all its entries
pub record Indexed (d : Dict) (hash : List ℕ) : Type 0 where
  pub unbroken : T (valid d)
  pub hashed : Hashed d.table d.arena hash d.terms

-- the contents that the first n terms have in the same buffers
abbrev pub retracted : Dict → ℕ → Dict
retracted d n = layout (length d.table) (length d.arena) (take n (decode d))
