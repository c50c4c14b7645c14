-- `dictionary_valid::is_valid` meets its contract. Assumes nothing.
use mathlib.Core.Path.{refl, sym}
use Prim.Native.Nat.{ℕ}
use lib.ListN.{length-replicate}
use Rattle.dictionary_hash.specs.Hashing.{term_hash_length}
use Rattle.dictionary_valid.proofs.is_valid.Goals as goal

pub slice_bounds-is_valid_by-end : goal.slice_bounds-is_valid_by-end
slice_bounds-is_valid_by-end c = sym (length-replicate {A = ℕ} term_hash_length 0)

pub is_valid_by-requires : goal.is_valid_by-requires
is_valid_by-requires c = (length-replicate {A = ℕ} term_hash_length 0, refl)

pub returns : goal.returns
returns c = c.is_valid_by.ensures
