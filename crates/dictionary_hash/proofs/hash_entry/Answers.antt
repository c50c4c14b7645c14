-- `dictionary_hash::hash_entry` meets its contract. Assumes nothing.
use native.Mathlib.Omega.{arith}
use lib.ListN.{length-set}
use Rattle.dictionary_hash.proofs.hash_entry.Goals as goal

pub bounds-hash-bucket-2 : goal.bounds-hash-bucket-2
bounds-hash-bucket-2 c = simp length-set (omega arith)
