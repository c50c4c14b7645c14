-- A hash over the entries of a dictionary: for the contracts of the functions that make it and search it. It shows in no result. Assumes
-- nothing.
use Rattle.std.specs.Prelude.{◌≡◌, List, ℕ, ◌+◌, ◌≤◌, ◌<◌, length, get_or, set, Option, MatchOption}
use Rattle.common.specs.declared.Id.{Id}
use Rattle.common.specs.Last.{Last}
use Rattle.common.specs.Sizes.{entry_limit, term_limit}
use Rattle.dictionary_layout.specs.Terms.{Term}
use Rattle.dictionary_layout.specs.Digest.{bucket_count, bucket}
use Rattle.dictionary_entries.specs.Entries.{length_of, entry_term, EntryFits}

-- the bucket of the term that an entry names
abbrev pub bucket_of : List ℕ → List ℕ → ℕ → ℕ
bucket_of table arena j = bucket (entry_term table arena j)

-- the length of the hash: a head for each bucket, and a link for each entry
abbrev pub term_hash_length : ℕ
term_hash_length = bucket_count + bucket_count

-- the first k entries by their buckets: a head for each bucket, and behind the heads a link for each entry
pub record Hashed (table arena hash : List ℕ) (k : ℕ) : Type 0 where
  pub wide : length hash ≡ term_hash_length
  pub heads : (x : ℕ) → x < bucket_count → Last (bucket_of table arena) x k (get_or hash x 0)
  pub links : (j : ℕ) → j < k → Last (bucket_of table arena) (bucket_of table arena j) j (get_or hash (bucket_count + j) 0)

abbrev pub linked : List ℕ → ℕ → ℕ → List ℕ
linked hash x k = set (set hash (bucket_count + k) (get_or hash x 0)) x (k + 1)

-- what a search of the first k entries for a term gives: the id of an entry that names it, or none where there is none
abbrev pub FindsEntry : List ℕ → List ℕ → ℕ → Term → Option Id → Type 0
FindsEntry table arena k t r =
    MatchOption r ((j : ℕ) → j < k → entry_term table arena j ≡ t → ⊥) (λ i. (i.0 < k) × (entry_term table arena i.0 ≡ t))

-- what the search for it needs
pub record Seekable (table arena hash : List ℕ) (k : ℕ) (t : Term) (x : ℕ) : Type 0 where
  pub hashed : Hashed table arena hash k
  pub fits : (j : ℕ) → j < k → EntryFits table arena j
  pub few : k ≤ entry_limit
  pub key : x ≡ bucket t
  pub below : x < bucket_count

-- what entering the first n entries needs: none is entered, and the parts that they name lie in the arena and are a term's length at most
pub record Hashable (table arena hash : List ℕ) (n : ℕ) : Type 0 where
  pub empty : Hashed table arena hash 0
  pub fits : (j : ℕ) → j < n → EntryFits table arena j
  pub short : (j : ℕ) → j < n → length_of table j ≤ term_limit
  pub few : n ≤ entry_limit
