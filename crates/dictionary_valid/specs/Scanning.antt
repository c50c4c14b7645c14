-- Entries scanned one after the other: for the contracts of the functions that the test for a broken dictionary is made of. Assumes
-- nothing.
use Rattle.std.specs.Prelude.{◌≡◌, Bool, true, false, List, ℕ, ◌+◌, ◌*◌, ◌≤◌, ◌<◌, T, length, take, drop, Option, MatchOption}
use Rattle.common.specs.Sizes.{heads_width, entry_width, term_limit}
use Rattle.dictionary_layout.specs.Terms.{Term, start_terms, start_count, start_bytes}
use Rattle.dictionary_layout.specs.Layout.{dict, size, all_bytes, all_heads, all_entries, span, entry_at, start_table, layout, read}
use Rattle.dictionary_layout.specs.Dictionary.{start_refusal, holdable, valid}
use Rattle.dictionary_entries.specs.Entries.{start_of, length_of, kind_of}
use Rattle.dictionary_hash.specs.Hashing.{Hashed}

-- the terms that the first n entries name
abbrev pub named : List ℕ → List ℕ → ℕ → List Term
named table arena n = read n (drop heads_width table) arena

-- the first k entries are as puts leave them, their bytes are the first `at` of the arena, and `heads` begins with the chains' heads so far
pub record Scanned (table arena heads : List ℕ) (k at : ℕ) : Type 0 where
  pub holds : T (holdable (length table) (length arena) (named table arena k))
  pub entries : take (entry_width * k) (drop heads_width table) ≡ all_entries (named table arena k)
  pub bytes : take at arena ≡ all_bytes (named table arena k)
  pub used : at ≡ size (named table arena k)
  pub chains : take heads_width heads ≡ span heads_width 0 (all_heads (named table arena k))

-- the first k entries were scanned and hashed, and there is one more
pub record Scanning (table arena heads hash : List ℕ) (k at : ℕ) : Type 0 where
  pub scanned : Scanned table arena heads k at
  pub hashed : Hashed table arena hash k
  pub entry : entry_at (k + 1) ≤ length table

-- no dictionary has this table and arena, and n terms
abbrev pub Broken : List ℕ → List ℕ → ℕ → Type 0
Broken table arena n = (used : ℕ) → T (valid (dict table arena n used)) → ⊥

-- the numbers of entry k are those of a term whose bytes begin at a place of the arena
pub record Follows (table arena : List ℕ) (k at : ℕ) : Type 0 where
  pub start : start_of table k ≡ at
  pub short : length_of table k ≤ term_limit
  pub part : at + length_of table k ≤ length arena
  pub low : 1 ≤ kind_of table k
  pub high : kind_of table k ≤ 3

-- what one entry more comes to: where its bytes end, or no dictionary has it so
abbrev pub CheckedNext : List ℕ → List ℕ → List ℕ → List ℕ → ℕ → Option ℕ → Type 0
CheckedNext table arena heads hash k r =
    MatchOption r ((n : ℕ) → k < n → Broken table arena n)
    (λ end. Scanned table arena heads (k + 1) end × Hashed table arena hash (k + 1))

-- what all entries come to
abbrev pub CheckedAll : List ℕ → List ℕ → List ℕ → ℕ → Option ℕ → Type 0
CheckedAll table arena heads n r = MatchOption r (Broken table arena n) (λ end. Scanned table arena heads n end)

-- the start's entries were scanned and hashed
pub record Scannable (table arena heads hash : List ℕ) (n : ℕ) : Type 0 where
  pub scanned : Scanned table arena heads start_count start_bytes
  pub hashed : Hashed table arena hash start_count
  pub some : start_count ≤ n
  pub entries : entry_at n ≤ length table
  pub room : heads_width ≤ length heads

-- a table and an arena in which a start is accepted, and a fresh dictionary without room for more
pub record FreshStart (table arena fresh iris : List ℕ) : Type 0 where
  pub accepted : start_refusal (length table) (length arena) ≡ 0
  pub entries : fresh ≡ (layout start_table start_bytes start_terms).table
  pub bytes : iris ≡ (layout start_table start_bytes start_terms).arena

-- whether table and arena begin as a fresh dictionary does
pub record Begins (table arena fresh : List ℕ) (r : Bool) : Type 0 where
  pub yes : r ≡ true → Scanned table arena fresh start_count start_bytes
  pub no : r ≡ false → (n : ℕ) → Broken table arena n
