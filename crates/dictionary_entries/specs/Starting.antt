-- Contents on the way to a started dictionary: for the contracts of the functions that a start is made of. Assumes nothing.
use Rattle.std.specs.Prelude.{◌≡◌, Bool, true, ◌&&◌, List, [], ◌∷◌, ◌++◌, ℕ, suc, ◌-◌, ◌≤◌, ◌<◌, ltb, eqb, length, take, drop, replicate}
use Rattle.common.specs.Sizes.{table_limit, arena_limit}
use Rattle.common.specs.Triples.{if}
use Rattle.dictionary_layout.specs.Terms.{term, start_terms, start_count, start_bytes}
use Rattle.dictionary_layout.specs.Layout.{Dict, start_table, layout}
use Rattle.dictionary_layout.specs.Dictionary.{same_term, term_of}

-- the most bytes of a term of the start
abbrev pub iri_limit : ℕ
iri_limit = 64

-- a table and an arena in which a started dictionary has room
pub record Startable (table arena : List ℕ) : Type 0 where
  pub entries : start_table ≤ length table
  pub table_short : length table ≤ table_limit
  pub bytes : start_bytes ≤ length arena
  pub arena_short : length arena ≤ arena_limit

-- the first n of the start's terms are there
pub record Upto (d : Dict) (n : ℕ) : Type 0 where
  pub room : Startable d.table d.arena
  pub laid : d ≡ layout (length d.table) (length d.arena) (take n start_terms)

-- the term of an id is next
pub record Next (d : Dict) (id : ℕ) (iri : List ℕ) : Type 0 where
  pub before : Upto d id
  pub later : 0 < id
  pub below : id < start_count
  pub is : term_of start_terms id ≡ term 1 iri

-- the first of names that are parted by spaces, and those behind it
unfoldable pub word : List ℕ → List ℕ
word [] = []
word (b ∷ bs) = if (eqb b 32) (λ _. []) (λ _. b ∷ word bs)

unfoldable pub behind : List ℕ → List ℕ
behind [] = []
behind (b ∷ bs) = if (eqb b 32) (λ _. bs) (λ _. behind bs)

-- where the name ends that begins at a place, and where the next begins
pub record Ends (names : List ℕ) (from end next : ℕ) : Type 0 where
  pub ordered : from ≤ end
  pub within : end ≤ length names
  pub next_within : next ≤ length names
  pub is : take (end - from) (drop from names) ≡ word (drop from names)
  pub rest : drop next names ≡ behind (drop from names)

-- the ids are those from n on, and the names are the local names of their terms in the namespace
unfoldable pub listed : List ℕ → List ℕ → List ℕ → ℕ → Bool
listed namespace names [] n = true
listed namespace names (i ∷ ids) n =
    eqb i n && (ltb 0 n && (ltb n start_count && (same_term (term_of start_terms n) (term 1 (namespace ++ word names)) && listed
    namespace (behind names) ids (suc n))))

-- nothing but zeros
pub record Blank (table arena : List ℕ) : Type 0 where
  pub room : Startable table arena
  pub table_zero : table ≡ replicate (length table) 0
  pub arena_zero : arena ≡ replicate (length arena) 0
