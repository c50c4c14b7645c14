-- What entries of a table say: for the contracts of the functions that read and write them. An entry is four numbers: start in the
-- arena, length, kind, next id. REFERENCE 2.2. Assumes nothing.
use Rattle.std.specs.Prelude.{◌≡◌, List, [], ◌∷◌, ◌++◌, ℕ, ◌+◌, ◌≤◌, ◌<◌, T, length, get_or, take, drop, Option, Some, None}
use Rattle.std.proofs.Math.Option.{Option as Place, some, none}
use Rattle.common.specs.declared.Id.{Id}
use Rattle.common.specs.Sizes.{entry_width, table_limit, arena_limit}
use Rattle.dictionary_layout.specs.Terms.{Term, term}
use Rattle.dictionary_layout.specs.Layout.{Dict, chain, entry_at, layout, decode}
use Rattle.dictionary_layout.specs.Dictionary.{valid}

-- the four numbers of the entry of an id
abbrev pub start_of : List ℕ → ℕ → ℕ
start_of table id = get_or table (entry_at id) 0

abbrev pub length_of : List ℕ → ℕ → ℕ
length_of table id = get_or table (entry_at id + 1) 0

abbrev pub kind_of : List ℕ → ℕ → ℕ
kind_of table id = get_or table (entry_at id + 2) 0

abbrev pub next_of : List ℕ → ℕ → ℕ
next_of table id = get_or table (entry_at id + 3) 0

-- the term that an entry names
abbrev pub entry_term : List ℕ → List ℕ → ℕ → Term
entry_term table arena id = term (kind_of table id) (take (length_of table id) (drop (start_of table id) arena))

-- the entry lies in the table, and the part that it names in the arena
pub record EntryFits (table arena : List ℕ) (id : ℕ) : Type 0 where
  pub entry : entry_at id + entry_width ≤ length table
  pub part : start_of table id + length_of table id ≤ length arena

-- the id that was found, or none
abbrev pub id_found : Option Id → Place ℕ
id_found (Some i) = some i.0
id_found None = none

-- a dictionary that is not broken, and the chain of a term
pub record Chained (d : Dict) (t : Term) (c : ℕ) : Type 0 where
  pub unbroken : T (valid d)
  pub chained : c ≡ chain t

-- room for one term more in contents that are a layout: what appending it needs
pub record Appendable (d : Dict) (t : Term) (c : ℕ) : Type 0 where
  pub laid : layout (length d.table) (length d.arena) (decode d) ≡ d
  pub some : 0 < d.terms
  pub entry : entry_at (d.terms + 1) ≤ length d.table
  pub table : length d.table ≤ table_limit
  pub bytes : d.used + length t.bytes ≤ length d.arena
  pub arena : length d.arena ≤ arena_limit
  pub chained : c ≡ chain t

-- the contents with one term more
abbrev pub with_term : Dict → Term → Dict
with_term d t = layout (length d.table) (length d.arena) (decode d ++ (t ∷ []))
