-- How a list of terms lies in a table, an arena and two counters, and how it is read back: 64 chain heads, then an entry of four numbers
-- for each term; the bytes without gaps; unused parts zero. REFERENCE 2.2; chains: 2.3; id 0, which stands in no chain: 2.4. Assumes
-- nothing.
use Rattle.std.specs.Prelude.{List, [], ◌∷◌, ◌++◌, ℕ, zero, suc, ◌+◌, ◌*◌, ◌-◌, ◌%◌, eqb, length, get_or, take, drop, replicate}
use Rattle.common.specs.Sizes.{heads_width, entry_width}
use Rattle.common.specs.Triples.{if}
use Rattle.dictionary_layout.specs.Terms.{Term, term, start_count}

-- a dictionary's contents: the table, the arena, and the two counters, of terms and of arena bytes used
pub record Dict : Type 0 where
  pub table : List ℕ
  pub arena : List ℕ
  pub terms : ℕ
  pub used : ℕ

abbrev pub dict : List ℕ → List ℕ → ℕ → ℕ → Dict
dict t a n u = record { table = t; arena = a; terms = n; used = u }

abbrev pub sum : List ℕ → ℕ
sum [] = 0
sum (b ∷ bs) = b + sum bs

-- a term's chain
abbrev pub chain : Term → ℕ
chain t = (t.kind + sum t.bytes) % heads_width

-- the bytes of all the terms, and how many they are
abbrev pub all_bytes : List Term → List ℕ
all_bytes [] = []
all_bytes (t ∷ ts) = t.bytes ++ all_bytes ts

abbrev pub size : List Term → ℕ
size [] = 0
size (t ∷ ts) = length t.bytes + size ts

-- the chains' heads H after the id i went to the front of the chain c
abbrev pub front : (ℕ → ℕ) → ℕ → ℕ → ℕ → ℕ
front H c i x = if (eqb x c) (λ _. i) (λ _. H x)

-- the heads H after the terms, the first of them with the id i
unfoldable pub heads : (ℕ → ℕ) → ℕ → List Term → ℕ → ℕ
heads H i [] = H
heads H i (t ∷ ts) = heads (front H (chain t) i) (suc i) ts

-- their entries, where the bytes of the first start at `at`: start, length, kind, and the chain's head so far as the next id
unfoldable pub entries : (ℕ → ℕ) → ℕ → ℕ → List Term → List ℕ
entries H i at [] = []
entries H i at (t ∷ ts) = at ∷ length t.bytes ∷ t.kind ∷ H (chain t) ∷ entries (front H (chain t) i) (suc i) (at + length t.bytes) ts

-- the heads and entries of all the terms: the first, id 0, stands in no chain
abbrev pub all_heads : List Term → ℕ → ℕ
all_heads [] = λ c. 0
all_heads (t ∷ ts) = heads (λ c. 0) 1 ts

abbrev pub all_entries : List Term → List ℕ
all_entries [] = []
all_entries (t ∷ ts) = 0 ∷ length t.bytes ∷ t.kind ∷ 0 ∷ entries (λ c. 0) 1 (length t.bytes) ts

-- f i, f (i + 1), .., n of them
unfoldable pub span : ℕ → ℕ → (ℕ → ℕ) → List ℕ
span zero i f = []
span (suc n) i f = f i ∷ span n (suc i) f

-- where the entry of an id begins in a table; of a number of terms, the length of a table that has room for no more
abbrev pub entry_at : ℕ → ℕ
entry_at n = heads_width + entry_width * n

-- the length of the table of a started dictionary without room for more
abbrev pub start_table : ℕ
start_table = entry_at start_count

-- THE CONTENTS that a table of tl numbers and an arena of al bytes have when they hold these terms
unfoldable pub layout : ℕ → ℕ → List Term → Dict
layout tl al ts =
    dict
    (span heads_width 0 (all_heads ts) ++ (all_entries ts ++ replicate (tl - entry_at (length ts)) 0))
    (all_bytes ts ++ replicate (al - size ts) 0)
    (length ts)
    (size ts)

-- the first n terms that entries name in an arena
unfoldable pub read : ℕ → List ℕ → List ℕ → List Term
read zero es a = []
read (suc n) es a = term (get_or es 2 0) (take (get_or es 1 0) (drop (get_or es 0 0) a)) ∷ read n (drop entry_width es) a

-- the terms that the contents name
unfoldable pub decode : Dict → List Term
decode d = read d.terms (drop heads_width d.table) d.arena
