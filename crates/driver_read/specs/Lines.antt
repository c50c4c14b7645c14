-- The buffers between two lines, and what a line, or all lines that are left, come to in them: for the contracts of the functions that a
-- read is made of. Assumes nothing.
use Rattle.std.specs.Prelude.{◌≡◌, Bool, true, false, List, [], ◌∷◌, ◌++◌, ℕ, ◌+◌, ◌*◌, ◌/◌, ◌≤◌, ◌<◌, T, length, get_or, take}
use Rattle.std.specs.Prelude.{Option as Maybe, Some, None}
use Rattle.common.specs.Sizes.{load_width}
use Rattle.common.specs.Triples.{Triple}
use Rattle.common.specs.Rows.{triples, cleared}
use Rattle.common.specs.Values.{triple_of}
use Rattle.common.specs.declared.Triple as declared
use Rattle.dictionary_layout.specs.Layout.{Dict, decode}
use Rattle.dictionary_layout.specs.Dictionary.{AllPut, full, all_put, if_zero, put_all}
use Rattle.dictionary_layout.specs.Values.{contents}
use Rattle.dictionary_puts.specs.Indexed.{Indexed}
use Rattle.ntriples.specs.Characters.{line_end}
use Rattle.ntriples.specs.Files.{Clear}
use Rattle.ntriples.specs.Grammar.{Terms, Line}
use Rattle.ntriples.specs.Reading.{line_limit, Outcome, refused, read, in_order, ids, fits, on_said, read_line, read_lines}
use Rattle.ntriples_lines.specs.Promises.{plain_width}
use Rattle.driver_read.specs.declared.values.LineIds.{LineIds}
use Rattle.driver_read.specs.declared.values.ReadNext.{ReadNext}

-- THE LINE that begins at `at` ends at r
pub record LineEnds (file : List ℕ) (at r : ℕ) : Type 0 where
  pub clear : Clear file at r
  pub ends : r < length file → T (line_end (get_or file r 0))

-- local buffers that suffice for every line that is not too long
pub record Work (chars out : List ℕ) : Type 0 where
  pub characters : line_limit ≤ length chars
  pub written : 4 * line_limit + plain_width ≤ length out

-- what was held is held still, in buffers as long as before
pub record Kept (d e : Dict) : Type 0 where
  pub table : length e.table ≡ length d.table
  pub arena : length e.arena ≡ length d.arena
  pub more : d.terms ≤ e.terms
  pub first : take d.terms (decode e) ≡ decode d

-- all of them put, with their ids, or not
abbrev pub put_as : Maybe declared.Triple → Dict → AllPut
put_as (Some x) e = all_put (decode e)
put_as None e = full

pub record PutsTerms (d : Dict) (t : Terms) (table arena hash : List ℕ) (r : LineIds) : Type 0 where
  pub indexed : Indexed (contents table arena r.counters) hash
  pub kept : Kept d (contents table arena r.counters)
  pub puts : put_all (length d.table) (length d.arena) (decode d) (in_order t)
      ≡ put_as r.triple (contents table arena r.counters)
  pub named : (x : declared.Triple) → r.triple ≡ Some x → triple_of x ≡ ids (decode (contents table arena r.counters)) t

-- THE LOAD between two lines: k triples, then zeros
abbrev pub so_far : List ℕ → ℕ → List Triple
so_far load k = triples (take (load_width * k) load)

pub record Rows (load : List ℕ) (k : ℕ) : Type 0 where
  pub within : load_width * k ≤ length load
  pub rest : load ≡ cleared (load_width * k) load

-- one more, where there is room
abbrev pub cap : List ℕ → ℕ
cap load = length load / load_width

pub record Added (load : List ℕ) (k : ℕ) (x : Triple) (new : List ℕ) : Type 0 where
  pub room : T (fits (cap load) (so_far load k))
  pub rows : Rows new (k + 1)
  pub more : so_far new (k + 1) ≡ so_far load k ++ (x ∷ [])

pub record Unadded (load : List ℕ) (k : ℕ) (new : List ℕ) : Type 0 where
  pub no_room : T (fits (cap load) (so_far load k)) → ⊥
  pub same : new ≡ load

abbrev pub Adds : List ℕ → ℕ → Triple → Bool → List ℕ → Type 0
Adds load k x true new = Added load k x new
Adds load k x false new = Unadded load k new

-- BETWEEN TWO LINES: the index has the terms held, the load the triples read
pub record Between (table arena hash load : List ℕ) (next : ReadNext) : Type 0 where
  pub indexed : Indexed (contents table arena next.counters) hash
  pub rows : Rows load next.count

-- what a line says, a line, and lines come to then
abbrev pub said_comes : Dict → List ℕ → ℕ → Line → Outcome
said_comes d load k s = on_said (length d.table) (length d.arena) (cap load) (decode d) (so_far load k) s

abbrev pub line_comes : Dict → List ℕ → ℕ → List ℕ → Outcome
line_comes d load k l = read_line (length d.table) (length d.arena) (cap load) (decode d) (so_far load k) l

abbrev pub lines_come : Dict → List ℕ → ℕ → List (List ℕ) → Outcome
lines_come d load k ls = read_lines (length d.table) (length d.arena) (cap load) (decode d) (so_far load k) ls

-- the outcome that a number, contents, a load and a count stand for
abbrev pub outcome_of : ℕ → Dict → List ℕ → ℕ → Outcome
outcome_of n d load k = if_zero n (λ _. read (decode d) (so_far load k)) (λ _. refused n)

-- THE OUTCOME o, from the contents d, as the buffers and the answer r have it
pub record ComesTo (o : Outcome) (d : Dict) (table arena hash load : List ℕ) (r : ReadNext) : Type 0 where
  pub outcome : outcome_of r.number (contents table arena r.counters) load r.count ≡ o
  pub between : Between table arena hash load r
  pub kept : Kept d (contents table arena r.counters)
