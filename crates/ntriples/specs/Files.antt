-- Files that differ in the ends of their lines alone, and one file with the lines of two. proofs/Files.antt: what a file gives depends on
-- its lines that are not empty, so line feed, carriage return and both are alike; and two files one after the other give what one file
-- with the lines of both gives. Assumes nothing.
use Rattle.std.specs.Prelude.{Bool, true, ◌&&◌, not, List, [], ◌∷◌, ◌++◌, ℕ, ◌+◌, ◌*◌, ◌≤◌, ◌<◌, T, length, get_or, take}
use Rattle.common.specs.Sizes.{load_width}
use Rattle.common.specs.Rows.{filled}
use Rattle.dictionary_layout.specs.Layout.{Dict}
use Rattle.ntriples.specs.Characters.{all, line_end}
use Rattle.ntriples.specs.Reading.{read_answer, ReadResult}

-- the lines that are not empty: an empty line says nothing
unfoldable pub kept : List (List ℕ) → List (List ℕ)
kept [] = []
kept ([] ∷ ls) = kept ls
kept ((b ∷ l) ∷ ls) = (b ∷ l) ∷ kept ls

-- the three ends that files have
pub data End : Type 0 where
  line_feed : End
  carriage_return : End
  both : End

abbrev pub end_bytes : End → List ℕ
end_bytes line_feed = 10 ∷ []
end_bytes carriage_return = 13 ∷ []
end_bytes both = 13 ∷ 10 ∷ []

-- lines put together, each with this end
unfoldable pub joined : End → List (List ℕ) → List ℕ
joined e [] = []
joined e (l ∷ ls) = l ++ (end_bytes e ++ joined e ls)

-- no byte of a line ends one
abbrev pub inline : ℕ → Bool
inline c = not (line_end c)

abbrev pub all_inline : List (List ℕ) → Bool
all_inline [] = true
all_inline (l ∷ ls) = all inline l && all_inline ls

-- no byte from `at` up to e ends a line
pub record Clear (file : List ℕ) (at e : ℕ) : Type 0 where
  pub above : at ≤ e
  pub upto : e ≤ length file
  pub no_end : (k : ℕ) → at ≤ k → k < e → T (line_end (get_or file k 0)) → ⊥

-- what an accepted read gives: the count, the numbers of the triples, then zeros, and the contents as they are left
abbrev pub accepted : List ℕ → ℕ → List ℕ → Dict → ReadResult
accepted load k row d = record { answer = read_answer 0 k (filled load row); contents = d }

-- the numbers of the triples that a read gave
abbrev pub rows_read : ReadResult → List ℕ
rows_read r = take (load_width * r.answer.count) r.answer.load

-- ONE FILE WITH THE LINES OF TWO, from what the two gave one after the other: both loads, one behind the other, and the last contents
abbrev pub both_read : List ℕ → ReadResult → ReadResult → ReadResult
both_read load a b = accepted load (a.answer.count + b.answer.count) (rows_read a ++ rows_read b) b.contents
