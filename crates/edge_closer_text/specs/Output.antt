-- What program closer prints: the answer and the findings of an accepted run, a refusal, or a bad line, REFERENCE 10.2 and 10.4; and the
-- names that it puts, urn:t1 to urn:tN, REFERENCE 10.1. Assumes nothing.
use Rattle.std.specs.Prelude.{List, [], ◌∷◌, ◌++◌, ℕ, zero, suc, length, take, drop}
use Rattle.common.specs.Sizes.{store_width, finding_width}
use Rattle.common.specs.Text.{text}
use Rattle.common.specs.Triples.{Triple, Finding, concat_map}
use Rattle.edge_decimal.specs.Decimal.{digits}
use Rattle.edge_closer_text.specs.Sizes.{triple_width}

-- the byte after a number of a line: a space where others follow it, the line feed where none does
abbrev pub ending : ℕ → ℕ
ending zero = 10
ending (suc others) = 32

-- a line of numbers
unfoldable pub line : List ℕ → List ℕ
line [] = []
line (n ∷ ns) = digits n ++ (ending (length ns) ∷ line ns)

-- of each of the first k rows of w numbers its first c numbers, a line a row
unfoldable pub table : ℕ → ℕ → ℕ → List ℕ → List ℕ
table w c zero ns = []
table w c (suc k) ns = line (take c ns) ++ table w c k (drop w ns)

-- what an accepted run prints, of its triples and findings
abbrev pub printed : List Triple → List Finding → List ℕ
printed ts fs =
    line (0 ∷ length ts ∷ length fs ∷ [])
    ++ (concat_map ts (λ t. line (t.s ∷ t.p ∷ t.o ∷ [])) ++ concat_map fs (λ x. line (x.check ∷ x.a ∷ x.b ∷ x.c ∷ x.d ∷ [])))

-- the same, of a store and findings that hold so many rows: of a store's row its triple, not its pass and rule. proofs/Printing.antt shows
-- that it is the same (answer-printed)
abbrev pub answer : List ℕ → ℕ → List ℕ → ℕ → List ℕ
answer store triples findings records =
    line (0 ∷ triples ∷ records ∷ [])
    ++ (table store_width triple_width triples store ++ table finding_width finding_width records findings)

-- a refused run
abbrev pub refusal : ℕ → List ℕ
refusal n = line (n ∷ 0 ∷ 0 ∷ [])

-- the first bad line's number, as "bad line 2"
abbrev pub bad_line_text : ℕ → List ℕ
bad_line_text k = text "bad line " ++ (digits k ++ (10 ∷ []))

-- the n-th named node that the program puts
abbrev pub name : ℕ → List ℕ
name n = text "urn:t" ++ digits n
