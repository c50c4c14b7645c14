-- What program closer reads: a count N, 0 to 500, then at most 1,000 lines of three ids, or the number of the first bad line.
-- REFERENCE 10.1 and 10.2. Assumes nothing.
use Rattle.std.proofs.Math.Option.{Option, some, none}
use Rattle.std.specs.Prelude.{List, [], ◌∷◌, ◌++◌, ℕ, suc, leb, eqb}
use Rattle.common.specs.Triples.{if}
use Rattle.edge_decimal.specs.Decimal.{number}
use Rattle.edge_closer_text.specs.Sizes.{count_limit, id_limit, last_line}

-- the bytes before the first e, or all where there is none
unfoldable pub before : ℕ → List ℕ → List ℕ
before e [] = []
before e (b ∷ bs) = if (eqb b e) (λ _. []) (λ _. b ∷ before e bs)

-- a byte in front of the first part
abbrev pub onto : ℕ → List (List ℕ) → List (List ℕ)
onto b [] = (b ∷ []) ∷ []
onto b (p ∷ ps) = (b ∷ p) ∷ ps

-- the parts of a text that the byte e ends, and then, where nothing is left after the last e, the parts `rest`
unfoldable pub parts : ℕ → List (List ℕ) → List ℕ → List (List ℕ)
parts e rest [] = rest
parts e rest (b ∷ bs) = if (eqb b e) (λ _. [] ∷ parts e rest bs) (λ _. onto b (parts e rest bs))

-- lines end in a line feed, which the last may lack: nothing after the last line feed is no line
abbrev pub lines : List ℕ → List (List ℕ)
lines = parts 10 []

-- the fields of a line, one space between: nothing after the last space is an empty field
abbrev pub fields : List ℕ → List (List ℕ)
fields = parts 32 ([] ∷ [])

-- by cases on what may be missing
abbrev pub on : {A B : Type 0} → Option A → (A → B) → (Unit {0} → B) → B
on (some a) f g = f a
on none f g = g tt

-- an id
abbrev pub id : List ℕ → Option ℕ
id = number id_limit

-- three fields, and each of them an id
abbrev pub three_ids : List (List ℕ) → Option (List ℕ)
three_ids [] = none
three_ids (a ∷ []) = none
three_ids (a ∷ b ∷ []) = none
three_ids (a ∷ b ∷ c ∷ []) = on (id a) (λ s. on (id b) (λ p. on (id c) (λ o. some (s ∷ p ∷ o ∷ [])) (λ _. none)) (λ _. none)) (λ _. none)
three_ids (a ∷ b ∷ c ∷ d ∷ fs) = none

-- the numbers of a line of three ids, none where it has another shape
unfoldable pub id_line : List ℕ → Option (List ℕ)
id_line l = three_ids (fields l)

-- the count N
abbrev pub count_line : List ℕ → Option ℕ
count_line = number count_limit

-- what the lines before the first bad one say: the count, the ids, three a line; and the number of that line, if there is one
pub record Reading : Type 0 where
  pub count : ℕ
  pub ids : List ℕ
  pub bad : Option ℕ

-- the three together
abbrev pub reading : ℕ → List ℕ → Option ℕ → Reading
reading n is k = record { count = n; ids = is; bad = k }

-- the lines from line k on, after the count n and lines of the ids `is`
unfoldable pub id_lines : ℕ → ℕ → List ℕ → List (List ℕ) → Reading
id_lines n k is [] = reading n is none
id_lines n k is (l ∷ ls) =
    if (leb k last_line) (λ _. on (id_line l) (λ t. id_lines n (suc k) (is ++ t) ls) (λ _. reading n is (some k)))
    (λ _. reading n is (some k))

-- the count is missing: a text of no lines has no line 1, which is bad
abbrev pub read_lines : List (List ℕ) → Reading
read_lines [] = reading 0 [] (some 1)
read_lines (l ∷ ls) = on (count_line l) (λ n. id_lines n 2 [] ls) (λ _. reading 0 [] (some 1))

-- the whole text
unfoldable pub read : List ℕ → Reading
read bs = read_lines (lines bs)

-- the number of the first bad line, or the count and the ids
pub data Parsed : Type 0 where
  bad_line : ℕ → Parsed
  input : ℕ → List ℕ → Parsed

-- what was read decides
abbrev pub parsed : Reading → Parsed
parsed r = on r.bad (λ k. bad_line k) (λ _. input r.count r.ids)

-- WHAT AN INPUT SAYS
unfoldable pub parse : List ℕ → Parsed
parse bs = parsed (read bs)
