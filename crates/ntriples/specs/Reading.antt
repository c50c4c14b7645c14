-- What reading a file gives, and what it leaves in the buffers that it is lent, for all inputs: computed from the lengths of table, arena
-- and load, from the terms held and from the file's bytes. REFERENCE 3.5. Refusals 1, then 2, change nothing; then the first failing line
-- decides, by 14, 13, 11, 7 and 3 in this order, and leaves the dictionary as before the file and the load all zero. Assumes nothing.
use Rattle.std.specs.Prelude.{Bool, ◌&&◌, List, [], ◌∷◌, ◌++◌, ℕ, ◌/◌, ◌%◌, ltb, eqb, length}
use Rattle.common.specs.Sizes.{load_width, load_limit}
use Rattle.common.specs.Triples.{Triple, triple, if}
use Rattle.common.specs.Rows.{flat, filled, zeros}
use Rattle.dictionary_layout.specs.Terms.{Term}
use Rattle.dictionary_layout.specs.Layout.{Dict, layout}
use Rattle.dictionary_layout.specs.Dictionary.{short, place_of, id_of, AllPut, full, all_put, put_all}
use Rattle.dictionary_layout.specs.Calls.{on_valid}
use Rattle.ntriples.specs.Characters.{line_end}
use Rattle.ntriples.specs.Grammar.{Terms, Line, nothing, says, bad, line}

-- the most bytes of a line without its end
abbrev pub line_limit : ℕ
line_limit = 32768

-- a byte in front of the first line
abbrev pub onto : ℕ → List (List ℕ) → List (List ℕ)
onto b [] = (b ∷ []) ∷ []
onto b (l ∷ ls) = (b ∷ l) ∷ ls

-- THE LINES of a file: every carriage return and every line feed ends one. What follows the last end is a line too, if only an empty one,
-- which says nothing.
unfoldable pub lines : List ℕ → List (List ℕ)
lines [] = [] ∷ []
lines (b ∷ bs) = if (line_end b) (λ _. [] ∷ lines bs) (λ _. onto b (lines bs))

-- what a line, or a file, comes to: the refusal's number, or the terms held afterwards and the triples read so far
pub data Outcome : Type 0 where
  refused : ℕ → Outcome
  read : List Term → List Triple → Outcome

-- a triple's terms in order of appearance, subject first
abbrev pub in_order : Terms → List Term
in_order t = t.s ∷ t.p ∷ t.o ∷ []

abbrev pub all_short : Terms → Bool
all_short t = short t.s && (short t.p && short t.o)

-- their ids among the terms held
abbrev pub ids : List Term → Terms → Triple
ids ts t = triple (id_of (place_of t.s ts)) (id_of (place_of t.p ts)) (id_of (place_of t.o ts))

-- room for one triple more in a load of cap triples
abbrev pub fits : ℕ → List Triple → Bool
fits cap xs = ltb (length xs) load_limit && ltb (length xs) cap

-- the terms of a line were put, or refusal 7; then the triple, or refusal 3
abbrev pub on_put : ℕ → List Triple → Terms → AllPut → Outcome
on_put cap xs t full = refused 7
on_put cap xs t (all_put us) = if (fits cap xs) (λ _. read us (xs ++ (ids us t ∷ []))) (λ _. refused 3)

-- what a line says, behind others that gave the terms ts and the triples xs, in a dictionary of tl numbers and al bytes
abbrev pub on_said : ℕ → ℕ → ℕ → List Term → List Triple → Line → Outcome
on_said tl al cap ts xs nothing = read ts xs
on_said tl al cap ts xs (says t) = if (all_short t) (λ _. on_put cap xs t (put_all tl al ts (in_order t))) (λ _. refused 11)
on_said tl al cap ts xs bad = refused 13

-- ONE LINE
unfoldable pub read_line : ℕ → ℕ → ℕ → List Term → List Triple → List ℕ → Outcome
read_line tl al cap ts xs l = if (ltb line_limit (length l)) (λ _. refused 14) (λ _. on_said tl al cap ts xs (line l))

abbrev pub on_read : Outcome → (List Term → List Triple → Outcome) → Outcome
on_read (refused n) f = refused n
on_read (read us ys) f = f us ys

-- the lines that are left
unfoldable pub read_lines : ℕ → ℕ → ℕ → List Term → List Triple → List (List ℕ) → Outcome
read_lines tl al cap ts xs [] = read ts xs
read_lines tl al cap ts xs (l ∷ ls) = on_read (read_line tl al cap ts xs l) (λ us ys. read_lines tl al cap us ys ls)

-- A FILE, read into a load of cap triples
unfoldable pub read_file : ℕ → ℕ → ℕ → List Term → List ℕ → Outcome
read_file tl al cap ts bs = read_lines tl al cap ts [] (lines bs)

-- THE CALL: the number, the count of the triples, and the load as it is left
pub record ReadAnswer : Type 0 where
  pub number : ℕ
  pub count : ℕ
  pub load : List ℕ

abbrev pub read_answer : ℕ → ℕ → List ℕ → ReadAnswer
read_answer n k l = record { number = n; count = k; load = l }

-- computed from the lengths of table and arena and the terms held: the answer, and the terms held afterwards
pub record AbstractReadResult : Type 0 where
  pub answer : ReadAnswer
  pub held : List Term

abbrev pub shown : List Term → List ℕ → Outcome → AbstractReadResult
shown ts load (refused n) = record { answer = read_answer n 0 (zeros load); held = ts }
shown ts load (read us xs) = record { answer = read_answer 0 (length xs) (filled load (flat xs)); held = us }

unfoldable pub abstract_read : ℕ → ℕ → List Term → List ℕ → List ℕ → AbstractReadResult
abstract_read tl al ts load file =
    if (eqb (length load % load_width) 0)
    (λ _. shown ts load (read_file tl al (length load / load_width) ts file))
    (λ _. record { answer = read_answer 2 0 load; held = ts })

-- READ: the answer, and the contents as they are left; refusal 1 first
pub record ReadResult : Type 0 where
  pub answer : ReadAnswer
  pub contents : Dict

abbrev pub read_laid : List ℕ → List ℕ → ℕ → ℕ → List Term → ReadResult
read_laid load file tl al ts =
    let r = abstract_read tl al ts load file in record { answer = r.answer; contents = layout tl al r.held }

unfoldable pub read_gives : Dict → List ℕ → List ℕ → ReadResult
read_gives d load file = on_valid d (read_laid load file) (λ _. record { answer = read_answer 1 0 load; contents = d })
