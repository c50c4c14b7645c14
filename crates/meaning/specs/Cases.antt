-- The worked cases, REFERENCE 11.1 and 11.2, one table. Models of terms with ids up to 40, so that a run puts its three terms as 41, 42
-- and 43; where the reference names only a part of the answer, the whole of it was worked out from the rules, with the pass and the rule
-- of each row (REFERENCE 6.5), the members of each list being given by hand.
-- proofs/Cases.antt proves the table by one theorem over the definitions. Assumes nothing.
use Rattle.std.specs.Prelude.{◌≡◌, false, List, [], ◌∷◌, ℕ, suc}
use Rattle.common.specs.Triples.{Triple, triple, Row, row, finding}
use Rattle.meaning.specs.Lists.{members}
use Rattle.meaning.specs.Containers.{Containers}
use Rattle.meaning.specs.Passes.{closure_rows}
use Rattle.meaning.specs.Run.{Outcome, store_full, accepted}
use Rattle.meaning.specs.RowsRun.{run_rows}

pub data Case : Type 0 where
  -- a load, the store's rows, the findings' records, and what the run gives
  model : List Triple → ℕ → ℕ → Outcome Row → Case
  -- a load, the store's rows, and the whole closure's rows, zero triples among them
  whole : List Triple → ℕ → List Row → Case
  -- list triples, a node, and the members of the list that it names
  list : List Triple → ℕ → List ℕ → Case

-- a row: s, p, o, its pass and its rule
abbrev pub line : ℕ → ℕ → ℕ → ℕ → ℕ → Row
line x y z n k = row (triple x y z) n k

-- no id is a container property's
abbrev pub no_containers : Containers
no_containers = record { is = λ p. false; property = 41; membership = 42; member = 43 }

abbrev pub Holds : Case → Type 0
Holds (model load cap fcap o) = run_rows no_containers cap fcap load ≡ o
Holds (whole load cap rows) = closure_rows no_containers (suc cap) load ≡ rows
Holds (list ts l ms) = members ts l ≡ ms

abbrev pub AllHold : List Case → Type 0
AllHold [] = Unit {0}
AllHold (x ∷ xs) = Holds x × AllHold xs

-- nil named, REFERENCE 6.2: by intersectionOf it admits every subject, by unionOf none
abbrev pub nil_cases : List Case
nil_cases =
    -- an intersection of nil: every subject is a 32; nil, 33, 34 and 36, no subjects, are not
    model (triple 31 33 34 ∷ triple 32 21 4 ∷ triple 35 1 36 ∷ []) 65535 65535
    (accepted (
    line 9 1 9 1 1 ∷ line 9 1 30 0 0 ∷ line 9 1 32 1 21 ∷ line 10 1 9 1 1 ∷ line 10 1 30 0 0 ∷ line 10 1 32 1 21 ∷ line 31 1 9 1 1 ∷
    line 31 1 32 1 21 ∷ line 31 33 34 0 0 ∷ line 32 1 9 1 1 ∷ line 32 1 32 1 21 ∷ line 32 21 4 0 0 ∷ line 35 1 9 1 1 ∷
    line 35 1 32 1 21 ∷ line 35 1 36 0 0 ∷ [])
    [] 15 (0 ∷ 0 ∷ 0 ∷ 0 ∷ 0 ∷ [])) ∷
    -- nil with list triples: every subject is a 31, nil too; no 37 1 32 by rule 22, and no 35 1 36, as the list of 33 ends at nil
    model (triple 4 2 32 ∷ triple 4 3 33 ∷ triple 31 21 4 ∷ triple 33 2 34 ∷ triple 33 3 4 ∷ triple 35 1 32
    ∷ triple 36 22 33 ∷ triple 37 1 34 ∷ []) 65535 65535
    (accepted (
    line 4 1 9 1 1 ∷ line 4 1 31 1 21 ∷ line 4 2 32 0 0 ∷ line 4 3 33 0 0 ∷ line 9 1 9 1 1 ∷ line 9 1 30 0 0 ∷ line 9 1 31 1 21 ∷
    line 10 1 9 1 1 ∷ line 10 1 30 0 0 ∷ line 10 1 31 1 21 ∷ line 31 1 9 1 1 ∷ line 31 1 31 1 21 ∷ line 31 21 4 0 0 ∷ line 33 1 9 1 1 ∷
    line 33 1 31 1 21 ∷ line 33 2 34 0 0 ∷ line 33 3 4 0 0 ∷ line 35 1 9 1 1 ∷ line 35 1 31 1 21 ∷ line 35 1 32 0 0 ∷ line 36 1 9 1 1 ∷
    line 36 1 31 1 21 ∷ line 36 22 33 0 0 ∷ line 37 1 9 1 1 ∷ line 37 1 31 1 21 ∷ line 37 1 34 0 0 ∷ line 37 1 36 1 23 ∷ [])
    [] 27 (0 ∷ 0 ∷ 0 ∷ 0 ∷ 0 ∷ [])) ∷
    -- a union of nil, which has list triples: no 33 1 31
    model (triple 4 2 32 ∷ triple 4 3 4 ∷ triple 31 22 4 ∷ triple 33 1 32 ∷ []) 65535 65535
    (accepted (
    line 4 1 9 1 1 ∷ line 4 2 32 0 0 ∷ line 4 3 4 0 0 ∷ line 9 1 9 1 1 ∷ line 9 1 30 0 0 ∷ line 10 1 9 1 1 ∷ line 10 1 30 0 0 ∷
    line 31 1 9 1 1 ∷ line 31 22 4 0 0 ∷ line 33 1 9 1 1 ∷ line 33 1 32 0 0 ∷ [])
    [] 11 (0 ∷ 0 ∷ 0 ∷ 0 ∷ 0 ∷ [])) ∷
    -- an intersection of nil in the closure alone, 32 being equal to nil
    model (triple 31 21 32 ∷ triple 32 11 4 ∷ []) 65535 65535
    (accepted (
    line 4 1 9 2 1 ∷ line 4 1 31 2 21 ∷ line 4 11 4 1 5 ∷ line 4 11 32 1 4 ∷ line 9 1 9 1 1 ∷ line 9 1 30 0 0 ∷ line 9 1 31 2 21 ∷
    line 10 1 9 1 1 ∷ line 10 1 30 0 0 ∷ line 10 1 31 2 21 ∷ line 31 1 9 1 1 ∷ line 31 1 31 2 21 ∷ line 31 21 4 1 7 ∷
    line 31 21 32 0 0 ∷ line 32 1 9 1 1 ∷ line 32 1 31 2 21 ∷ line 32 11 4 0 0 ∷ line 32 11 32 2 5 ∷ [])
    [] 18 (0 ∷ 0 ∷ 0 ∷ 0 ∷ 0 ∷ [])) ∷
    -- 0 is a subject once 0 0 0 is there: with 0 1 9 and 0 1 36 the closure has 27 triples, the answer 24
    model (triple 31 1 19 ∷ triple 32 31 33 ∷ triple 34 31 35 ∷ triple 36 21 4 ∷ []) 27 0
    (accepted (
    line 9 1 9 1 1 ∷ line 9 1 30 0 0 ∷ line 9 1 36 1 21 ∷ line 10 1 9 1 1 ∷ line 10 1 30 0 0 ∷ line 10 1 36 1 21 ∷ line 31 1 9 1 1 ∷
    line 31 1 19 0 0 ∷ line 31 1 36 1 21 ∷ line 32 1 9 1 1 ∷ line 32 1 36 1 21 ∷ line 32 31 33 0 0 ∷ line 33 1 9 2 1 ∷
    line 33 1 36 2 21 ∷ line 33 11 33 1 9 ∷ line 34 1 9 1 1 ∷ line 34 1 36 1 21 ∷ line 34 31 35 0 0 ∷ line 35 1 9 2 1 ∷
    line 35 1 36 2 21 ∷ line 35 11 35 1 9 ∷ line 36 1 9 1 1 ∷ line 36 1 36 1 21 ∷ line 36 21 4 0 0 ∷ [])
    [] 24 (0 ∷ 0 ∷ 0 ∷ 0 ∷ 0 ∷ [])) ∷
    -- a store of 26 is refused
    model (triple 31 1 19 ∷ triple 32 31 33 ∷ triple 34 31 35 ∷ triple 36 21 4 ∷ []) 26 0 store_full ∷
    []

-- lists, REFERENCE 5.2
abbrev pub list_cases : List Case
list_cases =
    -- two unions whose lists have one tail: 39 1 31 and 40 1 32, and neither is of both
    model (triple 31 22 33 ∷ triple 32 22 34 ∷ triple 33 2 36 ∷ triple 33 3 35 ∷ triple 34 2 37 ∷ triple 34 3 35
    ∷ triple 35 2 38 ∷ triple 35 3 4 ∷ triple 39 1 36 ∷ triple 40 1 37 ∷ []) 65535 65535
    (accepted (
    line 9 1 9 1 1 ∷ line 9 1 30 0 0 ∷ line 10 1 9 1 1 ∷ line 10 1 30 0 0 ∷ line 31 1 9 1 1 ∷ line 31 22 33 0 0 ∷ line 32 1 9 1 1 ∷
    line 32 22 34 0 0 ∷ line 33 1 9 1 1 ∷ line 33 2 36 0 0 ∷ line 33 3 35 0 0 ∷ line 34 1 9 1 1 ∷ line 34 2 37 0 0 ∷ line 34 3 35 0 0 ∷
    line 35 1 9 1 1 ∷ line 35 2 38 0 0 ∷ line 35 3 4 0 0 ∷ line 39 1 9 1 1 ∷ line 39 1 31 1 23 ∷ line 39 1 36 0 0 ∷ line 40 1 9 1 1 ∷
    line 40 1 32 1 23 ∷ line 40 1 37 0 0 ∷ [])
    [] 23 (0 ∷ 0 ∷ 0 ∷ 0 ∷ 0 ∷ [])) ∷
    -- two intersections whose lists have one tail: 39 1 31 and 40 1 32, and neither is of both
    model (triple 31 21 33 ∷ triple 32 21 34 ∷ triple 33 2 36 ∷ triple 33 3 35 ∷ triple 34 2 37 ∷ triple 34 3 35
    ∷ triple 35 2 38 ∷ triple 35 3 4 ∷ triple 39 1 36 ∷ triple 39 1 38 ∷ triple 40 1 37 ∷ triple 40 1 38 ∷ []) 65535 65535
    (accepted (
    line 9 1 9 1 1 ∷ line 9 1 30 0 0 ∷ line 10 1 9 1 1 ∷ line 10 1 30 0 0 ∷ line 31 1 9 1 1 ∷ line 31 21 33 0 0 ∷ line 32 1 9 1 1 ∷
    line 32 21 34 0 0 ∷ line 33 1 9 1 1 ∷ line 33 2 36 0 0 ∷ line 33 3 35 0 0 ∷ line 34 1 9 1 1 ∷ line 34 2 37 0 0 ∷ line 34 3 35 0 0 ∷
    line 35 1 9 1 1 ∷ line 35 2 38 0 0 ∷ line 35 3 4 0 0 ∷ line 39 1 9 1 1 ∷ line 39 1 31 1 21 ∷ line 39 1 36 0 0 ∷ line 39 1 38 0 0 ∷
    line 40 1 9 1 1 ∷ line 40 1 32 1 21 ∷ line 40 1 37 0 0 ∷ line 40 1 38 0 0 ∷ [])
    [] 25 (0 ∷ 0 ∷ 0 ∷ 0 ∷ 0 ∷ [])) ∷
    -- a list named at its second cell, a triple repeated: 36 1 31, which needs no 36 1 34
    model (triple 31 21 33 ∷ triple 32 2 34 ∷ triple 32 3 33 ∷ triple 33 2 35 ∷ triple 33 3 4 ∷ triple 33 2 35
    ∷ triple 36 1 35 ∷ []) 65535 65535
    (accepted (
    line 9 1 9 1 1 ∷ line 9 1 30 0 0 ∷ line 10 1 9 1 1 ∷ line 10 1 30 0 0 ∷ line 31 1 9 1 1 ∷ line 31 21 33 0 0 ∷ line 32 1 9 1 1 ∷
    line 32 2 34 0 0 ∷ line 32 3 33 0 0 ∷ line 33 1 9 1 1 ∷ line 33 2 35 0 0 ∷ line 33 3 4 0 0 ∷ line 36 1 9 1 1 ∷ line 36 1 31 1 21 ∷
    line 36 1 35 0 0 ∷ [])
    [] 15 (0 ∷ 0 ∷ 0 ∷ 0 ∷ 0 ∷ [])) ∷
    -- no list, two rdf:first objects: no 35 1 31
    model (triple 31 22 32 ∷ triple 32 2 33 ∷ triple 32 2 34 ∷ triple 32 3 4 ∷ triple 35 1 33 ∷ []) 65535 65535
    (accepted (
    line 9 1 9 1 1 ∷ line 9 1 30 0 0 ∷ line 10 1 9 1 1 ∷ line 10 1 30 0 0 ∷ line 31 1 9 1 1 ∷ line 31 22 32 0 0 ∷ line 32 1 9 1 1 ∷
    line 32 2 33 0 0 ∷ line 32 2 34 0 0 ∷ line 32 3 4 0 0 ∷ line 35 1 9 1 1 ∷ line 35 1 33 0 0 ∷ [])
    [] 12 (0 ∷ 0 ∷ 0 ∷ 0 ∷ 0 ∷ [])) ∷
    -- no list, it comes back to its first cell: no 35 1 31
    model (triple 31 22 32 ∷ triple 32 2 33 ∷ triple 32 3 34 ∷ triple 34 2 33 ∷ triple 34 3 32 ∷ triple 35 1 33 ∷ []) 65535 65535
    (accepted (
    line 9 1 9 1 1 ∷ line 9 1 30 0 0 ∷ line 10 1 9 1 1 ∷ line 10 1 30 0 0 ∷ line 31 1 9 1 1 ∷ line 31 22 32 0 0 ∷ line 32 1 9 1 1 ∷
    line 32 2 33 0 0 ∷ line 32 3 34 0 0 ∷ line 34 1 9 1 1 ∷ line 34 2 33 0 0 ∷ line 34 3 32 0 0 ∷ line 35 1 9 1 1 ∷ line 35 1 33 0 0 ∷ [])
    [] 14 (0 ∷ 0 ∷ 0 ∷ 0 ∷ 0 ∷ [])) ∷
    -- no list, its second cell has no rdf:rest object: no 36 1 31, although 33 is the rdf:first object of its first cell
    model (triple 31 22 32 ∷ triple 32 2 33 ∷ triple 32 3 34 ∷ triple 34 2 35 ∷ triple 36 1 33 ∷ []) 65535 65535
    (accepted (
    line 9 1 9 1 1 ∷ line 9 1 30 0 0 ∷ line 10 1 9 1 1 ∷ line 10 1 30 0 0 ∷ line 31 1 9 1 1 ∷ line 31 22 32 0 0 ∷ line 32 1 9 1 1 ∷
    line 32 2 33 0 0 ∷ line 32 3 34 0 0 ∷ line 34 1 9 1 1 ∷ line 34 2 35 0 0 ∷ line 36 1 9 1 1 ∷ line 36 1 33 0 0 ∷ [])
    [] 13 (0 ∷ 0 ∷ 0 ∷ 0 ∷ 0 ∷ [])) ∷
    -- members in order, repeats kept; from the second cell on; the last cell alone; nil has none
    list (triple 33 2 38 ∷ triple 33 3 35 ∷ triple 34 2 36 ∷ triple 34 3 33 ∷ triple 35 2 36 ∷ triple 35 3 4 ∷ []) 34 (36 ∷ 38 ∷ 36 ∷ []) ∷
    list (triple 33 2 38 ∷ triple 33 3 35 ∷ triple 34 2 36 ∷ triple 34 3 33 ∷ triple 35 2 36 ∷ triple 35 3 4 ∷ []) 33 (38 ∷ 36 ∷ []) ∷
    list (triple 33 2 38 ∷ triple 33 3 35 ∷ triple 34 2 36 ∷ triple 34 3 33 ∷ triple 35 2 36 ∷ triple 35 3 4 ∷ []) 35 (36 ∷ []) ∷
    list (triple 33 2 38 ∷ triple 33 3 35 ∷ triple 34 2 36 ∷ triple 34 3 33 ∷ triple 35 2 36 ∷ triple 35 3 4 ∷ []) 4 [] ∷
    -- no list, two rdf:rest objects
    list (triple 33 2 34 ∷ triple 33 3 4 ∷ triple 33 3 35 ∷ triple 35 2 36 ∷ triple 35 3 4 ∷ []) 33 [] ∷
    -- nil with list triples: it has no members still, and a list ends there
    list (triple 4 2 32 ∷ triple 4 3 33 ∷ triple 33 2 34 ∷ triple 33 3 4 ∷ []) 4 [] ∷
    list (triple 4 2 32 ∷ triple 4 3 33 ∷ triple 33 2 34 ∷ triple 33 3 4 ∷ []) 33 (34 ∷ []) ∷
    nil_cases

abbrev pub cases : List Case
cases =
    -- the empty load
    model [] 65535 65535
    (accepted (
    line 9 1 9 1 1 ∷ line 9 1 30 0 0 ∷ line 10 1 9 1 1 ∷ line 10 1 30 0 0 ∷ [])
    [] 4 (0 ∷ 0 ∷ 0 ∷ 0 ∷ 0 ∷ [])) ∷
    -- nine triples; a store of 9 suffices
    model (triple 31 1 32 ∷ triple 32 8 33 ∷ []) 9 0
    (accepted (
    line 9 1 9 1 1 ∷ line 9 1 30 0 0 ∷ line 10 1 9 1 1 ∷ line 10 1 30 0 0 ∷ line 31 1 9 1 1 ∷ line 31 1 32 0 0 ∷ line 31 1 33 1 14 ∷
    line 32 1 9 1 1 ∷ line 32 8 33 0 0 ∷ [])
    [] 9 (0 ∷ 0 ∷ 0 ∷ 0 ∷ 0 ∷ [])) ∷
    -- and 8 is refused
    model (triple 31 1 32 ∷ triple 32 8 33 ∷ []) 8 0 store_full ∷
    -- rules 14 and 17 both give 31 1 33 in pass 1: its rule is 14. Rule 16 gives 32 8 33, a starting triple: its pass and rule stay 0
    model (triple 31 1 32 ∷ triple 32 8 33 ∷ triple 32 18 33 ∷ triple 8 5 31 ∷ []) 18 0
    (accepted (
    line 8 1 9 1 1 ∷ line 8 5 31 0 0 ∷ line 9 1 9 1 1 ∷ line 9 1 30 0 0 ∷ line 10 1 9 1 1 ∷ line 10 1 30 0 0 ∷ line 31 1 9 1 1 ∷
    line 31 1 32 0 0 ∷ line 31 1 33 1 14 ∷ line 32 1 9 1 1 ∷ line 32 1 31 1 2 ∷ line 32 8 32 2 15 ∷ line 32 8 33 0 0 ∷
    line 32 18 33 0 0 ∷ line 33 1 9 2 1 ∷ line 33 1 31 2 2 ∷ line 33 8 32 1 16 ∷ line 33 8 33 2 15 ∷ [])
    [] 18 (0 ∷ 0 ∷ 0 ∷ 0 ∷ 0 ∷ [])) ∷
    -- 16 in the closure, 14 in the answer
    model (triple 31 1 19 ∷ triple 32 31 33 ∷ triple 34 31 35 ∷ []) 16 0
    (accepted (
    line 9 1 9 1 1 ∷ line 9 1 30 0 0 ∷ line 10 1 9 1 1 ∷ line 10 1 30 0 0 ∷ line 31 1 9 1 1 ∷ line 31 1 19 0 0 ∷ line 32 1 9 1 1 ∷
    line 32 31 33 0 0 ∷ line 33 1 9 2 1 ∷ line 33 11 33 1 9 ∷ line 34 1 9 1 1 ∷ line 34 31 35 0 0 ∷ line 35 1 9 2 1 ∷
    line 35 11 35 1 9 ∷ [])
    [] 14 (0 ∷ 0 ∷ 0 ∷ 0 ∷ 0 ∷ [])) ∷
    -- 0 0 0 and 0 1 9 among the 16, of passes 1 and 2
    whole (triple 31 1 19 ∷ triple 32 31 33 ∷ triple 34 31 35 ∷ []) 16 (
    line 0 0 0 1 9 ∷ line 0 1 9 2 1 ∷ line 9 1 9 1 1 ∷ line 9 1 30 0 0 ∷ line 10 1 9 1 1 ∷ line 10 1 30 0 0 ∷ line 31 1 9 1 1 ∷
    line 31 1 19 0 0 ∷ line 32 1 9 1 1 ∷ line 32 31 33 0 0 ∷ line 33 1 9 2 1 ∷ line 33 11 33 1 9 ∷ line 34 1 9 1 1 ∷ line 34 31 35 0 0 ∷
    line 35 1 9 2 1 ∷ line 35 11 35 1 9 ∷ []) ∷
    -- a store of 15 is refused
    model (triple 31 1 19 ∷ triple 32 31 33 ∷ triple 34 31 35 ∷ []) 15 0 store_full ∷
    -- inverse functional, different objects: twelve triples, 32 11 34 is none of them; a store of 12 suffices, so no zero triple either
    model (triple 31 1 20 ∷ triple 32 31 33 ∷ triple 34 31 35 ∷ []) 12 0
    (accepted (
    line 9 1 9 1 1 ∷ line 9 1 30 0 0 ∷ line 10 1 9 1 1 ∷ line 10 1 30 0 0 ∷ line 31 1 9 1 1 ∷ line 31 1 20 0 0 ∷ line 32 1 9 1 1 ∷
    line 32 11 32 1 10 ∷ line 32 31 33 0 0 ∷ line 34 1 9 1 1 ∷ line 34 11 34 1 10 ∷ line 34 31 35 0 0 ∷ [])
    [] 12 (0 ∷ 0 ∷ 0 ∷ 0 ∷ 0 ∷ [])) ∷
    -- inverse functional, one object: 32 11 34 and 34 11 32
    model (triple 31 1 20 ∷ triple 32 31 33 ∷ triple 34 31 33 ∷ []) 65535 65535
    (accepted (
    line 9 1 9 1 1 ∷ line 9 1 30 0 0 ∷ line 10 1 9 1 1 ∷ line 10 1 30 0 0 ∷ line 31 1 9 1 1 ∷ line 31 1 20 0 0 ∷ line 32 1 9 1 1 ∷
    line 32 11 32 1 10 ∷ line 32 11 34 1 10 ∷ line 32 31 33 0 0 ∷ line 34 1 9 1 1 ∷ line 34 11 32 1 10 ∷ line 34 11 34 1 10 ∷
    line 34 31 33 0 0 ∷ [])
    [] 14 (0 ∷ 0 ∷ 0 ∷ 0 ∷ 0 ∷ [])) ∷
    -- disjoint classes: one finding
    model (triple 31 1 32 ∷ triple 31 1 33 ∷ triple 32 26 33 ∷ []) 65535 1
    (accepted (
    line 9 1 9 1 1 ∷ line 9 1 30 0 0 ∷ line 10 1 9 1 1 ∷ line 10 1 30 0 0 ∷ line 31 1 9 1 1 ∷ line 31 1 32 0 0 ∷ line 31 1 33 0 0 ∷
    line 32 1 9 1 1 ∷ line 32 26 33 0 0 ∷ [])
    (finding 1 31 32 33 0 ∷ []) 9 (1 ∷ 0 ∷ 0 ∷ 0 ∷ 0 ∷ [])) ∷
    -- an asymmetric property: two findings
    model (triple 31 1 15 ∷ triple 32 31 33 ∷ triple 33 31 32 ∷ []) 65535 2
    (accepted (
    line 9 1 9 1 1 ∷ line 9 1 30 0 0 ∷ line 10 1 9 1 1 ∷ line 10 1 30 0 0 ∷ line 31 1 9 1 1 ∷ line 31 1 15 0 0 ∷ line 32 1 9 1 1 ∷
    line 32 31 33 0 0 ∷ line 33 1 9 1 1 ∷ line 33 31 32 0 0 ∷ [])
    (finding 3 31 32 33 0 ∷ finding 3 31 33 32 0 ∷ []) 10 (0 ∷ 0 ∷ 2 ∷ 0 ∷ 0 ∷ [])) ∷
    -- disjoint properties: one finding
    model (triple 31 29 32 ∷ triple 33 31 34 ∷ triple 33 32 34 ∷ []) 65535 1
    (accepted (
    line 9 1 9 1 1 ∷ line 9 1 30 0 0 ∷ line 10 1 9 1 1 ∷ line 10 1 30 0 0 ∷ line 31 1 9 1 1 ∷ line 31 29 32 0 0 ∷ line 33 1 9 1 1 ∷
    line 33 31 34 0 0 ∷ line 33 32 34 0 0 ∷ [])
    (finding 4 33 34 31 32 ∷ []) 9 (0 ∷ 0 ∷ 0 ∷ 1 ∷ 0 ∷ [])) ∷
    -- an intersection: 34 1 31
    model (triple 31 21 32 ∷ triple 32 2 33 ∷ triple 32 3 4 ∷ triple 34 1 33 ∷ []) 65535 65535
    (accepted (
    line 9 1 9 1 1 ∷ line 9 1 30 0 0 ∷ line 10 1 9 1 1 ∷ line 10 1 30 0 0 ∷ line 31 1 9 1 1 ∷ line 31 21 32 0 0 ∷ line 32 1 9 1 1 ∷
    line 32 2 33 0 0 ∷ line 32 3 4 0 0 ∷ line 34 1 9 1 1 ∷ line 34 1 31 1 21 ∷ line 34 1 33 0 0 ∷ [])
    [] 12 (0 ∷ 0 ∷ 0 ∷ 0 ∷ 0 ∷ [])) ∷
    list_cases
