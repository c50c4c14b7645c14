-- Worked cases of closing in turns, REFERENCE 3.6 and 6.5, over models of REFERENCE 11, worked out by hand. Terms have ids up to 40, so
-- that a run puts its three terms as 41, 42 and 43. proofs/TurnCases.antt proves the table by one theorem over the definitions. Assumes
-- nothing.
use Rattle.std.specs.Prelude.{◌≡◌, Bool, true, false, List, [], ◌∷◌, ℕ, length}
use Rattle.common.specs.Triples.{Triple, triple, Row}
use Rattle.meaning.specs.Run.{store_full, findings_full, accepted}
use Rattle.meaning.specs.Cases.{line, no_containers}
use Rattle.meaning_turns.specs.Turns.{pass_rows, Turn, going, ended, turns, store_rows, lawful}

pub data TurnCase : Type 0 where
  -- a load, the store's rows, the findings' records, the number of passes after the opening call, and what the last call returns
  calls : List Triple → ℕ → ℕ → ℕ → List ℕ → TurnCase
  -- a load, the rows of a store, and those that a pass leaves there
  over : List Triple → List Row → List Row → TurnCase
  -- the numbers of a store, and the rows that it holds
  held : List ℕ → List Row → TurnCase
  -- a load, the rows of a store, and whether it can take a pass
  takes : List Triple → List Row → Bool → TurnCase

-- the refusal, the triple count, and 1 if the run is done
abbrev pub returned : Turn → List ℕ
returned (going rows) = 0 ∷ length rows ∷ 0 ∷ []
returned (ended store_full) = 8 ∷ 0 ∷ 0 ∷ []
returned (ended findings_full) = 9 ∷ 0 ∷ 0 ∷ []
returned (ended (accepted rows fs n k)) = 0 ∷ n ∷ 1 ∷ []

abbrev pub TurnHolds : TurnCase → Type 0
TurnHolds (calls load cap fcap n r) = returned (turns no_containers cap fcap load n) ≡ r
TurnHolds (over load rows next) = pass_rows no_containers load rows ≡ next
TurnHolds (held l rows) = store_rows l ≡ rows
TurnHolds (takes load rows b) = lawful no_containers 44 load rows ≡ b

abbrev pub TurnsHold : List TurnCase → Type 0
TurnsHold [] = Unit {0}
TurnsHold (x ∷ xs) = TurnHolds x × TurnsHold xs

abbrev pub functional : List Triple
functional = triple 31 1 19 ∷ triple 32 31 33 ∷ triple 34 31 35 ∷ []

abbrev pub disjoint : List Triple
disjoint = triple 31 1 32 ∷ triple 31 1 33 ∷ triple 32 26 33 ∷ []

-- the functional case's answer but for its first row, 9 1 9
abbrev pub answered : List Row
answered =
    line 9 1 30 0 0 ∷ line 10 1 9 1 1 ∷ line 10 1 30 0 0 ∷ line 31 1 9 1 1 ∷ line 31 1 19 0 0 ∷ line 32 1 9 1 1 ∷ line 32 31 33 0 0 ∷
    line 33 1 9 2 1 ∷ line 33 11 33 1 9 ∷ line 34 1 9 1 1 ∷ line 34 31 35 0 0 ∷ line 35 1 9 2 1 ∷ line 35 11 35 1 9 ∷ []

-- passes over rows of any origin, the rows that a store holds, and the stores that take a pass
abbrev pub store_cases : List TurnCase
store_cases =
    -- a pass after the last finds the zero triples anew: 0 0 0 in pass 3, the largest being 2, then 0 1 9 in pass 4
    over functional (line 9 1 9 1 1 ∷ answered) (line 0 0 0 3 9 ∷ line 9 1 9 1 1 ∷ answered) ∷
    over functional (line 0 0 0 3 9 ∷ line 9 1 9 1 1 ∷ answered) (line 0 0 0 3 9 ∷ line 0 1 9 4 1 ∷ line 9 1 9 1 1 ∷ answered) ∷
    -- rows that do not follow from the load are read, and stay as they are
    over [] (line 9 1 30 5 28 ∷ line 10 1 30 0 0 ∷ line 31 1 32 7 0 ∷ [])
    (line 9 1 9 8 1 ∷ line 9 1 30 5 28 ∷ line 10 1 9 8 1 ∷ line 10 1 30 0 0 ∷ line 31 1 9 8 1 ∷ line 31 1 32 7 0 ∷ []) ∷
    -- a store's rows end at the last that is not five zeros
    held (0 ∷ 0 ∷ 0 ∷ 0 ∷ 0 ∷ 0 ∷ 0 ∷ 0 ∷ 0 ∷ 7 ∷ 0 ∷ 0 ∷ 0 ∷ 0 ∷ 0 ∷ []) (line 0 0 0 0 0 ∷ line 0 0 0 0 7 ∷ []) ∷
    held (0 ∷ 0 ∷ 0 ∷ 0 ∷ 0 ∷ 0 ∷ 0 ∷ 0 ∷ 0 ∷ 0 ∷ []) [] ∷
    -- 44 terms, so ids up to 43 are known, and 0 is; any pass up to 65,535 and any rule
    takes [] (line 0 0 0 65535 99 ∷ line 9 1 30 5 28 ∷ line 10 1 30 0 0 ∷ line 43 1 43 0 0 ∷ []) true ∷
    takes [] (line 9 1 30 65536 0 ∷ line 10 1 30 0 0 ∷ []) false ∷
    takes [] (line 9 1 30 0 0 ∷ line 10 1 30 0 0 ∷ line 43 1 44 0 0 ∷ []) false ∷
    -- not ascending, a triple twice, a starting triple missing, no row
    takes [] (line 10 1 30 0 0 ∷ line 9 1 30 0 0 ∷ []) false ∷
    takes [] (line 9 1 30 0 0 ∷ line 9 1 30 1 0 ∷ line 10 1 30 0 0 ∷ []) false ∷
    takes functional (line 9 1 30 0 0 ∷ line 10 1 30 0 0 ∷ line 31 1 19 0 0 ∷ line 32 31 33 0 0 ∷ line 34 31 36 0 0 ∷ []) false ∷
    takes [] [] false ∷
    []

-- the calls of a run, and then those
abbrev pub turn_cases : List TurnCase
turn_cases =
    -- the start, two passes that add, and the last, which takes the two zero triples out
    calls functional 16 0 0 (0 ∷ 5 ∷ 0 ∷ []) ∷
    calls functional 16 0 1 (0 ∷ 13 ∷ 0 ∷ []) ∷
    calls functional 16 0 2 (0 ∷ 16 ∷ 0 ∷ []) ∷
    calls functional 16 0 3 (0 ∷ 14 ∷ 1 ∷ []) ∷
    -- a store of 15: the second pass is refused; of 4: the opening call
    calls functional 15 0 1 (0 ∷ 13 ∷ 0 ∷ []) ∷
    calls functional 15 0 2 (8 ∷ 0 ∷ 0 ∷ []) ∷
    calls functional 4 0 0 (8 ∷ 0 ∷ 0 ∷ []) ∷
    -- a store that is full before the last pass, one finding and no record for it: the last pass is refused
    calls disjoint 9 0 1 (0 ∷ 9 ∷ 0 ∷ []) ∷
    calls disjoint 9 0 2 (9 ∷ 0 ∷ 0 ∷ []) ∷
    calls disjoint 9 1 2 (0 ∷ 9 ∷ 1 ∷ []) ∷
    -- the empty load: its two starting triples are not closed
    calls [] 4 0 0 (0 ∷ 2 ∷ 0 ∷ []) ∷
    calls [] 4 0 1 (0 ∷ 4 ∷ 0 ∷ []) ∷
    calls [] 4 0 2 (0 ∷ 4 ∷ 1 ∷ []) ∷
    store_cases
