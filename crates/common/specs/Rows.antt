-- Triples, rows and findings as numbers, as load, store and findings hold them: 3 numbers a triple of a load, 5 a row of a store, 5 a
-- finding, then zeros.
-- REFERENCE 1.3 and 3.4. Assumes nothing.
use Rattle.std.specs.Prelude.{List, [], ◌∷◌, ◌++◌, ℕ, ◌-◌, length, take, replicate}
use Rattle.common.specs.Triples.{Triple, triple, Row, row, Finding, finding}

abbrev pub flat : List Triple → List ℕ
flat [] = []
flat (t ∷ ts) = t.s ∷ t.p ∷ t.o ∷ flat ts

abbrev pub flat_rows : List Row → List ℕ
flat_rows [] = []
flat_rows (r ∷ rs) = r.it.s ∷ r.it.p ∷ r.it.o ∷ r.pass ∷ r.rule ∷ flat_rows rs

abbrev pub flat_findings : List Finding → List ℕ
flat_findings [] = []
flat_findings (x ∷ xs) = x.check ∷ x.a ∷ x.b ∷ x.c ∷ x.d ∷ flat_findings xs

-- the triples that a row of numbers holds
abbrev pub triples : List ℕ → List Triple
triples [] = []
triples (a ∷ []) = []
triples (a ∷ b ∷ []) = []
triples (a ∷ b ∷ c ∷ r) = triple a b c ∷ triples r

-- the rows of a store that numbers hold
abbrev pub rows_of : List ℕ → List Row
rows_of [] = []
rows_of (a ∷ []) = []
rows_of (a ∷ b ∷ []) = []
rows_of (a ∷ b ∷ c ∷ []) = []
rows_of (a ∷ b ∷ c ∷ d ∷ []) = []
rows_of (a ∷ b ∷ c ∷ d ∷ e ∷ r) = row (triple a b c) d e ∷ rows_of r

-- the findings that a row of numbers holds
abbrev pub findings_of : List ℕ → List Finding
findings_of [] = []
findings_of (a ∷ []) = []
findings_of (a ∷ b ∷ []) = []
findings_of (a ∷ b ∷ c ∷ []) = []
findings_of (a ∷ b ∷ c ∷ d ∷ []) = []
findings_of (a ∷ b ∷ c ∷ d ∷ e ∷ r) = finding a b c d e ∷ findings_of r

-- a buffer of the same length that holds the row, then zeros
abbrev pub filled : List ℕ → List ℕ → List ℕ
filled buffer row = row ++ replicate (length buffer - length row) 0

abbrev pub zeros : List ℕ → List ℕ
zeros buffer = replicate (length buffer) 0

-- l with zeros from place k on
unfoldable pub cleared : ℕ → List ℕ → List ℕ
cleared k l = take k l ++ replicate (length l - k) 0
