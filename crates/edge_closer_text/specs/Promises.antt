-- What the functions promise: a definition for each answer, and a record for each contract of several parts. `sets l i vs`,
-- of the library, is l with vs stored from place i on. Assumes nothing.
use Rattle.std.specs.Prelude.{◌≡◌, List, [], ◌∷◌, ℕ, ◌+◌, ◌-◌, ◌*◌, ◌≤◌, ◌<◌, length, take, drop, Option, Some, None, Result, Ok, Err}
use Rattle.std.proofs.Math.Option.{Option as Math·Option, some, none}
use Rattle.std.proofs.lemmas.List.Edits.{sets}
use Rattle.common.specs.Sizes.{load_width, store_width, finding_width}
use Rattle.edge_closer_text.specs.Sizes.{line_limit, triple_width, number_width, three_width}
use Rattle.edge_closer_text.specs.Input.{fields, id_line, Parsed, bad_line, input, read, parse}
use Rattle.edge_closer_text.specs.declared.input.Input.{Input}
use Rattle.edge_closer_text.specs.declared.input.BadLine.{BadLine}

-- the bytes from place `at` up to place `end`
abbrev pub part : List ℕ → ℕ → ℕ → List ℕ
part bs at end = take (end - at) (drop at bs)

-- a line of three fields, with its spaces at a and b
pub record TwoSpaces (line : List ℕ) (a b : ℕ) : Type 0 where
  pub order : a < b
  pub within : b < length line
  pub are : fields line ≡ take a line ∷ part line (a + 1) b ∷ part line (b + 1) (length line) ∷ []

-- `two_spaces`: the places of both spaces, or that the line has another shape
abbrev pub SpacesOf : List ℕ → Option (ℕ × ℕ) → Type 0
SpacesOf line (Some places) = TwoSpaces line places.0 places.1
SpacesOf line None = id_line line ≡ none

-- the answer of `ids_of_line`, none where the line has another shape
abbrev pub ids_of : Option (List ℕ) → Math·Option (List ℕ)
ids_of (Some ids) = some ids
ids_of None = none

-- the answer of `parse`, with the ids that it left in the lent buffer
abbrev pub parsed_of : Result Input BadLine → List ℕ → Parsed
parsed_of (Ok r) ids = input r.count (take (load_width * r.lines) ids)
parsed_of (Err e) ids = bad_line e.number

-- how many id lines an answer counts
abbrev pub lines_of : Result Input BadLine → ℕ
lines_of (Ok r) = r.lines
lines_of (Err e) = 0

-- `parse`: the answer; and the ids of the lines before the first bad one at the front of the buffer, the rest of it as it was
pub record ParseOf (text old : List ℕ) (r : Result Input BadLine) (new : List ℕ) : Type 0 where
  pub answer : parsed_of r new ≡ parse text
  pub ids : new ≡ sets old 0 (read text).ids
  pub few : lines_of r ≤ line_limit

-- rows of `width` numbers, of which the first `printed` are printed, and room for a line each
pub record TableFits (numbers : List ℕ) (width printed rows : ℕ) (out : List ℕ) (at : ℕ) : Type 0 where
  pub within : printed ≤ width
  pub held : width * rows ≤ length numbers
  pub room : at + number_width * (printed * rows) ≤ length out

-- the triples and findings that are counted, and room for a line each and one for the counts
pub record AnswerFits (store : List ℕ) (triples : ℕ) (findings : List ℕ) (records : ℕ) (out : List ℕ) : Type 0 where
  pub stored : store_width * triples ≤ length store
  pub found : finding_width * records ≤ length findings
  pub room : three_width + number_width * (triple_width * triples + finding_width * records) ≤ length out
