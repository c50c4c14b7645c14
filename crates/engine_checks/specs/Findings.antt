-- The findings buffer: n records of five numbers, with the five counts, one for each check; strictly ascending, then zeros; refusal 9
-- where there are more findings than records. REFERENCE 3.4 and 7.2. Assumes nothing.
use Rattle.std.specs.Prelude.{◌≡◌, Result, Ok, Err, Bool, true, false}
use Rattle.std.specs.Prelude.{List, [], ◌∷◌, ◌++◌, ℕ, ◌+◌, ◌-◌, ◌*◌, ◌/◌, ◌%◌, ◌≤◌, ◌<◌, length, get_or, set}
use Rattle.common.specs.Sizes.{finding_width, finding_limit}
use Rattle.common.specs.Triples.{Finding, In, Distinct}
use Rattle.meaning.specs.Closure.{findings, five_counts}
use Rattle.common.specs.Rows.{flat_findings, filled}
use Rattle.store_rows.specs.Rows.{rows, finding_rows}
use Rattle.store_rows.specs.Store.{Good, Indexed}
use Rattle.engine_checks.specs.declared.Checked.{Checked}
use Rattle.engine_checks.specs.declared.TooMany.{TooMany}

-- the buffer with x as its record j
abbrev pub set_finding : List ℕ → ℕ → Finding → List ℕ
set_finding f j x =
    let at = finding_width * j in
    set (set (set (set (set f at x.check) (at + 1) x.a) (at + 2) x.b) (at + 3) x.c) (at + 4) x.d

-- one more of check k
abbrev pub raised : List ℕ → ℕ → List ℕ
raised counts k = set counts (k - 1) (get_or counts (k - 1) 0 + 1)

-- the rows that the checks read
pub record Readable (l h ix : List ℕ) (n : ℕ) : Type 0 where
  pub good : Good l h n
  pub indexed : Indexed l n ix

-- what a loop answers: the records that there are, and whether one more did not fit
abbrev pub found_of : Result Checked TooMany → Checked
found_of (Ok a) = a
found_of (Err e) = e.found

abbrev pub is_over : Result Checked TooMany → Bool
is_over (Ok a) = false
is_over (Err e) = true

-- no records yet
abbrev pub nothing_yet : Checked
nothing_yet = record { n = 0; counts = 0 ∷ 0 ∷ 0 ∷ 0 ∷ 0 ∷ [] }

-- a buffer that has its records and their counts
pub record Ready (f : List ℕ) (a : Checked) : Type 0 where
  pub room : finding_width * a.n ≤ length f
  pub few : length f ≤ finding_width * finding_limit
  pub counts : a.counts ≡ five_counts (finding_rows a.n f)

-- refusal 9, findings full: a record of C is not among those appended, and there is no room for it
pub record Missing (C : Finding → Type 0) (f : List ℕ) (n : ℕ) (xs : List Finding) : Type 0 where
  pub short : length f < finding_width * n + finding_width
  pub what : Finding
  pub wanted : C what
  pub absent : In what xs → ⊥

-- from a to b by appending the records of C, each once: all of them, or one does not fit
pub record Appended (C : Finding → Type 0) (f : List ℕ) (a : Checked) (f' : List ℕ) (b : Checked) (more : Bool) : Type 0 where
  pub same_length : length f' ≡ length f
  pub ready : Ready f' b
  pub new : List Finding
  pub records : finding_rows b.n f' ≡ finding_rows a.n f ++ new
  pub distinct : Distinct new
  pub sound : (x : Finding) → In x new → C x
  pub all : more ≡ false → (x : Finding) → C x → In x new
  pub over : more ≡ true → Missing C f' b.n new

-- a findings buffer: five numbers a record
pub record Buffer (f : List ℕ) : Type 0 where
  pub whole : length f % finding_width ≡ 0
  pub few : length f ≤ finding_width * finding_limit

-- the findings fit: their number and counts, and the buffer has them in order, then zeros
pub record Fits (fs : List Finding) (f : List ℕ) (r : Checked) (more : Bool) (f' : List ℕ) : Type 0 where
  pub full : more ≡ false
  pub n : r.n ≡ length fs
  pub counts : r.counts ≡ five_counts fs
  pub filled_in : f' ≡ filled f (flat_findings fs)

-- THE CHECKS of the first n rows of l
pub record Checks (l : List ℕ) (n : ℕ) (f : List ℕ) (r : Checked) (more : Bool) (f' : List ℕ) : Type 0 where
  pub fits : length (findings (rows n l)) ≤ length f / finding_width → Fits (findings (rows n l)) f r more f'
  pub over : length f / finding_width < length (findings (rows n l)) → more ≡ true
  pub same_length : length f' ≡ length f
