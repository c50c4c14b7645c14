-- What the lines of a text do to the two memories and the saved one. crates/trial_replay/README.md has their format. Assumes nothing.
use Rattle.std.specs.Prelude.{Bool, true, false, not, ◌&&◌, List, ◌++◌, ℕ, ◌+◌, ◌-◌, eqb, ltb, length, take, drop}
use Rattle.common.specs.Triples.{if}
use Rattle.dictionary_layout.specs.Layout.{span}
use Rattle.dictionary_layout.specs.Dictionary.{same_row}
use Rattle.trial_buffers.specs.declared.reader.Cursor.{Cursor}
use Rattle.trial_buffers.specs.Reading.{Read, read_from, cursor_after, number_after, any, is_byte}
use Rattle.trial_replay.specs.declared.lines.Turn.{Turn}
use Rattle.trial_replay.specs.declared.lines.Span.{Span}
use Rattle.trial_replay.specs.Made.{numbers_from, made}

-- the place after a number
abbrev pub after : Read → Cursor
after r = record { at = r.at; ok = r.ok }

-- "A n": the n cells from cell A on, if a memory of so many cells has them
unfoldable pub cells_from : ℕ → ℕ → ℕ → Bool → ℕ → Span
cells_from first n at ok cells =
    let none : Span = record { first = 0; end = 0; at = at; ok = false } in
    if (ltb cells first)
    (λ _. none)
    (λ _. if (ltb (cells - first) n) (λ _. none) (λ _. record { first = first; end = first + n; at = at; ok = ok }))

unfoldable pub span_from : List ℕ → ℕ → ℕ → Span
span_from text at cells =
    let a = read_from text at in
    let n = read_from text a.at in
    cells_from a.value n.value n.at (a.ok && n.ok) cells

-- the memory with what f says in the cells of s
abbrev pub put_in : List ℕ → Span → (ℕ → ℕ) → List ℕ
put_in m s f = take s.first m ++ (span (s.end - s.first) 0 f ++ drop s.end m)

-- a memory after an edit, and the place after its line
pub record Edited : Type 0 where
  pub end : Cursor
  pub memory : List ℕ

abbrev pub edited : Cursor → List ℕ → Edited
edited c m = record { end = c; memory = m }

-- "A n v1 .. vn" writes numbers
unfoldable pub written : List ℕ → ℕ → List ℕ → Edited
written text at m =
    let s = span_from text at (length m) in
    let c : Cursor = record { at = s.at; ok = s.ok } in
    edited (cursor_after any text c (s.end - s.first)) (put_in m s (number_after any text c))

-- "A n v" fills cells
unfoldable pub filled : List ℕ → ℕ → List ℕ → Edited
filled text at m =
    let s = span_from text at (length m) in
    let v = read_from text s.at in
    edited (record { at = v.at; ok = s.ok && v.ok }) (put_in m s (λ _. v.value))

-- LINES 0 TO 3: both memories or the expected one
pub record Edits : Type 0 where
  pub end : Cursor
  pub memory : List ℕ
  pub expected : List ℕ

abbrev pub edits : Cursor → List ℕ → List ℕ → Edits
edits c m e = record { end = c; memory = m; expected = e }

unfoldable pub edited_by : ℕ → List ℕ → ℕ → List ℕ → List ℕ → Edits
edited_by line text at m e =
    let w = written text at e in
    let f = filled text at e in
    if (eqb line 0)
    (λ _. edits w.end (written text at m).memory w.memory)
    (λ _. if (eqb line 1)
    (λ _. edits w.end m w.memory)
    (λ _. if (eqb line 2) (λ _. edits f.end (filled text at m).memory f.memory) (λ _. edits f.end m f.memory)))

-- LINE 4, "k d": a call on the memory, which is then compared with the expected one
abbrev pub one_if : Bool → ℕ
one_if true = 1
one_if false = 0

-- the memories are the same and must not be, or differ and must not
abbrev pub difference : Bool → ℕ → Bool
difference true d = eqb d 1
difference false d = not (eqb d 1)

pub record Called : Type 0 where
  pub turn : Turn
  pub memory : List ℕ

abbrev pub called : Turn → List ℕ → Called
called t m = record { turn = t; memory = m }

unfoldable pub call_made : List ℕ → ℕ → List ℕ → List ℕ → Called
call_made text at m e =
    let k = read_from text at in
    let d = read_from text k.at in
    let m₁ = made k.value m in
    let x = one_if (difference (same_row m₁ e) d.value) in
    called (record { at = d.at; ok = k.ok && d.ok; calls = one_if (ltb k.value 8); differences = x }) m₁

-- LINES 5 AND 6
pub record Memories : Type 0 where
  pub memory : List ℕ
  pub expected : List ℕ
  pub saved : List ℕ

abbrev pub memories : List ℕ → List ℕ → List ℕ → Memories
memories m e s = record { memory = m; expected = e; saved = s }

-- the memory is saved, or both memories are as it was, with zeros beyond
unfoldable pub kept_by : ℕ → Memories → Memories
kept_by line c =
    if (eqb line 5)
    (λ _. memories c.memory c.expected (numbers_from c.memory 0 (length c.saved)))
    (λ _. memories (numbers_from c.saved 0 (length c.memory)) (numbers_from c.saved 0 (length c.expected)) c.saved)

-- A LINE whose first number was read: what it shows, and the memories after it
pub record Played : Type 0 where
  pub turn : Turn
  pub left : Memories

abbrev pub played : Turn → Memories → Played
played t c = record { turn = t; left = c }

-- a line without a call
abbrev pub quiet_turn : Cursor → Turn
quiet_turn c = record { at = c.at; ok = c.ok; calls = 0; differences = 0 }

unfoldable pub line_played : List ℕ → Read → Memories → Played
line_played text line c =
    let r = edited_by line.value text line.at c.memory c.expected in
    let k = call_made text line.at c.memory c.expected in
    if (ltb line.value 4)
    (λ _. played (quiet_turn r.end) (memories r.memory r.expected c.saved))
    (λ _. if (eqb line.value 4)
    (λ _. played k.turn (memories k.memory c.expected c.saved))
    (λ _. played (quiet_turn (record { at = line.at; ok = true })) (kept_by line.value c)))

-- the longest name of a list
abbrev pub name_limit : ℕ
name_limit = 60

-- "7 n b1 .. bn": the end of a list whose name has at most so many bytes
unfoldable pub list_end : List ℕ → ℕ → ℕ → Cursor
list_end text at most =
    let n = read_from text at in
    if (ltb most n.value) (λ _. record { at = at; ok = false }) (λ _. cursor_after is_byte text (after n) n.value)
