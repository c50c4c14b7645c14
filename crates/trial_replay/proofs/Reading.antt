-- What the lines of a text do, from what each step does. Assumes nothing.
use mathlib.Core.Path.{◌≡◌, refl, sym, ap, ◌∙◌}
use Rattle.std.proofs.Common.{◌↔◌}
use Rattle.dictionary_layout.proofs.Choice.{is_true, is_false, true_false}
use Rattle.dictionary_layout.proofs.Equality.{same_rows, same_row→}
use mathlib.Core.Logic.{◌≢◌}
use mathlib.Core.Bool.{Bool, true, false, ◌&&◌}
use mathlib.Core.List.{List}
use Prim.Native.Nat.{ℕ, ◌-◌, ◌≤◌, ◌<◌}
use lib.Dec.{ltb}
use lib.ListN.{length, take}
use lib.Seq.{length-take-le}
use borrow.Author.Tests.{lt-ltb, le-ltb, eq-eqb, ne_eqb}
use borrow.Rule.Slice.PartMut.{mid_of, put_mid, Post-is, mid_len}
use Rattle.dictionary_layout.specs.Dictionary.{same_row}
use Rattle.trial_buffers.specs.declared.reader.Cursor.{Cursor}
use Rattle.trial_buffers.specs.Memory.{Each}
use Rattle.trial_buffers.specs.Reading.{Read, read_from, cursor_after, number_after, any, is_byte}
use Rattle.trial_replay.specs.declared.lines.Span.{Span}
use Rattle.trial_replay.specs.Made.{numbers_from, made}
use Rattle.trial_replay.specs.Text.{after, cells_from, span_from, put_in, edited, written, filled, one_if, difference, called}
use Rattle.trial_replay.specs.Text.{call_made, Memories, memories, kept_by, list_end}
use Rattle.trial_replay.proofs.Making.{each_span}

-- a test of both, where the first holds and where it does not
pub and_yes : {a b o s : Bool} → s ≡ a → s ≡ true → o ≡ b → o ≡ a && b
and_yes e t q = rw (← e, t) q

pub and_no : (b : Bool) {a o s : Bool} → s ≡ a → s ≡ false → o ≡ s → o ≡ a && b
and_no b e f q = rw (← e, f) (q ∙ f)

-- a test of two memories
pub same_row_test : (b : Bool) {x y : List ℕ} → (b ≡ true ↔ (x ≡ y)) → b ≡ same_row x y
same_row_test true {x} {y} f = is_true (same_row x y) (same_rows (f.0 refl))
same_row_test false {x} {y} f = is_false (same_row x y) (λ t. true_false (sym (f.1 (same_row→ x y t))))

pub span_is : (text : List ℕ) (at cells : ℕ) {a n : Read} → a ≡ read_from text at → n ≡ read_from text a.at → {o : Bool} →
    o ≡ a.ok && n.ok → {s : Span} → s ≡ cells_from a.value n.value n.at o cells → s ≡ span_from text at cells
unfolding span_from
span_is text at cells ea en eo e = rw (← ea, ← en, ← eo) e

-- numbers in them
module _ (text : List ℕ) (at : ℕ) (m : List ℕ) {s : Span} (e : s ≡ span_from text at (length m)) (o : s.first ≤ s.end)
    (w : s.end ≤ length m) where
  abbrev cells : List ℕ
  cells = mid_of s.first (s.end - s.first) m

  abbrev start : Cursor
  start = record { at = s.at; ok = s.ok }

  module _ (row : List ℕ) (l : length row ≡ length cells) where
    part_put : (f : ℕ → ℕ) → Each f row → put_mid s.first (s.end - s.first) m row ≡ put_in m s f
    part_put f h =
        let r = each_span f (s.end - s.first) {row = row} (l ∙ mid_len s.first s.end m w) h in
        let p = Post-is s.first s.end m o in
        rw (r, p) refl

    pub written_is : {r : Cursor} → r ≡ cursor_after any text start (length cells) → Each (number_after any text start) row →
        edited r (put_mid s.first (s.end - s.first) m row) ≡ written text at m
    unfolding written
    written_is er h =
        let p = part_put (number_after any text start) h in
        let c = er ∙ ap (cursor_after any text start) (mid_len s.first s.end m w) in
        rw (p, c, ← e) refl

    pub filled_is : {v : Read} → v ≡ read_from text s.at → {b : Bool} → b ≡ s.ok && v.ok → Each (λ _. v.value) row →
        edited (record { at = v.at; ok = b }) (put_mid s.first (s.end - s.first) m row) ≡ filled text at m
    unfolding filled
    filled_is {v = v} ev eb h = let p = part_put (λ _. v.value) h in rw (p, eb, ← e, ← ev) refl

-- LINE 4
module _ (text : List ℕ) (at : ℕ) (m e : List ℕ) {k d : Read} (ek : k ≡ read_from text at) (ed : d ≡ read_from text k.at) where
  pub call_is : {m₁ : List ℕ} → m₁ ≡ made k.value m → {g : Bool} → g ≡ same_row m₁ e → {o : Bool} → o ≡ k.ok && d.ok → {n : ℕ} →
      n ≡ one_if (ltb k.value 8) → {b : Bool} → b ≡ difference g d.value → {x : ℕ} → x ≡ one_if b →
      called (record { at = d.at; ok = o; calls = n; differences = x }) m₁ ≡ call_made text at m e
  unfolding call_made
  call_is em eg eo en eb ex = rw (ex, eb, eg, eo, en, ← ek, ← ed, ← em) refl

-- LINES 5 AND 6
module _ (line : ℕ) (c : Memories) where
  pub saves : line ≡ 5 → {s : List ℕ} → s ≡ numbers_from c.memory 0 (length c.saved) →
      memories c.memory c.expected s ≡ kept_by line c
  unfolding kept_by
  saves z f = let q = eq-eqb line 5 z in rw (q, f) refl

  pub restores : line ≢ 5 → {m e : List ℕ} → m ≡ numbers_from c.saved 0 (length c.memory) →
      e ≡ numbers_from c.saved 0 (length c.expected) → memories m e c.saved ≡ kept_by line c
  unfolding kept_by
  restores z f g = let q = ne_eqb line 5 z in rw (q, f, g) refl

-- THE END OF A LIST: there is no room for its name, or it is read
module _ (text : List ℕ) (at : ℕ) (room : List ℕ) {n : Read} (e : n ≡ read_from text at) where
  pub no_room : length room < n.value → record { at = at; ok = false } ≡ list_end text at (length room)
  unfolding list_end
  no_room h = let q = lt-ltb (length room) n.value h in rw (← e, q) refl

  pub named : n.value ≤ length room → {c : Cursor} → c ≡ cursor_after is_byte text (after n) (length (take n.value room)) →
      c ≡ list_end text at (length room)
  unfolding list_end
  named h r =
      let q = le-ltb (length room) n.value h in
      let l = length-take-le n.value room h in
      rw (← e, q, ← l) r
