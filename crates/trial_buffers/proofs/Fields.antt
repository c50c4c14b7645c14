-- The number that begins at a place of a text. Assumes nothing.
use Rattle.std.proofs.Common.{◌≡◌, ℕ, suc, ◌+◌, ◌-◌, ◌<◌, ◌≤◌, Bool, true, false, ◌&&◌, ltb, List, [], ◌∷◌, length, get_or, take, drop}
use Rattle.std.proofs.Common.{sym, refl, ap, ◌∙◌, add-one, arith, drop_of_length-le, drop-cons, le-ltb, lt-ltb, le-leb}
use Rattle.std.specs.Prelude.{Option as Optional, Some, None, MatchOption}
use Rattle.std.specs.Option.{is_some, unwrap_or}
use mathlib.Core.Option.{Option, some, none}
use borrow.Author.Tests.{lt-leb}
use Rattle.common.specs.Triples.{if}
use Rattle.edge_decimal.specs.Decimal.{number}
use Rattle.trial_buffers.specs.declared.reader.Cursor.{Cursor}
use Rattle.trial_buffers.specs.Reading.{Read, ends, field, end_from, read_field, read_from, cursor_after, number_after, is_byte}
use Rattle.trial_buffers.specs.Reading.{byte_of}

-- the front of a text that a field is
pub field_front : (l : List ℕ) → take (length (field l)) l ≡ field l
unfolding field
field_front [] = refl
field_front (b ∷ bs) = go (ends b) (field_front bs)
  where
    go : (e : Bool) → take (length (field bs)) bs ≡ field bs
        → take (length (if e (λ _. []) (λ _. b ∷ field bs))) (b ∷ bs) ≡ if e (λ _. []) (λ _. b ∷ field bs)
    go true q = refl
    go false q = ap (λ (r : List ℕ). b ∷ r) q

-- a byte that ends a number, and one that does not
pub field_ended : (l : List ℕ) (k : ℕ) → k < length l → true ≡ ends (get_or l k 0) → length (field (drop k l)) ≡ 0
unfolding field
field_ended l k h e = rw (drop-cons l k 0 h, ← e) refl

pub field_longer : (l : List ℕ) (k : ℕ) → k < length l → false ≡ ends (get_or l k 0)
    → length (field (drop k l)) ≡ suc (length (field (drop (k + 1) l)))
unfolding field
field_longer l k h e = rw (drop-cons l k 0 h, ← e, add-one k) refl

pub field_none : (l : List ℕ) (k : ℕ) → length l ≤ k → length (field (drop k l)) ≡ 0
unfolding field
field_none l k h = rw (drop_of_length-le l h) refl

-- SEEKING the end of a number
pub record Seeking (text : List ℕ) (at end : ℕ) : Type 0 where
  pub from : at ≤ end
  pub within : end ≤ length text
  pub left : end + length (field (drop end text)) ≡ end_from text at

module _ {text : List ℕ} {at end : ℕ} (c : Seeking text at end) where
  pub seek_more : end < length text → false ≡ ends (get_or text end 0) → Seeking text at (end + 1)
  seek_more h e = record { from = omega (arith, c.from); within = omega arith; left = omega (arith, c.left, field_longer text end h e) }

  pub seek_found : end < length text → true ≡ ends (get_or text end 0) → end ≡ end_from text at
  seek_found h e = omega (arith, c.left, field_ended text end h e)

  pub seek_end : length text ≤ end → end ≡ end_from text at
  seek_end h = omega (arith, c.left, field_none text end h)

-- THE NUMBER that begins at a place
pub read_past : (text : List ℕ) (at : ℕ) → length text < at → record { value = 0; at = at; ok = false } ≡ read_from text at
unfolding read_from
read_past text at h = let q = lt-ltb (length text) at h in rw q refl

-- what its field gives is what is read
read_by : (text : List ℕ) (at end : ℕ) → at ≤ length text → end ≡ end_from text at → (o : Option ℕ)
    → o ≡ number 4294967295 (take (end - at) (drop at text)) → read_field text at end o ≡ read_from text at
unfolding read_from
read_by text at end h e o s =
    let l : end - at ≡ length (field (drop at text)) = omega (arith, e) in
    let f : number 4294967295 (field (drop at text)) ≡ o = sym
    (s ∙ ap (λ (k : ℕ). number 4294967295 (take k (drop at text))) l ∙ ap (number 4294967295) (field_front (drop at text))) in
    let q = le-ltb (length text) at h in
    rw (q, f, ← e) refl

pub read_none : (text : List ℕ) (at end : ℕ) → at ≤ length text → end ≡ end_from text at
    → none ≡ number 4294967295 (take (end - at) (drop at text)) → record { value = 0; at = at; ok = false } ≡ read_from text at
read_none text at end h e s = read_by text at end h e none s

pub read_some : (text : List ℕ) (at end : ℕ) → at ≤ length text → end ≡ end_from text at → {n p : ℕ}
    → some n ≡ number 4294967295 (take (end - at) (drop at text)) → p ≡ if (ltb end (length text)) (λ _. end + 1) (λ _. end)
    → record { value = n; at = p; ok = true } ≡ read_from text at
read_some text at end h e {n} s q = rw q (read_by text at end h e (some n) s)

-- ONE NUMBER MORE
pub cursor_none : (good : ℕ → Bool) (text : List ℕ) (c : Cursor) → c ≡ cursor_after good text c 0
unfolding cursor_after
cursor_none good text c = refl

module _ (good : ℕ → Bool) (text : List ℕ) (c d : Cursor) (i : ℕ) (e : d ≡ cursor_after good text c i) (r : Read)
    (f : r ≡ read_from text d.at) where
  -- all before it could be read, and not all
  pub cursor_good : d.ok ≡ true → {o : Bool} → o ≡ r.ok && good r.value → record { at = r.at; ok = o } ≡ cursor_after good text c (i + 1)
  unfolding cursor_after
  cursor_good h q = rw (q, add-one i, ← e, ← f, h) refl

  pub cursor_bad : d.ok ≡ false → record { at = r.at; ok = d.ok } ≡ cursor_after good text c (i + 1)
  unfolding cursor_after
  cursor_bad h = rw (add-one i, ← e, ← f, h) refl

  pub value_next : r.value ≡ number_after good text c i
  value_next = ap (λ (x : Read). x.value) (f ∙ ap (λ (x : Cursor). read_from text x.at) e)

pub and-true : (b : Bool) → b ≡ b && true
and-true true = refl
and-true false = refl

-- a number as a byte: none where it could not be read or is no byte
abbrev pub Byte : Optional ℕ → Optional ℕ → Type 0
Byte r v = MatchOption r (v ≡ None) (λ n. MatchOption v (255 < n) (λ b. (b ≡ n) × (n ≤ 255)))

pub byte_read : (r v : Optional ℕ) → Byte r v
    → (is_some v ≡ is_some r && is_byte (unwrap_or r 0)) × (unwrap_or v 0 ≡ byte_of (unwrap_or r 0))
byte_read None v e = rw e (refl, refl)
byte_read (Some n) None h = let q = lt-leb n 255 h in rw q (refl, refl)
byte_read (Some n) (Some b) h = let q = le-leb n 255 h.1 in rw q (refl, h.0)
