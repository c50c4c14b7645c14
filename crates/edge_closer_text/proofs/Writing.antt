-- Text written into a lent buffer: one piece after the other, a line, a table. Assumes nothing.
use mathlib.Core.Path.{◌≡◌, refl, sym, ◌∙◌}
use mathlib.Core.List.{List, [], ◌∷◌, ◌++◌, append_assoc, append-nil}
use Prim.Native.Nat.{ℕ, zero, suc, ◌+◌, ◌-◌, ◌*◌, ◌^◌, ◌≤◌, ◌<◌}
use native.Mathlib.Nat.{mul-suc}
use native.Mathlib.Numerals.{add-one}
use native.Mathlib.Omega.{arith}
use lib.ListN.{length, get_or, take, drop, set, length-append, length-take, length-drop, drop_of_length-le}
use lib.Seq.{sets, sets-eq, length-sets, length-take-le, drop-cons, drop-drop, get_or-drop}
use borrow.Rule.Slice.PartMut.{put_mid}
use Rattle.common.proofs.Widths.{rows_apart}
use Rattle.edge_decimal.specs.Decimal.{digits}
use Rattle.edge_decimal.specs.Promises.{Wrote}
use Rattle.edge_decimal.proofs.Writing.{short_digits, wrote_byte, wrote_length, wrote_then}
use Rattle.edge_closer_text.specs.Sizes.{number_width}
use Rattle.edge_closer_text.specs.Output.{ending, line, table}
use Rattle.edge_closer_text.specs.Promises.{part, TableFits}

-- BYTES, all at once: what `copy_from_slice` leaves
pub put_sets : (l vs : List ℕ) (i k : ℕ) → k ≡ length vs → i + length vs ≤ length l → put_mid i k l vs ≡ sets l i vs
put_sets l vs i k e h =
    rw (e, drop-drop (length vs) i l) (sym (sets-eq vs l i h ∙ append_assoc (take i l) vs (drop (i + length vs) l)))

-- they were written
pub wrote_bytes : (old : List ℕ) (at k : ℕ) (bytes : List ℕ) → k ≡ length bytes → at + length bytes ≤ length old
    → Wrote old at bytes (put_mid at k old bytes) (at + length bytes)
wrote_bytes old at k bytes e h = rw (put_sets old bytes at k e h) (record {
  out = refl;
  end = refl;
  within = w;
  front = sym (length-take-le (at + length bytes) (sets old at bytes) w);
})
  where
    w : at + length bytes ≤ length (sets old at bytes)
    w = omega (arith, length-sets old at bytes)

-- A LINE, a number after the others: the numbers of a lent slice
abbrev pub Words : List ℕ → Type 0
Words ns = (k : ℕ) → get_or ns k 0 < 2 ^ 32

-- the loop: what is left gives the same as the whole, and no number takes more bytes than its width
pub record Lined (ns old : List ℕ) (at : ℕ) (new : List ℕ) (to i : ℕ) : Type 0 where
  pub text : List ℕ
  pub wrote : Wrote old at text new to
  pub left : text ++ line (drop i ns) ≡ line ns
  pub upto : i ≤ length ns
  pub room : to ≤ at + number_width * i

module _ {ns old : List ℕ} {at : ℕ} {new : List ℕ} {to i : ℕ} (fits : at + number_width * length ns ≤ length old)
    (c : Lined ns old at new to i) where
  -- the buffer keeps its length
  pub lined_length : length new ≡ length old
  lined_length = wrote_length c.wrote

  -- the whole line
  pub lined_end : length ns ≤ i → Wrote old at (line ns) new to
  unfolding line
  lined_end h = let e : c.text ≡ line ns = sym (append-nil c.text) ∙ (rw (drop_of_length-le ns h) at c.left) in rw (← e) c.wrote

  module _ (h : i < length ns) (l : get_or ns i 0 < 2 ^ 32) where
    -- there is room for one number more
    pub lined_number : to + length (digits (get_or ns i 0)) ≤ length new
    lined_number = let e = lined_length in let r = c.room in let s = short_digits (get_or ns i 0) l in omega arith

    module _ {after : List ℕ} {end : ℕ} (w : Wrote new to (digits (get_or ns i 0)) after end) where
      -- and for the byte after it
      pub lined_byte : end < length after
      lined_byte =
          let e = lined_length in
          let f = wrote_length w in
          let r = c.room in
          let s = short_digits (get_or ns i 0) l in
          let g = w.end in
          omega arith

      -- one number more, with the byte after it
      pub lined_step : {b : ℕ} → b ≡ ending (length ns - (i + 1)) → Lined ns old at (set after end b) (end + 1) (i + 1)
      unfolding line
      lined_step e = rw e (record {
        text = (c.text ++ digits (get_or ns i 0)) ++ (ending (length ns - (i + 1)) ∷ []);
        wrote = wrote_then (wrote_then c.wrote w) (wrote_byte after end (ending (length ns - (i + 1))) lined_byte);
        left = rw (add-one i, append_assoc, append_assoc) (rw (drop-cons ns i 0 h, length-drop (suc i) ns) at c.left);
        upto = omega arith;
        room = let s = short_digits (get_or ns i 0) l in let g = w.end in let r = c.room in omega arith;
      })

-- A TABLE, a line after the others. Parts of a lent slice hold numbers too,
pub words_drop : (n : ℕ) (ns : List ℕ) → Words ns → Words (drop n ns)
words_drop n ns f k = rw (get_or-drop n ns k 0) (f (n + k))

-- the front of one,
pub words_take : (n : ℕ) (ns : List ℕ) → Words ns → Words (take n ns)
words_take zero ns f k = omega arith
words_take (suc n) [] f k = omega arith
words_take (suc n) (x ∷ ns) f zero = f zero
words_take (suc n) (x ∷ ns) f (suc k) = words_take n ns (λ j. f (suc j)) k

-- and a line of them is short
pub line_short : (ns : List ℕ) → Words ns → length (line ns) ≤ number_width * length ns
unfolding line
line_short [] f = omega arith
line_short (n ∷ ns) f =
    let s = short_digits n (f 0) in
    let r = line_short ns (λ k. f (suc k)) in
    simp length-append (omega arith)

-- the loop: what is left gives the same as the whole, and no number takes more bytes than its width
pub record Tabled (ns : List ℕ) (w c rows : ℕ) (old : List ℕ) (at : ℕ) (new : List ℕ) (to i : ℕ) : Type 0 where
  pub text : List ℕ
  pub wrote : Wrote old at text new to
  pub left : text ++ table w c (rows - i) (drop (w * i) ns) ≡ table w c rows ns
  pub upto : i ≤ rows
  pub room : to ≤ at + number_width * (c * i)

module _ {ns : List ℕ} {w c rows : ℕ} {old : List ℕ} {at : ℕ} {new : List ℕ} {to i : ℕ} (f : TableFits ns w c rows old at)
    (t : Tabled ns w c rows old at new to i) where
  -- the whole table
  pub tabled_end : rows ≤ i → Wrote old at (table w c rows ns) new to
  unfolding table
  tabled_end h =
      let z : rows - i ≡ 0 = omega arith in
      let e : t.text ≡ table w c rows ns = sym (append-nil t.text) ∙ (rw z at t.left) in
      rw (← e) t.wrote

  module _ (h : i < rows) where
    -- the next row's part that is printed
    pub tabled_part : w * i + c ≤ length ns
    tabled_part = let a = rows_apart w i rows h in let g = f.held in let v = f.within in omega arith

    -- that has c numbers
    part_length : length (part ns (w * i) (w * i + c)) ≡ c
    part_length = let g = tabled_part in let d = length-drop (w * i) ns in simp length-take (omega arith)

    -- one row more
    pub tabled_step : {after : List ℕ} {next : ℕ} → Words ns → Wrote new to (line (part ns (w * i) (w * i + c))) after next
        → Tabled ns w c rows old at after next (i + 1)
    unfolding table
    tabled_step q v = record {
      text = t.text ++ line (part ns (w * i) (w * i + c));
      wrote = wrote_then t.wrote v;
      left =
          let k : rows - i ≡ suc (rows - (i + 1)) = omega arith in
          let g : w * i + c - w * i ≡ c = omega arith in
          let m : w * (i + 1) ≡ w * i + w = rw (add-one i, mul-suc w i) (omega arith) in
          rw (append_assoc, g, m, ← drop-drop w (w * i) ns) (rw k at t.left);
      upto = omega arith;
      room =
          let s = line_short (part ns (w * i) (w * i + c))
          (words_take (w * i + c - w * i) (drop (w * i) ns) (words_drop (w * i) ns q)) in
          let n = part_length in
          let e = v.end in
          let r = t.room in
          rw (add-one i, mul-suc c i) (omega arith);
    }
