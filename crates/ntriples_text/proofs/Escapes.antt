-- A text, escaped: its characters one by one, its length, and the loop that writes it. Assumes nothing.
use mathlib.Core.Path.{◌≡◌, sym, ap, ◌∙◌}
use mathlib.Core.List.{List, [], ◌∷◌, ◌++◌, append_assoc, append-nil}
use Prim.Native.Nat.{ℕ, suc, ◌+◌, ◌-◌, ◌*◌, ◌≤◌, ◌<◌}
use native.Mathlib.Numerals.{add-one}
use native.Mathlib.Omega.{arith}
use lib.Dec.{eqb}
use lib.ListN.{length, get_or, take, drop, length-append, drop_of_length-le}
use lib.Seq.{drop-cons}
use Rattle.std.specs.Prelude.{Option as Maybe, Some, None, is_some, unwrap_or, true, false}
use Rattle.ntriples.proofs.Tests.{if_ind}
use Rattle.ntriples_utf8.specs.Promises.{Wrote}
use Rattle.ntriples_canonical.specs.Writing.{escaped, escape_all}
use Rattle.ntriples_text.specs.Promises.{escape_by}

-- A CHARACTER, by the letter of its escape: in two,
pub in_two : (r : Maybe ℕ) (b : ℕ) → escape_by r b ≡ escaped b → is_some r ≡ true → escaped b ≡ 92 ∷ unwrap_or r 0 ∷ []
in_two None b e h = cc
in_two (Some l) b e h = sym e

-- or as it is
pub as_it_is : (r : Maybe ℕ) (b : ℕ) → escape_by r b ≡ escaped b → is_some r ≡ false → escaped b ≡ b ∷ []
as_it_is None b e h = sym e
as_it_is (Some l) b e h = cc

-- two at most for each
escaped_few : (c : ℕ) → length (escaped c) ≤ 2
unfolding escaped
escaped_few c =
    if_ind (λ (l : List ℕ). length l ≤ 2) (eqb c 34) _ _ (λ _. omega arith) λ _.
    if_ind (λ (l : List ℕ). length l ≤ 2) (eqb c 92) _ _ (λ _. omega arith) λ _.
    if_ind (λ (l : List ℕ). length l ≤ 2) (eqb c 10) _ _ (λ _. omega arith) λ _.
    if_ind (λ (l : List ℕ). length l ≤ 2) (eqb c 13) _ _ (λ _. omega arith) (λ _. omega arith)

-- so for all
pub escape_few : (t : List ℕ) → length (escape_all t) ≤ 2 * length t
unfolding escape_all
escape_few [] = omega arith
escape_few (c ∷ t) = omega (arith, length-append (escaped c) (escape_all t), escaped_few c, escape_few t)

-- the character at i, and what is left after it
next_escaped : (text : List ℕ) (i : ℕ) → i < length text
    → escape_all (drop i text) ≡ escaped (get_or text i 0) ++ escape_all (drop (suc i) text)
unfolding escape_all
next_escaped text i h = ap escape_all (drop-cons text i 0 h)

-- its length
next_length : (text : List ℕ) (i : ℕ) → i < length text
    → length (escape_all (drop i text)) ≡ length (escaped (get_or text i 0)) + length (escape_all (drop (suc i) text))
next_length text i h =
    ap length (next_escaped text i h) ∙ length-append (escaped (get_or text i 0)) (escape_all (drop (suc i) text))

-- nothing is left
none_left : (text : List ℕ) (i : ℕ) → length text ≤ i → escape_all (drop i text) ≡ []
unfolding escape_all
none_left text i h = ap escape_all (drop_of_length-le text h)

-- THE LOOP that measures: n is the text's length, and one more for each escape before place i
pub record Measuring (text : List ℕ) (n i : ℕ) : Type 0 where
  pub is : n + length (escape_all (drop i text)) ≡ length (escape_all text) + (length text - i)
  pub few : n ≤ length text + i
  pub within : i ≤ length text

module _ {text : List ℕ} {n i : ℕ} (m : Measuring text n i) where
  -- one character more
  pub measuring_step : {k : ℕ} → i < length text → n + length (escaped (get_or text i 0)) ≡ k + 1 → Measuring text k (i + 1)
  measuring_step h e =
      let f = m.few in
      let q = m.is in
      rw (add-one i)
      (record { is = omega (arith, next_length text i h); few = omega (arith, escaped_few (get_or text i 0)); within = h })

  -- no character is left
  pub measuring_end : length text ≤ i → n ≡ length (escape_all text)
  measuring_end h = let k = m.is in omega (arith, ap length (none_left text i h))

-- THE LOOP that writes: what is written, with the text's rest, is all
pub record Escaping (text old : List ℕ) (at : ℕ) (page : List ℕ) (n i : ℕ) : Type 0 where
  pub front : take n page ++ escape_all (drop i text) ≡ take at old ++ escape_all text
  pub end : n + length (escape_all (drop i text)) ≡ at + length (escape_all text)
  pub same : length page ≡ length old
  pub within : i ≤ length text

module _ {text old : List ℕ} {at : ℕ} {page : List ℕ} {n i : ℕ} (p : Escaping text old at page n i) where
  -- there is room for the next
  pub escaping_room : at + length (escape_all text) ≤ length old → i < length text → n + length (escaped (get_or text i 0)) ≤ length page
  escaping_room r h =
      let e = p.end in
      let s = p.same in
      omega (arith, next_length text i h)

  -- the next
  pub escaping_step : i < length text → {new : List ℕ} {m : ℕ} → Wrote page n (escaped (get_or text i 0)) new m
      → Escaping text old at new m (i + 1)
  escaping_step h {new} {m} w =
      let xs = escaped (get_or text i 0) in
      let rest = escape_all (drop (suc i) text) in
      let k = p.end in
      let l = w.end in
      rw (add-one i) (record {
        front = ap (λ l. l ++ rest) w.front
            ∙ (append_assoc (take n page) xs rest ∙ (ap (λ l. take n page ++ l) (sym (next_escaped text i h)) ∙ p.front));
        end = omega (arith, next_length text i h);
        same = w.same ∙ p.same;
        within = h;
      })

  -- all of them
  pub escaping_end : length text ≤ i → Wrote old at (escape_all text) page n
  escaping_end h =
      let e = none_left text i h in
      let k = p.end in
      record {
        front = sym (append-nil (take n page)) ∙ (ap (λ l. take n page ++ l) (sym e) ∙ p.front);
        end = omega (arith, ap length e);
        same = p.same;
      }
