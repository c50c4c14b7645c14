-- A text is read the same from its first bytes, where they are more than a good input has: so a program that reads so many into a fixed
-- buffer never cuts its input in silence. Assumes nothing.
use mathlib.Core.Path.{◌≡◌, refl, sym, ap, ◌∙◌}
use mathlib.Core.Logic.{◌⊎◌, inl, inr}
use mathlib.Core.Bool.{true, false}
use mathlib.Core.Option.{Option, some, none}
use mathlib.Core.List.{List, [], ◌∷◌, ◌++◌}
use Prim.Native.Nat.{ℕ, zero, suc, ◌+◌, ◌-◌, ◌*◌, ◌≤◌, ◌<◌}
use native.Mathlib.Omega.{arith}
use lib.Dec.{leb, eqb}
use lib.ListN.{length, take, drop, length-take}
use lib.Seq.{take-nil}
use borrow.Author.Tests.{leb-true, leb-false}
use Rattle.edge_decimal.proofs.Digits.{either}
use Rattle.edge_closer_text.specs.Sizes.{line_limit, last_line, line_over_limit, count_width, three_width, longest_input, input_length}
use Rattle.edge_closer_text.specs.Input.{before, lines, id_line, count_line, id_lines, read_lines, read, parsed, parse}
use Rattle.edge_closer_text.proofs.Parts.{after_line, lines_next}
use Rattle.edge_closer_text.proofs.Lengths.{short_count, short_ids, ids_over, ids_stop, ids_next}

-- A CUT TEXT: its first line is the text's, where that is short enough,
before_cut : (e n : ℕ) (bs : List ℕ) → length (before e bs) ≤ n → before e (take n bs) ≡ before e bs
unfolding before
before_cut e zero [] h = refl
before_cut e zero (b ∷ bs) h = go (either (eqb b e))
  where
    go : (eqb b e ≡ true) ⊎ (eqb b e ≡ false) → [] ≡ before e (b ∷ bs)
    go (inl t) = rw t refl
    go (inr t) = absurd (omega (arith, rw t at h))
before_cut e (suc n) [] h = refl
before_cut e (suc n) (b ∷ bs) h = go (λ i. before_cut e n bs i) (either (eqb b e))
  where
    go : (length (before e bs) ≤ n → before e (take n bs) ≡ before e bs) → (eqb b e ≡ true) ⊎ (eqb b e ≡ false)
        → before e (b ∷ take n bs) ≡ before e (b ∷ bs)
    go ih (inl t) = rw t refl
    go ih (inr t) = rw t (ap (λ l. b ∷ l) (ih (omega (arith, rw t at h))))

-- and else the whole cut text
before_long : (e n : ℕ) (bs : List ℕ) → n < length (before e bs) → length (before e (take n bs)) ≡ n
unfolding before
before_long e zero bs h = refl
before_long e (suc n) [] h = absurd (omega arith)
before_long e (suc n) (b ∷ bs) h = go (λ i. before_long e n bs i) (either (eqb b e))
  where
    go : (n < length (before e bs) → length (before e (take n bs)) ≡ n) → (eqb b e ≡ true) ⊎ (eqb b e ≡ false)
        → length (before e (b ∷ take n bs)) ≡ suc n
    go ih (inl t) = absurd (omega (arith, rw t at h))
    go ih (inr t) = rw t (ap suc (ih (omega (arith, rw t at h))))

-- what follows m bytes of the first n
drop_take : (m n : ℕ) (bs : List ℕ) → drop m (take n bs) ≡ take (n - m) (drop m bs)
drop_take zero n bs = let z : n ≡ n - 0 = omega arith in ap (λ k. take k bs) z
drop_take (suc m) zero bs = let z : 0 ≡ 0 - suc m = omega arith in ap (λ k. take k (drop (suc m) bs)) z
drop_take (suc m) (suc n) [] = sym (take-nil (suc n - suc m))
drop_take (suc m) (suc n) (b ∷ bs) = let z : n - m ≡ suc n - suc m = omega arith in drop_take m n bs ∙ ap (λ k. take k (drop m bs)) z

-- A LONG LINE, where P reads none that has `most` bytes or more
module _ {A : Type 0} (P : List ℕ → Option A) (most : ℕ) (short : (l : List ℕ) (a : A) → P l ≡ some a → length l < most) where
  -- a longer line is bad,
  long_none : (l : List ℕ) → most ≤ length l → P l ≡ none
  long_none l h = go (P l) refl
    where
      go : (x : Option A) → P l ≡ x → P l ≡ none
      go none e = e
      go (some a) e = let s = short l a e in absurd (omega arith)

  -- and so is what is left of it after a cut
  cut_none : (n : ℕ) (bs : List ℕ) → most ≤ n → P (before 10 bs) ≡ none → P (before 10 (take n bs)) ≡ none
  cut_none n bs h e = go (either (leb (length (before 10 bs)) n))
    where
      go : (leb (length (before 10 bs)) n ≡ true) ⊎ (leb (length (before 10 bs)) n ≡ false) → P (before 10 (take n bs)) ≡ none
      go (inl t) = rw (before_cut 10 n bs (leb-true (length (before 10 bs)) n t)) e
      go (inr t) = let l = before_long 10 n bs (leb-false (length (before 10 bs)) n t) in long_none (before 10 (take n bs)) (omega arith)

-- LINES OF A CUT TEXT: the first, whole or cut, and those after it where it is whole
lines_cut : (n : ℕ) (bs : List ℕ) → 0 < n → 0 < length bs → lines (take n bs) ≡ before 10 (take n bs) ∷ lines (after_line (take n bs))
lines_cut n bs h i = let l = length-take n bs in lines_next (take n bs) (omega arith)

-- where the first is whole
lines_whole : (n : ℕ) (bs : List ℕ) → 0 < n → 0 < length bs → length (before 10 bs) ≤ n
    → lines (take n bs) ≡ before 10 bs ∷ lines (take (n - suc (length (before 10 bs))) (after_line bs))
lines_whole n bs h i s = lines_cut n bs h i ∙ rw (before_cut 10 n bs s, drop_take (suc (length (before 10 bs))) n bs) refl

-- a line too many, whole or cut
over_cut : (c k n : ℕ) (is bs : List ℕ) → last_line < k → 0 < n → id_lines c k is (lines (take n bs)) ≡ id_lines c k is (lines bs)
over_cut c k n is [] h i = ap (λ x. id_lines c k is (lines x)) (take-nil n)
over_cut c k n is (b ∷ bs) h i =
    let u : lines (b ∷ bs) ≡ before 10 (b ∷ bs) ∷ lines (after_line (b ∷ bs)) = lines_next (b ∷ bs) (omega arith) in
    rw (lines_cut n (b ∷ bs) i (omega arith), u, ids_over) (sym (ids_over c k is (before 10 (b ∷ bs)) (lines (after_line (b ∷ bs))) h))

-- a line that is not too many, whole or cut: if it is bad, so is what is left of it, and else it is whole
line_cut : (r c k n : ℕ) (is bs : List ℕ) → k + suc r ≡ line_over_limit → three_width * suc r < n
    → ((m : ℕ) (t rest : List ℕ) → three_width * r < m → id_lines c (suc k) (is ++ t) (lines (take m rest))
    ≡ id_lines c (suc k) (is ++ t) (lines rest))
    → id_lines c k is (lines (take n bs)) ≡ id_lines c k is (lines bs)
line_cut r c k n is [] h i ih = ap (λ x. id_lines c k is (lines x)) (take-nil n)
line_cut r c k n is (b ∷ bs) h i ih = go (id_line (before 10 (b ∷ bs))) refl
  where
    some_byte : 0 < length (b ∷ bs)
    some_byte = omega arith

    go : (x : Option (List ℕ)) → id_line (before 10 (b ∷ bs)) ≡ x
        → id_lines c k is (lines (take n (b ∷ bs))) ≡ id_lines c k is (lines (b ∷ bs))
    go none e =
        let f = cut_none id_line three_width short_ids n (b ∷ bs) (omega arith) e in
        rw (lines_cut n (b ∷ bs) (omega arith) some_byte, lines_next (b ∷ bs) some_byte)
        (ids_stop c k is (before 10 (take n (b ∷ bs))) (lines (after_line (take n (b ∷ bs)))) f
        ∙ sym (ids_stop c k is (before 10 (b ∷ bs)) (lines (after_line (b ∷ bs))) e))
    go (some t) e =
        let s = short_ids (before 10 (b ∷ bs)) t e in
        let rest : List ℕ = after_line (b ∷ bs) in
        let m : ℕ = n - suc (length (before 10 (b ∷ bs))) in
        rw (lines_whole n (b ∷ bs) (omega arith) some_byte (omega arith), lines_next (b ∷ bs) some_byte)
        (ids_next c k is (before 10 (b ∷ bs)) t (lines (take m rest)) (omega arith) e
        ∙ ih m t rest (omega arith)
        ∙ sym (ids_next c k is (before 10 (b ∷ bs)) t (lines rest) (omega arith) e))

-- r lines more have a bounded length each, so that one byte beyond them decides as much as the whole text
ids_cut : (r c k n : ℕ) (is bs : List ℕ) → k + r ≡ line_over_limit → three_width * r < n
    → id_lines c k is (lines (take n bs)) ≡ id_lines c k is (lines bs)
ids_cut zero c k n is bs h i = over_cut c k n is bs (omega arith) i
ids_cut (suc r) c k n is bs h i = line_cut r c k n is bs h i (λ m t rest j. ids_cut r c (suc k) m (is ++ t) rest (omega arith) j)

-- SO MANY BYTES decide as much as the whole text
pub read_cut : (n : ℕ) (bs : List ℕ) → longest_input < n → read (take n bs) ≡ read bs
unfolding read
read_cut n [] h = ap (λ x. read_lines (lines x)) (take-nil n)
read_cut n (b ∷ bs) h = go (count_line (before 10 (b ∷ bs))) refl
  where
    some_byte : 0 < length (b ∷ bs)
    some_byte = omega arith

    go : (x : Option ℕ) → count_line (before 10 (b ∷ bs)) ≡ x → read_lines (lines (take n (b ∷ bs))) ≡ read_lines (lines (b ∷ bs))
    go none e =
        let f = cut_none count_line count_width short_count n (b ∷ bs) (omega arith) e in
        rw (lines_cut n (b ∷ bs) (omega arith) some_byte, lines_next (b ∷ bs) some_byte, e, f) refl
    go (some c) e =
        let s = short_count (before 10 (b ∷ bs)) c e in
        rw (lines_whole n (b ∷ bs) (omega arith) some_byte (omega arith), lines_next (b ∷ bs) some_byte, e)
        (ids_cut line_limit c 2 (n - suc (length (before 10 (b ∷ bs)))) [] (after_line (b ∷ bs)) refl (omega arith))

-- what a program that reads one byte more than the longest good input has finds is what the whole input says
pub parse_cut : (text : List ℕ) → parse (take input_length text) ≡ parse text
unfolding parse
parse_cut text = ap parsed (read_cut input_length text (omega arith))
