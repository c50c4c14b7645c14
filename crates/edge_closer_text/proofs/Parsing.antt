-- The whole input: the loop over its lines, and what the answer says. Assumes nothing.
use mathlib.Core.Path.{◌≡◌, refl, sym, ap, ◌∙◌}
use mathlib.Core.Option.{some, none}
use mathlib.Core.List.{List, [], ◌∷◌, ◌++◌}
use Prim.Native.Nat.{ℕ, suc, ◌+◌, ◌-◌, ◌*◌, ◌≤◌, ◌<◌}
use native.Mathlib.Omega.{arith}
use lib.ListN.{length, take, drop, drop_of_length-le}
use lib.Seq.{sets, length-sets, length-take-le, take-nil}
use borrow.Author.Tests.{le-leb}
use Rattle.std.specs.Prelude.{Ok, Err}
use Rattle.common.specs.Sizes.{load_width}
use Rattle.edge_decimal.proofs.Numerals.{number_empty}
use Rattle.edge_decimal.proofs.Writing.{sets_append, take_sets}
use Rattle.edge_closer_text.specs.Sizes.{count_limit, line_limit, last_line, ids_length}
use Rattle.edge_closer_text.specs.Input.{before, parts, lines, id_line, count_line, reading, id_lines, read_lines, read, parse}
use Rattle.edge_closer_text.specs.Promises.{part, ParseOf}
use Rattle.edge_closer_text.proofs.Parts.{found_within, found_line}

-- THE WHOLE INPUT. What was read decides the answer.
parse_bad : {text old : List ℕ} (n : ℕ) (is : List ℕ) (j : ℕ) {new : List ℕ} → read text ≡ reading n is (some j)
    → new ≡ sets old 0 is → ParseOf text old (Err (record { number = j })) new
unfolding parse
parse_bad {text} {old} n is j {new} e k = record { answer = rw e refl; ids = k ∙ ap (λ r. sets old 0 r.ids) (sym e); few = omega arith }

-- an input without a bad line
parse_good : {text old : List ℕ} (n k : ℕ) {new : List ℕ} → read text ≡ reading n (take (load_width * k) new) none
    → new ≡ sets old 0 (take (load_width * k) new) → k ≤ line_limit → ParseOf text old (Ok (record { count = n; lines = k })) new
unfolding parse
parse_good {text} {old} n k {new} e kept few = record { answer = rw e refl; ids = kept ∙ ap (λ r. sets old 0 r.ids) (sym e); few = few }

-- the count's line, at the front
first_line : (text : List ℕ) (first : ℕ) → 0 < length text → first ≡ 0 + length (before 10 (drop 0 text))
    → lines text ≡ take first text ∷ lines (drop (first + 1) text)
first_line text first h is = let z : first - 0 ≡ first = omega arith in found_line text 0 first h is ∙ rw z refl

-- the count's line is bad; so it is where the text is empty
pub count_bad : (text old : List ℕ) (first : ℕ) → first ≡ 0 + length (before 10 (drop 0 text))
    → count_line (take first text) ≡ none → ParseOf text old (Err (record { number = 1 })) old
unfolding read parts
count_bad text old first is e = parse_bad 0 [] 1 (go text first is e) refl
  where
    go : (bs : List ℕ) (first : ℕ) → first ≡ 0 + length (before 10 (drop 0 bs)) → count_line (take first bs) ≡ none
        → read bs ≡ reading 0 [] (some 1)
    go [] first is e = refl
    go (b ∷ bs) first is e = ap read_lines (first_line (b ∷ bs) first (omega arith) is) ∙ rw e refl

-- THE LOOP over the id lines: the ids of k lines stand at the front, the rest is as it was, and what is left gives the same as the whole
pub record LinesRead (text old : List ℕ) (n : ℕ) (new : List ℕ) (end k : ℕ) : Type 0 where
  pub few : k ≤ line_limit
  pub upto : end ≤ length text
  pub room : ids_length ≤ length new
  pub kept : new ≡ sets old 0 (take (load_width * k) new)
  pub left : read text ≡ id_lines n (k + 2) (take (load_width * k) new) (lines (drop (end + 1) text))

-- the count was read, and no id line
pub lines_start : (text old : List ℕ) (first n : ℕ) → ids_length ≤ length old → first ≡ 0 + length (before 10 (drop 0 text))
    → count_line (take first text) ≡ some n → LinesRead text old n old first 0
unfolding read
lines_start text old first n room is e = record {
  few = omega arith;
  upto = found_within 10 text 0 first (omega arith) is;
  room = room;
  kept = refl;
  left = go text first is e;
}
  where
    go : (bs : List ℕ) (first : ℕ) → first ≡ 0 + length (before 10 (drop 0 bs)) → count_line (take first bs) ≡ some n
        → read bs ≡ id_lines n 2 [] (lines (drop (first + 1) bs))
    go [] first is e =
        let q : some n ≡ none = sym e ∙ ap count_line (take-nil first) ∙ number_empty count_limit [] refl in
        let z : ◌≡◌ {A = ℕ} 0 1 = cc in
        absurd (omega arith)
    go (b ∷ bs) first is e = ap read_lines (first_line (b ∷ bs) first (omega arith) is) ∙ rw e refl

module _ {text old : List ℕ} {n : ℕ} {new : List ℕ} {end k : ℕ} (c : LinesRead text old n new end k) where
  -- no line is left
  pub lines_end : length text ≤ end + 1 → ParseOf text old (Ok (record { count = n; lines = k })) new
  unfolding id_lines parts
  lines_end h = parse_good n k (c.left ∙ rw (drop_of_length-le text h) refl) c.kept c.few

  module _ (h : end + 1 < length text) (next : ℕ) (is : next ≡ end + 1 + length (before 10 (drop (end + 1) text))) where
    -- the next line and those after it
    one_more : read text ≡ id_lines n (k + 2) (take (load_width * k) new) (part text (end + 1) next ∷ lines (drop (next + 1) text))
    one_more = c.left ∙ rw (found_line text (end + 1) next h is) refl

    -- a line too many, whatever it holds
    one_too_many : k ≡ line_limit → ParseOf text old (Err (record { number = k + 2 })) new
    unfolding id_lines
    one_too_many e = parse_bad n (take (load_width * k) new) (k + 2) (one_more ∙ rw e refl) c.kept

    -- a line of another shape
    pub line_bad : (k ≡ line_limit → ⊥) → id_line (part text (end + 1) next) ≡ none → ParseOf text old (Err (record { number = k + 2 })) new
    unfolding id_lines
    line_bad f e =
        let w = c.few in parse_bad n (take (load_width * k) new) (k + 2)
        (one_more ∙ rw (le-leb (k + 2) last_line (omega arith), e) refl) c.kept

    -- a line of three ids
    pub line_good : (k ≡ line_limit → ⊥) → (three : List ℕ) → length three ≡ load_width → id_line (part text (end + 1) next) ≡ some three
        → LinesRead text old n (sets new (load_width * k) three) next (k + 1)
    unfolding id_lines
    line_good f three l e = record {
      few = let w = c.few in omega arith;
      upto = found_within 10 text (end + 1) next (omega arith) is;
      room = rw (length-sets new (load_width * k) three) c.room;
      kept = rw front (sym (sets_append old 0 (take (load_width * k) new) three ∙ rw (← c.kept, at_front) refl));
      left = rw front (one_more ∙ rw (le-leb (k + 2) last_line (let w = c.few in omega arith), e) (rw number_next refl));
    }
      where
        at_front : 0 + length (take (load_width * k) new) ≡ load_width * k
        at_front = let w = c.few in let r = c.room in let l = length-take-le (load_width * k) new (omega arith) in omega arith

        front : take (load_width * (k + 1)) (sets new (load_width * k) three) ≡ take (load_width * k) new ++ three
        front =
            let w = c.few in let r = c.room in let next_row : load_width * (k + 1)
            ≡ load_width * k + length three = omega arith in rw next_row (take_sets new (load_width * k) three (omega arith))

        number_next : suc (k + 2) ≡ k + 1 + 2
        number_next = omega arith

  -- a line too many, wherever it ends
  pub line_too_many : end + 1 < length text → k ≡ line_limit → ParseOf text old (Err (record { number = k + 2 })) new
  line_too_many h e = one_too_many h (end + 1 + length (before 10 (drop (end + 1) text))) refl e
