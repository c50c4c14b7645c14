-- The loop that finds the end of a blank node's label, and BLANK_NODE_LABEL. Assumes nothing.
use mathlib.Core.Path.{◌≡◌, refl, sym, ap, ◌∙◌}
use mathlib.Core.Bool.{Bool, true, false, ◌&&◌, ◌||◌}
use mathlib.Core.Option.{some, none}
use mathlib.Core.List.{List, [], ◌∷◌, ◌++◌, append_assoc, append-nil}
use Prim.Native.Nat.{ℕ, zero, suc, ◌+◌, ◌-◌, ◌≤◌, ◌<◌}
use native.Mathlib.Numerals.{add-one}
use native.Mathlib.Omega.{arith}
use lib.Dec.{eqb, eqb-zero-suc, eqb-suc-suc}
use lib.ListN.{length, get_or, drop, length-drop, drop_of_length-le}
use lib.Seq.{drop-cons}
use borrow.Author.Tests.{eq-eqb, ne_eqb}
use Rattle.common.specs.Triples.{if}
use Rattle.ntriples.specs.Characters.{digit, pn_chars_u, pn_chars}
use Rattle.ntriples.specs.Grammar.{Token, token, push, when, dotted, label_rest, label, blank_node_label}
use Rattle.ntriples.specs.Nodes.{empty, whole}
use Rattle.ntriples_tokens.specs.Promises.{part, LabelEnds}
use Rattle.ntriples_tokens.proofs.Parts.{part_none, part_suc, part_cons}

-- a label that ends before the dots, unless characters of it follow them: p and r without the dots, q with them
abbrev pub joined : List ℕ → List ℕ → List ℕ → List ℕ → List ℕ → Token
joined p r q [] s = token p r
joined p r q (c ∷ cs) s = token (q ++ c ∷ cs) s

-- with no dots between
joined_none : (q : List ℕ) (cs : List ℕ) → joined q cs q (label_rest cs).chars (label_rest cs).rest
    ≡ token (q ++ (label_rest cs).chars) (label_rest cs).rest
unfolding label_rest
joined_none q [] = ap (λ l. token l []) (sym (append-nil q))
joined_none q (c ∷ cs) = go (pn_chars c) (eqb c 46) (label_rest cs).chars (label_rest cs).rest
  where
    end : token q (c ∷ cs) ≡ token (q ++ []) (c ∷ cs)
    end = ap (λ l. token l (c ∷ cs)) (sym (append-nil q))

    go : (x y : Bool) (t s : List ℕ)
        → let u = if x (λ _. token (c ∷ t) s) (λ _. if y (λ _. dotted c cs t s) (λ _. token [] (c ∷ cs))) in
        joined q (c ∷ cs) q u.chars u.rest ≡ token (q ++ u.chars) u.rest
    go true y t s = refl
    go false true [] s = end
    go false true (d ∷ ds) s = refl
    go false false t s = end

-- one dot more
joined_dot : (p r q : List ℕ) (c : ℕ) (cs t s : List ℕ) → joined p r q (dotted c cs t s).chars (dotted c cs t s).rest
    ≡ joined p r (q ++ (c ∷ [])) t s
joined_dot p r q c cs [] s = refl
joined_dot p r q c cs (d ∷ ds) s = ap (λ l. token l s) (sym (append_assoc q (c ∷ []) (d ∷ ds)))

-- the label's rest goes to `end` at least, and dots stand from there up to i
pub record Labelling (chars : List ℕ) (at end i : ℕ) : Type 0 where
  pub rest_is : label_rest (drop at chars)
      ≡ joined (part chars at end) (drop end chars) (part chars at i) (label_rest (drop i chars)).chars (label_rest (drop i chars)).rest
  pub after : at ≤ end
  pub upto : end ≤ i
  pub within : i ≤ length chars

-- no character was read
pub labelling_start : (chars : List ℕ) (at : ℕ) → at ≤ length chars → Labelling chars at at at
labelling_start chars at h = record {
  rest_is = sym
      (joined_none (part chars at at) (drop at chars)
      ∙ ap (λ l. token (l ++ (label_rest (drop at chars)).chars) (label_rest (drop at chars)).rest) (part_none chars at));
  after = omega arith;
  upto = omega arith;
  within = h;
}

module _ {chars : List ℕ} {at end i : ℕ} (b : Labelling chars at end i) where
  -- a character of the label, after the dots
  pub labelling_step : i < length chars → pn_chars (get_or chars i 0) ≡ true → Labelling chars at (i + 1) (i + 1)
  unfolding label_rest
  labelling_step h e =
      let t = label_rest (drop (suc i) chars) in
      let c = get_or chars i 0 in
      let p = part chars at i in
      let q = part_suc chars at i (omega arith) h in
      let r : part chars at (suc i) ≡ p ++ (c ∷ []) = rw add-one at q in
      rw add-one (record {
        rest_is = b.rest_is
            ∙ (rw (drop-cons chars i 0 h, e) (ap (λ l. token l t.rest) (sym (append_assoc p (c ∷ []) t.chars)))
            ∙ (ap (λ l. token (l ++ t.chars) t.rest) (sym r) ∙ sym (joined_none (part chars at (suc i)) (drop (suc i) chars))));
        after = omega arith;
        upto = omega arith;
        within = h;
      })

  -- one dot more
  pub labelling_dot : i < length chars → pn_chars (get_or chars i 0) ≡ false → get_or chars i 0 ≡ 46 → Labelling chars at end (i + 1)
  unfolding label_rest
  labelling_dot h n e =
      let t = label_rest (drop (suc i) chars) in
      let c = get_or chars i 0 in
      let q = part_suc chars at i (omega arith) h in
      let r : part chars at (suc i) ≡ part chars at i ++ (c ∷ []) = rw add-one at q in
      rw add-one (record {
        rest_is = b.rest_is
            ∙ (rw (drop-cons chars i 0 h, n, eq-eqb c 46 e)
            (joined_dot (part chars at end) (drop end chars) (part chars at i) c (drop (suc i) chars) t.chars t.rest)
            ∙ ap (λ l. joined (part chars at end) (drop end chars) l t.chars t.rest) (sym r));
        after = b.after;
        upto = omega arith;
        within = h;
      })

  labelling_ends : label_rest (drop i chars) ≡ token [] (drop i chars) → LabelEnds chars at end
  labelling_ends e =
      let q = b.rest_is
      ∙ ap (λ (t : Token). joined (part chars at end) (drop end chars) (part chars at i) t.chars t.rest) e in
      record {
        chars_are = ap (λ (t : Token). t.chars) q;
        rest_is = ap (λ (t : Token). t.rest) q;
        after = b.after;
        within = omega (arith, b.upto, b.within);
      }

  -- another character,
  pub labelling_stop : i < length chars → pn_chars (get_or chars i 0) ≡ false → (get_or chars i 0 ≡ 46 → ⊥) → LabelEnds chars at end
  unfolding label_rest
  labelling_stop h n e = labelling_ends (rw (drop-cons chars i 0 h, n, ne_eqb (get_or chars i 0) 46 e) refl)

  -- or none is left
  pub labelling_end : length chars ≤ i → LabelEnds chars at end
  unfolding label_rest
  labelling_end h = labelling_ends (rw (drop_of_length-le chars h) refl)

-- BLANK_NODE_LABEL: three characters at least
pub label_short : (chars : List ℕ) (at : ℕ) → at ≤ length chars → length chars - at < 3 → blank_node_label (drop at chars) ≡ none
unfolding blank_node_label label
label_short chars at h l = go (drop at chars) (simp length-drop l)
  where
    nothing : (b : Bool) → when {A = Token} b (λ _. none) ≡ none
    nothing true = refl
    nothing false = refl

    go : (cs : List ℕ) → length cs < 3 → blank_node_label cs ≡ none
    go [] h = refl
    go (a ∷ []) h = refl
    go (a ∷ b ∷ []) h = nothing (eqb a 95 && eqb b 58)
    go (a ∷ b ∷ c ∷ cs) h = absurd (omega arith)

-- the three characters, and what follows them
three : (chars : List ℕ) (at : ℕ) → at + 2 < length chars
    → drop at chars ≡ get_or chars at 0 ∷ get_or chars (at + 1) 0 ∷ get_or chars (at + 2) 0 ∷ drop (at + 3) chars
three chars at h =
    let a = step at (at + 1) (omega arith) (omega arith) in
    let b = step (at + 1) (at + 2) (omega arith) (omega arith) in
    let c = step (at + 2) (at + 3) (omega arith) (omega arith) in
    a ∙ ap (λ l. get_or chars at 0 ∷ l) (b ∙ ap (λ l. get_or chars (at + 1) 0 ∷ l) c)
  where
    step : (i j : ℕ) → suc i ≡ j → i < length chars → drop i chars ≡ get_or chars i 0 ∷ drop j chars
    step i j e k = drop-cons chars i 0 k ∙ ap (λ n. get_or chars i 0 ∷ drop n chars) e

module _ (chars : List ℕ) (at : ℕ) (h : at + 2 < length chars) where
  -- by its first two characters
  label_cases : (x y : Bool) → eqb (get_or chars at 0) 95 ≡ x → eqb (get_or chars (at + 1) 0) 58 ≡ y
      → blank_node_label (drop at chars) ≡ when (x && y) (λ _. label (get_or chars (at + 2) 0 ∷ drop (at + 3) chars))
  unfolding blank_node_label
  label_cases x y e f = rw (three chars at h, e, f) refl

  -- it does not begin with "_",
  pub label_other : (get_or chars at 0 ≡ 95 → ⊥) → blank_node_label (drop at chars) ≡ none
  label_other n = label_cases false _ (ne_eqb (get_or chars at 0) 95 n) refl

  -- nor, then, with ":"
  pub label_colon : get_or chars at 0 ≡ 95 → (get_or chars (at + 1) 0 ≡ 58 → ⊥) → blank_node_label (drop at chars) ≡ none
  label_colon e n = label_cases true false (eq-eqb (get_or chars at 0) 95 e) (ne_eqb (get_or chars (at + 1) 0) 58 n)

  module _ (e : get_or chars at 0 ≡ 95) (f : get_or chars (at + 1) 0 ≡ 58) where
    -- what follows them
    both : blank_node_label (drop at chars) ≡ label (get_or chars (at + 2) 0 ∷ drop (at + 3) chars)
    both = label_cases true true (eq-eqb (get_or chars at 0) 95 e) (eq-eqb (get_or chars (at + 1) 0) 58 f)

    -- a character that a label may not begin with,
    pub label_first_bad : false ≡ (pn_chars_u (get_or chars (at + 2) 0) || digit (get_or chars (at + 2) 0))
        → blank_node_label (drop at chars) ≡ none
    unfolding label
    label_first_bad b = both ∙ ap (λ (x : Bool). when x (λ _. push (get_or chars (at + 2) 0) (label_rest (drop (at + 3) chars)))) (sym b)

    -- or one, and the rest
    pub label_is : {end : ℕ} → true ≡ (pn_chars_u (get_or chars (at + 2) 0) || digit (get_or chars (at + 2) 0)) → LabelEnds chars (at + 3)
        end
        → blank_node_label (drop at chars) ≡ some (token (part chars (at + 2) end) (drop end chars))
    unfolding label
    label_is {end} b r =
        let c = get_or chars (at + 2) 0 in
        let s : suc (at + 2) ≡ at + 3 = omega arith in
        let a = r.after in
        let p : part chars (at + 2) end ≡ c ∷ part chars (at + 3) end =
        part_cons chars (at + 2) end (omega arith) r.within ∙ ap (λ n. c ∷ part chars n end) s in
        both
        ∙ (ap (λ (x : Bool). when x (λ _. push c (label_rest (drop (at + 3) chars)))) (sym b)
        ∙ (λ i. some (token ((ap (λ l. c ∷ l) r.chars_are ∙ sym p) i) (r.rest_is i))))

-- ALL THE CHARACTERS ARE A LABEL: there is one,
pub whole_none : (chars : List ℕ) → length chars ≡ 0 → false ≡ whole (label chars)
unfolding label
whole_none [] e = refl
whole_none (c ∷ cs) e = absurd (omega arith)

-- none is left behind place `end`
empty_drop : (l : List ℕ) (end : ℕ) → end ≤ length l → empty (drop end l) ≡ eqb end (length l)
empty_drop [] zero h = refl
empty_drop [] (suc end) h = absurd (omega arith)
empty_drop (c ∷ l) zero h = sym (eqb-zero-suc (length l))
empty_drop (c ∷ l) (suc end) h = empty_drop l end (omega arith) ∙ sym (eqb-suc-suc end (length l))

-- the first may stand there, and its rest ends with the last,
pub whole_is : (chars : List ℕ) {end : ℕ} {r : Bool} → 0 < length chars → true ≡
    (pn_chars_u (get_or chars 0 0) || digit (get_or chars 0 0))
    → LabelEnds chars 1 end → r ≡ eqb end (length chars) → r ≡ whole (label chars)
unfolding label
whole_is [] h b e q = absurd (omega arith)
whole_is (c ∷ cs) {end} h b e q =
    q
    ∙ (sym (empty_drop (c ∷ cs) end e.within)
    ∙ (ap empty (sym e.rest_is) ∙ ap (λ (x : Bool). whole (when x (λ _. push c (label_rest cs)))) b))

-- or it may not
pub whole_bad : (chars : List ℕ) → 0 < length chars → false ≡ (pn_chars_u (get_or chars 0 0) || digit (get_or chars 0 0))
    → false ≡ whole (label chars)
unfolding label
whole_bad [] h b = absurd (omega arith)
whole_bad (c ∷ cs) h b = ap (λ (x : Bool). whole (when x (λ _. push c (label_rest cs)))) b
