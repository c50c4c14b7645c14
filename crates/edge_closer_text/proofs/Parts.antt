-- Lines and fields by the places where they end, and how such a place is found. Assumes nothing.
use mathlib.Core.Path.{◌≡◌, refl, sym, ap, ◌∙◌}
use mathlib.Core.Logic.{◌⊎◌, inl, inr}
use mathlib.Core.Bool.{true, false}
use mathlib.Core.List.{List, [], ◌∷◌}
use Prim.Native.Nat.{ℕ, suc, ◌+◌, ◌-◌, ◌≤◌, ◌<◌}
use native.Mathlib.Numerals.{one-add}
use native.Mathlib.Omega.{arith}
use lib.Dec.{ltb, eqb}
use lib.ListN.{length, take, drop, length-drop}
use lib.Seq.{drop-drop}
use borrow.Author.Tests.{ltb-true, ltb-false}
use Rattle.std.specs.Prelude.{◌==◌, Option, unwrap_or}
use Rattle.std.specs.List.{position, position_or_len}
use Rattle.edge_decimal.proofs.Digits.{either}
use Rattle.edge_closer_text.specs.Input.{before, parts, lines, fields}
use Rattle.edge_closer_text.specs.Promises.{part}

-- THE FIRST e of a text: what stands before it is no longer than the text,
pub before_short : (e : ℕ) (bs : List ℕ) → length (before e bs) ≤ length bs
unfolding before
before_short e [] = omega arith
before_short e (b ∷ bs) = go (before_short e bs) (either (eqb b e))
  where
    go : length (before e bs) ≤ length bs → (eqb b e ≡ true) ⊎ (eqb b e ≡ false) → length (before e (b ∷ bs)) ≤ length (b ∷ bs)
    go ih (inl t) = rw t (omega arith)
    go ih (inr t) = rw t (omega arith)

-- and is its front
before_take : (e : ℕ) (bs : List ℕ) → take (length (before e bs)) bs ≡ before e bs
unfolding before
before_take e [] = refl
before_take e (b ∷ bs) = go (before_take e bs) (either (eqb b e))
  where
    go : take (length (before e bs)) bs ≡ before e bs → (eqb b e ≡ true) ⊎ (eqb b e ≡ false)
        → take (length (before e (b ∷ bs))) (b ∷ bs) ≡ before e (b ∷ bs)
    go ih (inl t) = rw t refl
    go ih (inr t) = rw t (ap (λ l. b ∷ l) ih)

-- as many bytes stand before it as std's words say
before_place : (e : ℕ) (bs : List ℕ) → length (before e bs) ≡ position_or_len (λ b. b == e) bs
unfolding before
before_place e [] = refl
before_place e (b ∷ bs) = go (before_place e bs) (either (eqb b e))
  where
    go : length (before e bs) ≡ position_or_len (λ b. b == e) bs → (eqb b e ≡ true) ⊎ (eqb b e ≡ false)
        → length (before e (b ∷ bs)) ≡ position_or_len (λ b. b == e) (b ∷ bs)
    go ih (inl t) = rw t refl
    go ih (inr t) = rw (t, one-add) (ap suc ih)

-- so they end at the place that `position` gives, or with the text
pub found_place : (e : ℕ) (bs : List ℕ) (r : Option ℕ) → r ≡ position (λ b. b == e) bs → unwrap_or r (length bs) ≡ length (before e bs)
found_place e bs r p = rw p (go (either (ltb n (length bs))))
  where
    n : ℕ
    n = position_or_len (λ b. b == e) bs

    go : (ltb n (length bs) ≡ true) ⊎ (ltb n (length bs) ≡ false)
        → unwrap_or (position (λ b. b == e) bs) (length bs) ≡ length (before e bs)
    go (inl t) = rw t (sym (before_place e bs))
    go (inr t) = let s = before_short e bs in let w = before_place e bs in let l = ltb-false n (length bs) t in rw t (omega arith)

-- PARTS: the first and the others, where an e ends the first,
pub parts_more : (e : ℕ) (rest : List (List ℕ)) (bs : List ℕ) → length (before e bs) < length bs
    → parts e rest bs ≡ before e bs ∷ parts e rest (drop (suc (length (before e bs))) bs)
unfolding before parts
parts_more e rest [] h = absurd (omega arith)
parts_more e rest (b ∷ bs) h = go (λ i. parts_more e rest bs i) (either (eqb b e))
  where
    go : (length (before e bs) < length bs → parts e rest bs
        ≡ before e bs ∷ parts e rest (drop (suc (length (before e bs))) bs)) → (eqb b e ≡ true) ⊎ (eqb b e ≡ false)
        → parts e rest (b ∷ bs) ≡ before e (b ∷ bs) ∷ parts e rest (drop (suc (length (before e (b ∷ bs)))) (b ∷ bs))
    go ih (inl t) = rw t refl
    go ih (inr t) = let i : length (before e bs) < length bs = omega (arith, rw t at h) in rw (t, ih i) refl

-- and the only part where none does
pub parts_last : (e : ℕ) (bs : List ℕ) → length (before e bs) ≡ length bs → parts e ([] ∷ []) bs ≡ before e bs ∷ []
unfolding before parts
parts_last e [] h = refl
parts_last e (b ∷ bs) h = go (λ i. parts_last e bs i) (either (eqb b e))
  where
    go : (length (before e bs) ≡ length bs → parts e ([] ∷ []) bs ≡ before e bs ∷ []) → (eqb b e ≡ true) ⊎ (eqb b e ≡ false)
        → parts e ([] ∷ []) (b ∷ bs) ≡ before e (b ∷ bs) ∷ []
    go ih (inl t) = absurd (omega (arith, rw t at h))
    go ih (inr t) = let i : length (before e bs) ≡ length bs = omega (arith, rw t at h) in rw (t, ih i) refl

-- what follows the first line feed
abbrev pub after_line : List ℕ → List ℕ
after_line bs = drop (suc (length (before 10 bs))) bs

-- a line and the lines after it
pub lines_next : (bs : List ℕ) → 0 < length bs → lines bs ≡ before 10 bs ∷ lines (after_line bs)
unfolding before parts
lines_next [] h = absurd (omega arith)
lines_next (b ∷ bs) h = go bs (λ i. lines_next bs i) (either (eqb b 10))
  where
    go : (cs : List ℕ) → (0 < length cs → lines cs ≡ before 10 cs ∷ lines (after_line cs))
        → (eqb b 10 ≡ true) ⊎ (eqb b 10 ≡ false) → lines (b ∷ cs) ≡ before 10 (b ∷ cs) ∷ lines (after_line (b ∷ cs))
    go cs ih (inl t) = rw t refl
    go [] ih (inr t) = rw t refl
    go (c ∷ cs) ih (inr t) = rw (t, ih (omega arith)) refl

-- A PLACE that `find_byte` answers: the part that ends there, and what follows
module _ (e : ℕ) (bs : List ℕ) (at end : ℕ) (up : at ≤ length bs) (is : end ≡ at + length (before e (drop at bs))) where
  -- it lies in the text,
  pub found_within : end ≤ length bs
  found_within = let s = before_short e (drop at bs) in let l = length-drop at bs in omega arith

  -- the part is what stands before the byte,
  pub found_part : take (end - at) (drop at bs) ≡ before e (drop at bs)
  found_part =
      let n : end - at ≡ length (before e (drop at bs)) = omega arith in ap (λ k. take k (drop at bs)) n ∙ before_take e (drop at bs)

  -- what follows the byte
  pub found_rest : drop (suc (length (before e (drop at bs)))) (drop at bs) ≡ drop (end + 1) bs
  found_rest =
      let n : at + suc (length (before e (drop at bs)))
      ≡ end + 1 = omega arith in drop-drop (suc (length (before e (drop at bs)))) at bs ∙ ap (λ k. drop k bs) n

  -- a part and the others
  pub found_more : (rest : List (List ℕ)) → end < length bs
      → parts e rest (drop at bs) ≡ take (end - at) (drop at bs) ∷ parts e rest (drop (end + 1) bs)
  found_more rest h =
      let l = length-drop at bs in
      parts_more e rest (drop at bs) (omega arith) ∙ rw (found_part, found_rest) refl

  -- the only part
  pub found_last : end ≡ length bs → parts e ([] ∷ []) (drop at bs) ≡ take (end - at) (drop at bs) ∷ []
  found_last h = let l = length-drop at bs in parts_last e (drop at bs) (omega arith) ∙ rw found_part refl

-- a line and the lines after it, by places
pub found_line : (bs : List ℕ) (at end : ℕ) → at < length bs → end ≡ at + length (before 10 (drop at bs))
    → lines (drop at bs) ≡ part bs at end ∷ lines (drop (end + 1) bs)
found_line bs at end h is =
    let up : at ≤ length bs = omega arith in
    let l = length-drop at bs in
    lines_next (drop at bs) (omega arith) ∙ rw (found_part 10 bs at end up is, found_rest 10 bs at end up is) refl

-- a line has a field, empty or not
pub fields_some : (bs : List ℕ) → (d : List ℕ) × (ds : List (List ℕ)) × (fields bs ≡ d ∷ ds)
fields_some bs = go (either (ltb (length (before 32 bs)) (length bs)))
  where
    go : (ltb (length (before 32 bs)) (length bs) ≡ true) ⊎ (ltb (length (before 32 bs)) (length bs) ≡ false)
        → (d : List ℕ) × (ds : List (List ℕ)) × (fields bs ≡ d ∷ ds)
    go (inl t) = (
      before 32 bs,
      fields (drop (suc (length (before 32 bs))) bs),
      parts_more 32 ([] ∷ []) bs
          (ltb-true (length (before 32 bs)) (length bs) t),
    )
    go (inr t) =
        let g = ltb-false (length (before 32 bs)) (length bs) t in let s = before_short 32 bs in
        (before 32 bs, [], parts_last 32 bs (omega arith))
