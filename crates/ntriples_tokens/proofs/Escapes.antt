-- UCHAR: its digits, and the number that they write. Assumes nothing.
use mathlib.Core.Path.{◌≡◌, refl, sym, ◌∙◌}
use mathlib.Core.Option.{Option, some, none}
use mathlib.Core.List.{List, [], ◌∷◌}
use Prim.Native.Nat.{ℕ, zero, suc, ◌+◌, ◌-◌, ◌*◌, ◌^◌, ◌≤◌, ◌<◌}
use native.Mathlib.Numerals.{add-one}
use native.Mathlib.Omega.{arith}
use lib.ListN.{length, get_or, take, drop}
use lib.Seq.{drop-cons}
use borrow.Author.Tests.{le-leb}
use Rattle.std.proofs.Math.Nat.{pow-succ', pow-le-pow_right}
use Rattle.ntriples.specs.Utf8.{within, fit, on}
use Rattle.ntriples.specs.Characters.{digit, hex}
use Rattle.ntriples.specs.Grammar.{hexes, uchar}
use Rattle.ntriples.proofs.Tests.{if_ind, in→, no_some}

-- too few
hexes_few : (n v : ℕ) (cs : List ℕ) → length cs < n → none ≡ hexes n v cs
unfolding hexes
hexes_few zero v cs h = absurd (omega arith)
hexes_few (suc n) v [] h = refl
hexes_few (suc n) v (c ∷ cs) h = go (hex c) (λ w. hexes_few n w cs (omega arith))
  where
    go : (o : Option ℕ) → ((w : ℕ) → none ≡ hexes n w cs) → none ≡ on o (λ d. hexes n (16 * v + d) cs)
    go none f = refl
    go (some d) f = f (16 * v + d)

-- a digit is below sixteen
hex_below : (c d : ℕ) → hex c ≡ some d → d < 16
unfolding hex
hex_below c d =
    if_ind P (digit c) _ _ (λ t. below (c - 48) (let b = in→ 48 57 c t in omega arith)) λ _.
    if_ind P (within 65 70 c) _ _ (λ t. below (c - 55) (let b = in→ 65 70 c t in omega arith)) λ _.
    if_ind P (within 97 102 c) _ _ (λ t. below (c - 87) (let b = in→ 97 102 c t in omega arith)) λ _ e. no_some e
  where
    P : Option ℕ → Type 0
    P o = o ≡ some d → d < 16

    below : (x : ℕ) → x < 16 → some x ≡ some d → d < 16
    below x h e = let q : x ≡ d = cc in omega arith

-- THE LOOP over digits: the first i of them write v
pub record Reading (cs : List ℕ) (i v : ℕ) : Type 0 where
  pub is : hexes (length cs) 0 cs ≡ hexes (length cs - i) v (drop i cs)
  pub small : v < 16 ^ i

module _ {cs : List ℕ} {i v : ℕ} (r : Reading cs i v) (h : i < length cs) where
  -- the digit at i, and what is left after it
  next : hexes (length cs) 0 cs ≡ on (hex (get_or cs i 0)) (λ d. hexes (length cs - (i + 1)) (16 * v + d) (drop (i + 1) cs))
  unfolding hexes
  next =
      let e : length cs - i ≡ suc (length cs - (i + 1)) = omega arith in
      r.is ∙ rw (e, drop-cons cs i 0 h, add-one i) refl

  -- it is none
  pub reading_bad : none ≡ hex (get_or cs i 0) → none ≡ hexes (length cs) 0 cs
  reading_bad e = sym (next ∙ rw (sym e) refl)

  -- fewer than eight digits write a number of 28 bits
  pub reading_small : length cs ≤ 8 → v < 268435456
  reading_small l =
      let m : 16 ^ i ≤ 16 ^ 7 = pow-le-pow_right {n = 16} (omega arith) {i = i} {j = 7} (omega arith) in
      let s = r.small in
      omega arith

  module _ {d : ℕ} (e : some d ≡ hex (get_or cs i 0)) where
    -- so there is room for one more
    pub reading_fits : length cs ≤ 8 → 16 * v + d < 4294967296
    reading_fits l = omega (arith, reading_small l, hex_below (get_or cs i 0) d (sym e))

    -- which is read
    pub reading_next : Reading cs (i + 1) (16 * v + d)
    reading_next =
        let s = r.small in
        let p : 16 ^ (i + 1) ≡ 16 * 16 ^ i = rw add-one (pow-succ' 16 i) in
        record { is = next ∙ rw (sym e) refl; small = omega (arith, hex_below (get_or cs i 0) d (sym e)) }

-- all were read
pub reading_end : {cs : List ℕ} {i v : ℕ} → Reading cs i v → length cs ≤ i → some v ≡ hexes (length cs) 0 cs
unfolding hexes
reading_end {cs} {i} {v} r h = let e : length cs - i ≡ 0 = omega arith in sym (r.is ∙ rw e refl)

-- UCHAR: n digits are the first n characters
hexes_take : (n v : ℕ) (cs : List ℕ) → hexes n v (take n cs) ≡ hexes n v cs
unfolding hexes
hexes_take zero v cs = refl
hexes_take (suc n) v [] = refl
hexes_take (suc n) v (c ∷ cs) = go (hex c) (λ w. hexes_take n w cs)
  where
    go : (o : Option ℕ) → ((w : ℕ) → hexes n w (take n cs) ≡ hexes n w cs)
        → on o (λ d. hexes n (16 * v + d) (take n cs)) ≡ on o (λ d. hexes n (16 * v + d) cs)
    go none f = refl
    go (some d) f = f (16 * v + d)

-- fewer are left
pub uchar_few : (n : ℕ) (cs : List ℕ) → length cs < n → none ≡ uchar n cs
unfolding uchar
uchar_few n cs h = rw (sym (hexes_few n 0 cs h)) refl

module _ (n : ℕ) (cs : List ℕ) {o : Option ℕ} {ds : List ℕ} (t : ds ≡ take n cs) (l : length ds ≡ n) (e : o ≡ hexes (length ds) 0 ds) where
  -- what they write
  digits : o ≡ hexes n 0 cs
  digits = e ∙ (rw (l, t) (hexes_take n 0 cs))

  -- one is no digit,
  pub uchar_none : o ≡ none → none ≡ uchar n cs
  unfolding uchar
  uchar_none z = rw (sym digits, z) refl

  -- or all are
  pub uchar_some : {v : ℕ} → o ≡ some v → fit 0 v (n + 1) ≡ uchar n cs
  unfolding uchar
  uchar_some {v} z = rw (sym digits, z, add-one n, le-leb 0 v (omega arith)) refl
