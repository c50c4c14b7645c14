-- How long the count's line and an id line are; and id lines by their tests. Assumes nothing.
use mathlib.Core.Path.{◌≡◌, refl, ap}
use mathlib.Core.Logic.{◌⊎◌, inl, inr}
use mathlib.Core.Bool.{true, false}
use mathlib.Core.Option.{Option, some, none}
use mathlib.Core.List.{List, [], ◌∷◌, ◌++◌}
use Prim.Native.Nat.{ℕ, suc, ◌+◌, ◌≤◌, ◌<◌}
use native.Mathlib.Omega.{arith}
use lib.Dec.{leb, eqb}
use lib.ListN.{length}
use borrow.Author.Tests.{le-leb, lt-leb}
use Rattle.edge_decimal.proofs.Digits.{either, few_digits}
use Rattle.edge_decimal.proofs.Numerals.{numeral, digits_number}
use Rattle.edge_decimal.proofs.Writing.{short_digits}
use Rattle.edge_closer_text.specs.Sizes.{count_limit, id_limit, last_line, count_width, three_width}
use Rattle.edge_closer_text.specs.Input.{parts, fields, id, three_ids, id_line, count_line, reading, id_lines}
use Rattle.edge_closer_text.proofs.Parts.{fields_some}

-- none is not some
pub none_some : {A : Type 0} {a : A} {B : Type 0} → none ≡ some a → B
none_some e = let z : ◌≡◌ {A = ℕ} 0 1 = cc in absurd (omega arith)

-- A LINE'S LENGTH. A count has at most three digits, an id ten.
pub short_count : (l : List ℕ) (n : ℕ) → count_line l ≡ some n → length l < count_width
short_count l n e =
    let m = (numeral count_limit l n e).most_is in
    let d = ap length (digits_number count_limit l n e) in
    let f = few_digits 2 n (omega arith) in
    omega arith

-- at most ten digits
short_id : (l : List ℕ) (n : ℕ) → id l ≡ some n → length l ≤ 10
short_id l n e =
    let m = (numeral id_limit l n e).most_is in
    let d = ap length (digits_number id_limit l n e) in
    let f = short_digits n (omega arith) in
    omega arith

-- the bytes of fields, with one after each
total : List (List ℕ) → ℕ
total [] = 0
total (f ∷ fs) = length f + 1 + total fs

-- they are the line, with one byte more
fields_total : (bs : List ℕ) → total (fields bs) ≡ length bs + 1
unfolding parts total
fields_total [] = refl
fields_total (b ∷ bs) = go (fields_total bs) (fields_some bs) (either (eqb b 32))
  where
    go : total (fields bs) ≡ length bs + 1 → (d : List ℕ) × (ds : List (List ℕ)) × (fields bs ≡ d ∷ ds)
        → (eqb b 32 ≡ true) ⊎ (eqb b 32 ≡ false) → total (fields (b ∷ bs)) ≡ length (b ∷ bs) + 1
    go ih s (inl t) = rw t (omega arith)
    go ih s (inr t) = rw (t, s.2) (omega (arith, rw s.2 at ih))

-- three ids have three fields of at most ten bytes
fields_short : (fs : List (List ℕ)) (t : List ℕ) → three_ids fs ≡ some t → total fs ≤ three_width
unfolding total
fields_short [] t e = none_some e
fields_short (a ∷ []) t e = none_some e
fields_short (a ∷ b ∷ []) t e = none_some e
fields_short (a ∷ b ∷ c ∷ []) t e = go (id a) refl (id b) refl (id c) refl
  where
    go : (x : Option ℕ) → id a ≡ x → (y : Option ℕ) → id b ≡ y → (z : Option ℕ) → id c ≡ z → total (a ∷ b ∷ c ∷ []) ≤ three_width
    go none p y q z r = none_some (rw p at e)
    go (some s) p none q z r = none_some (rw (p, q) at e)
    go (some s) p (some u) q none r = none_some (rw (p, q, r) at e)
    go (some s) p (some u) q (some v) r = let i = short_id a s p in let j = short_id b u q in let k = short_id c v r in omega arith
fields_short (a ∷ b ∷ c ∷ d ∷ fs) t e = none_some e

-- so that a line of three ids with its line feed is no longer than three numbers
pub short_ids : (l t : List ℕ) → id_line l ≡ some t → length l < three_width
unfolding id_line
short_ids l t e = let s = fields_short (fields l) t e in let f = fields_total l in omega arith

-- ID LINES by their tests
pub ids_over : (c k : ℕ) (is l : List ℕ) (ls : List (List ℕ)) → last_line < k → id_lines c k is (l ∷ ls) ≡ reading c is (some k)
unfolding id_lines
ids_over c k is l ls h = rw (lt-leb k last_line h) refl

-- a line of another shape ends the reading,
pub ids_stop : (c k : ℕ) (is l : List ℕ) (ls : List (List ℕ)) → id_line l ≡ none → id_lines c k is (l ∷ ls) ≡ reading c is (some k)
unfolding id_lines
ids_stop c k is l ls e = go (either (leb k last_line))
  where
    go : (leb k last_line ≡ true) ⊎ (leb k last_line ≡ false) → id_lines c k is (l ∷ ls) ≡ reading c is (some k)
    go (inl t) = rw (t, e) refl
    go (inr t) = rw t refl

-- and a line of three ids goes on
pub ids_next : (c k : ℕ) (is l t : List ℕ) (ls : List (List ℕ)) → k ≤ last_line → id_line l ≡ some t
    → id_lines c k is (l ∷ ls) ≡ id_lines c (suc k) (is ++ t) ls
unfolding id_lines
ids_next c k is l t ls h e = rw (le-leb k last_line h, e) refl
