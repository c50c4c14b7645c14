-- Text written into a lent buffer: one piece after the other, a number. Assumes nothing.
use mathlib.Core.Path.{◌≡◌, refl, sym, ap, ◌∙◌}
use mathlib.Core.List.{List, [], ◌∷◌, ◌++◌}
use Prim.Native.Nat.{ℕ, suc, ◌+◌, ◌/◌, ◌%◌, ◌^◌, ◌≤◌, ◌<◌}
use native.Mathlib.Nat.{add-zero, zero-add}
use native.Mathlib.Omega.{arith}
use lib.ListN.{length, take, drop, set, length-append, length-set}
use lib.Seq.{sets, sets-eq, length-sets, length-take-le, take_at}
use Rattle.edge_decimal.specs.Decimal.{digits}
use Rattle.edge_decimal.specs.Promises.{Wrote}
use Rattle.edge_decimal.proofs.Digits.{digits_one, digits_more, few_digits}

-- PIECES
pub sets_append : (l : List ℕ) (i : ℕ) (xs ys : List ℕ) → sets l i (xs ++ ys) ≡ sets (sets l i xs) (i + length xs) ys
sets_append l i [] ys = ap (λ k. sets l k ys) (sym (add-zero i))
sets_append l i (x ∷ xs) ys = sets_append (set l i x) (suc i) xs ys ∙ ap (λ k. sets (sets (set l i x) (suc i) xs) k ys) (omega arith)

-- what was stored, with what stands before it
pub take_sets : (l : List ℕ) (i : ℕ) (vs : List ℕ) → i + length vs ≤ length l → take (i + length vs) (sets l i vs) ≡ take i l ++ vs
take_sets l i vs h =
    let a = length-append (take i l) vs in
    let b = length-take-le i l (omega arith) in
    ap (λ x. take (i + length vs) x) (sets-eq vs l i h) ∙ take_at (take i l ++ vs) (drop (i + length vs) l) (i + length vs) (omega arith)

-- the buffer keeps its length
pub wrote_length : {old : List ℕ} {at : ℕ} {bytes new : List ℕ} {next : ℕ} → Wrote old at bytes new next → length new ≡ length old
wrote_length {old} {at} {bytes} w = ap length w.out ∙ length-sets old at bytes

-- one byte
pub wrote_byte : (old : List ℕ) (at b : ℕ) → at < length old → Wrote old at (b ∷ []) (set old at b) (at + 1)
wrote_byte old at b h =
    let i : at + 1 ≤ length (set old at b) = simp length-set (omega arith) in record
    { out = refl; end = refl; within = i; front = sym (length-take-le (at + 1) (set old at b) i) }

-- one piece, then another where the first ends
pub wrote_then : {a : List ℕ} {at : ℕ} {xs b : List ℕ} {m : ℕ} {ys c : List ℕ} {n : ℕ} → Wrote a at xs b m → Wrote b m ys c n
    → Wrote a at (xs ++ ys) c n
wrote_then {a} {at} {xs} {b} {m} {ys} {c} {n} v w = record {
  out = w.out ∙ rw (v.out, v.end, sets_append a at xs ys) refl;
  end = w.end ∙ rw v.end (simp length-append (omega arith));
  within = w.within;
  front = w.front;
}

-- what was written from place 0 on is the front of the buffer, which a program prints
pub wrote_front : {old bytes new : List ℕ} {next : ℕ} → Wrote old 0 bytes new next → take next new ≡ bytes
wrote_front {old} {bytes} {new} {next} w =
    let l = wrote_length w in
    let i = w.within in
    let e : next ≡ length bytes = w.end ∙ zero-add (length bytes) in
    rw (w.out, e) (ap (λ k. take k (sets old 0 bytes)) (sym (zero-add (length bytes))) ∙ take_sets old 0 bytes (omega arith))

-- A NUMBER, a digit after the others
pub length_one : (n : ℕ) → n < 10 → length (digits n) ≡ 1
length_one n h = ap length (digits_one n h)

-- how long the digits are
pub length_more : (n : ℕ) → 10 ≤ n → length (digits n) ≡ length (digits (n / 10)) + 1
length_more n h = ap length (digits_more n h) ∙ simp length-append

-- a number of one digit
pub wrote_one : (n : ℕ) (out : List ℕ) (at : ℕ) → n < 10 → at + length (digits n) ≤ length out
    → Wrote out at (digits n) (set out at (48 + n)) (at + 1)
wrote_one n out at h f = let e = length_one n h in rw (digits_one n h) (wrote_byte out at (48 + n) (omega arith))

-- there is room for the last digit
pub last_fits : (n : ℕ) {out b : List ℕ} {at last : ℕ} → 10 ≤ n → at + length (digits n) ≤ length out
    → Wrote out at (digits (n / 10)) b last → last < length b
last_fits n h f w = let e = length_more n h in let l = wrote_length w in let k = w.end in omega arith

-- the last digit after the others
pub wrote_more : (n : ℕ) {out b : List ℕ} {at last : ℕ} → 10 ≤ n → at + length (digits n) ≤ length out
    → Wrote out at (digits (n / 10)) b last → Wrote out at (digits n) (set b last (48 + n % 10)) (last + 1)
wrote_more n {out} {b} {at} {last} h f w = rw (digits_more n h) (wrote_then w (wrote_byte b last (48 + n % 10) (last_fits n h f w)))

-- ten digits suffice for a number of 32 bits
pub short_digits : (n : ℕ) → n < 2 ^ 32 → length (digits n) ≤ 10
short_digits n h = few_digits 9 n (omega arith)
