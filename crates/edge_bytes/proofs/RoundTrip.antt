-- What is written as bytes is read back: numbers below 2 ^ 32. Assumes nothing.
use Prim.Native.Nat.{ℕ, zero, suc, ◌+◌, ◌*◌, ◌/◌, ◌%◌, ◌<◌}
use mathlib.Core.Path.{◌≡◌, refl, ap, ap₂}
use mathlib.Core.List.{List, [], ◌∷◌, ◌++◌}
use native.Mathlib.Omega.{arith}
use lib.ListN.{length, replicate}
use borrow.Author.Tests.{eq-eqb}
use Rattle.edge_bytes.specs.Bytes.{from_bytes, to_bytes, numbers_of, bytes_of, FitBytes, read_buffer}

-- one number
from_to : (n : ℕ) → n < 4294967296 → from_bytes (n % 256) (n / 256 % 256) (n / 65536 % 256) (n / 16777216 % 256) ≡ n
from_to n h =
    let a = n / 256 in
    let b = n / 65536 in
    let c = n / 16777216 in
    let e₁ : n ≡ n % 256 + 256 * a = omega arith in
    let e₂ : a ≡ a % 256 + 256 * b = omega arith in
    let e₃ : b ≡ b % 256 + 256 * c = omega arith in
    let e₄ : c % 256 ≡ c = omega arith in
    omega arith

-- A ROUND TRIP: the numbers of a list's bytes are the list
pub numbers_bytes : (l : List ℕ) → FitBytes l → numbers_of (bytes_of l) ≡ l
unfolding numbers_of bytes_of
numbers_bytes [] f = refl
numbers_bytes (n ∷ l) f = ap₂ (λ m r. m ∷ r) (from_to n f.0) (numbers_bytes l f.1)

pub length_bytes : (l : List ℕ) → length (bytes_of l) ≡ 4 * length l
unfolding bytes_of
length_bytes [] = refl
length_bytes (n ∷ l) = omega (arith, length_bytes l)

pub read_bytes : (l : List ℕ) → FitBytes l → read_buffer (bytes_of l) ≡ l
unfolding read_buffer
read_bytes l f =
    let h : length (bytes_of l) % 4 ≡ 0 = omega (arith, length_bytes l) in
    simp (eq-eqb (length (bytes_of l) % 4) 0 h) (numbers_bytes l f)

pub bytes_append : (l m : List ℕ) → bytes_of (l ++ m) ≡ bytes_of l ++ bytes_of m
unfolding bytes_of
bytes_append [] m = refl
bytes_append (n ∷ l) m = ap (to_bytes n) (bytes_append l m)

-- lists of such numbers, one behind the other, and zeros
pub fit_append : (l m : List ℕ) → FitBytes l → FitBytes m → FitBytes (l ++ m)
fit_append [] m f g = g
fit_append (n ∷ l) m f g = (f.0, fit_append l m f.1 g)

pub fit_zeros : (n : ℕ) → FitBytes (replicate n 0)
fit_zeros zero = tt
fit_zeros (suc n) = (omega arith, fit_zeros n)
