-- Rows of numbers: what comparing and copying them place by place comes to. Assumes nothing.
use Rattle.std.proofs.Common.{◌≡◌, refl, ◌∙◌, ap, List, ℕ, zero, suc, ◌+◌, ◌-◌, ◌≤◌, ◌<◌, arith}
use native.Mathlib.Numerals.{add-one}
use lib.ListN.{length, get_or, take, drop, set, replicate, length-drop, length-set}
use lib.Seq.{paste, paste-zero, paste-suc, take_all}

-- so many zeros
abbrev pub zero_row : ℕ → List ℕ
zero_row n = replicate n 0

-- a row of zeros has zero at every place
pub zeros_at : (m i : ℕ) → get_or (zero_row m) i 0 ≡ 0
zeros_at zero i = refl
zeros_at (suc m) zero = refl
zeros_at (suc m) (suc i) = zeros_at m i

-- the part of a row from a place to its end
pub rest_part : (n : ℕ) (a : List ℕ) → take (length a - n) (drop n a) ≡ drop n a
rest_part n a = take_all (length a - n) (drop n a) (omega (arith, length-drop n a))

-- COPIED: the first i of s, from the place at
pub record Copied (d₀ : List ℕ) (at : ℕ) (s d : List ℕ) (i : ℕ) : Type 0 where
  pub within : i ≤ length s
  pub long : length d ≡ length d₀
  pub pasted : d ≡ paste d₀ at s i

module _ (d₀ : List ℕ) (at : ℕ) (s : List ℕ) where
  pub copy_start : Copied d₀ at s d₀ 0
  copy_start = record { within = omega arith; long = refl; pasted = paste-zero d₀ at s }

  pub copy_more : {d : List ℕ} (i : ℕ) → at + length s ≤ length d₀ → i < length s → Copied d₀ at s d i
      → Copied d₀ at s (set d (at + i) (get_or s i 0)) (i + 1)
  copy_more i h k c =
      record {
        within = omega arith;
        long = simp length-set c.long;
        pasted = rw (c.pasted, add-one i)
            (paste-suc d₀ at s i 0 (omega arith) k);
      }

  pub copy_end : {d : List ℕ} (i : ℕ) → length s ≤ i → Copied d₀ at s d i → d ≡ paste d₀ at s (length s)
  copy_end i h c = let e : i ≡ length s = omega (arith, c.within) in c.pasted ∙ ap (paste d₀ at s) e
