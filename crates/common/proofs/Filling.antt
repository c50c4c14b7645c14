-- A row that is written place by place, and one that is cleared. Assumes nothing.
use mathlib.Core.Path.{◌≡◌, ap, ◌∙◌}
use mathlib.Core.List.{List}
use Prim.Native.Nat.{ℕ, ◌-◌, ◌<◌}
use native.Mathlib.Omega.{arith}
use lib.ListN.{length, get_or, replicate}
use Rattle.common.specs.Rows.{cleared, zeros}

-- each of the first i places holds what f says of it
pub record Filled (f : ℕ → ℕ) (a₀ a : List ℕ) (i : ℕ) : Type 0 where
  pub long : length a ≡ length a₀
  pub each : (k : ℕ) → k < i → k < length a₀ → get_or a k 0 ≡ f k

-- a buffer cleared from its first place on is all zero
pub clear_all : (l : List ℕ) {m : List ℕ} → m ≡ cleared 0 l → m ≡ zeros l
unfolding cleared
clear_all l e = let k : length l - 0 ≡ length l = omega arith in e ∙ ap (λ (n : ℕ). replicate n 0) k
