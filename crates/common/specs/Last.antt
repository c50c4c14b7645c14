-- What the head of a chain, or a link of it, holds: the latest number of a key. Assumes nothing.
use Rattle.std.specs.Prelude.{◌≡◌, ℕ, ◌-◌, ◌≤◌, ◌<◌}

-- v is one more than the greatest j below m whose key is x, and 0 where there is none
pub record Last (key : ℕ → ℕ) (x m v : ℕ) : Type 0 where
  pub below : v ≤ m
  pub here : 0 < v → key (v - 1) ≡ x
  pub none : (j : ℕ) → v ≤ j → j < m → key j ≡ x → ⊥
