-- Laws of the latest number of a key: none yet, one number more, other keys. Assumes nothing.
use mathlib.Core.Path.{◌≡◌, sym, subst, ◌∙◌}
use Prim.Native.Nat.{ℕ, ◌+◌, ◌-◌, ◌≤◌, ◌<◌}
use native.Mathlib.Omega.{arith}
use native.Mathlib.Decide.{ℕ_discrete}
use Rattle.common.specs.Last.{Last}

module _ (key : ℕ → ℕ) where
  -- a head or link read by the code is that of the list
  pub last_is : {x m v w : ℕ} → w ≡ v → Last key x m v → Last key x m w
  last_is {x} {m} {v} {w} e h = subst (λ (k : ℕ). Last key x m k) (sym e) h

  -- no number at all
  pub last_none : (x : ℕ) → Last key x 0 0
  last_none x = record { below = omega arith; here = λ p. absurd (omega arith); none = λ j _ p _. omega arith }

  -- one number more, of another key
  pub last_more : (x m v : ℕ) → (key m ≡ x → ⊥) → Last key x m v → Last key x (m + 1) v
  last_more x m v f h = record { below = omega (arith, h.below); here = h.here; none = λ j a b e. go j a b e (ℕ_discrete j m) }
    where
      go : (j : ℕ) → v ≤ j → j < m + 1 → key j ≡ x → Dec (j ≡ m) → ⊥
      go j a b e (yes q) = f (subst (λ (k : ℕ). key k ≡ x) q e)
      go j a b e (no q) = h.none j a (omega arith) e

  -- one number more, of this key
  pub last_new : (x m : ℕ) → key m ≡ x → Last key x (m + 1) (m + 1)
  last_new x m e = record {
    below = omega arith;
    here = λ _. subst (λ (k : ℕ). key k ≡ x) (omega arith) e;
    none = λ j a b _. omega arith;
  }

-- it depends on the keys below the bound alone
pub last_rekey : {key key' : ℕ → ℕ} {x m v : ℕ} → ((j : ℕ) → j < m → key' j ≡ key j) → Last key x m v → Last key' x m v
last_rekey {x = x} {m = m} {v = v} f h = record {
  below = h.below;
  here = λ p. f (v - 1) (omega (arith, h.below)) ∙ h.here p;
  none = λ j a b e. h.none j a b (sym (f j b) ∙ e);
}
