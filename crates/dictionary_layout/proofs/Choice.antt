-- Choices and tests whose outcome is known. Assumes nothing.
use mathlib.Core.Path.{◌≡◌, refl, sym, ◌∙◌, subst}
use mathlib.Core.Logic.{◌⊎◌, inl, inr}
use mathlib.Core.Bool.{Bool, true, false}
use Prim.Native.Nat.{ℕ}
use native.Mathlib.Omega.{arith}
use lib.Dec.{T}
use Rattle.common.specs.Triples.{if}

module _ {A : Type 0} (b : Bool) (f g : Unit {0} → A) where
  -- the first branch is taken where the test holds
  pub if_yes : T b → if b f g ≡ f tt
  if_yes h = go b h
    where
      go : (b : Bool) → T b → if b f g ≡ f tt
      go true h = refl
      go false h = absurd h

  -- and the second where it does not
  pub if_no : (T b → ⊥) → if b f g ≡ g tt
  if_no n = go b n
    where
      go : (b : Bool) → (T b → ⊥) → if b f g ≡ g tt
      go true n = absurd (n tt)
      go false n = refl

pub true_false : {A : Type 0} → true ≡ false → A
true_false e = absurd (let z : ◌≡◌ {A = ℕ} 0 1 = cc in omega arith)

-- a test that holds is true, and one that cannot hold is false
pub is_true : (b : Bool) → T b → true ≡ b
is_true true h = refl
is_true false h = absurd h

pub is_false : (b : Bool) → (T b → ⊥) → false ≡ b
is_false true n = absurd (n tt)
is_false false n = refl

-- the answer of code that tests, as a fact
pub true→T : (b : Bool) → true ≡ b → T b
true→T b e = subst T e tt

pub false→not_T : (b : Bool) → false ≡ b → T b → ⊥
false→not_T b e t = subst T (sym e) t

-- a test holds or it does not
pub decide_bool : (b : Bool) → T b ⊎ (T b → ⊥)
decide_bool true = inl tt
decide_bool false = inr (λ h. h)

-- two tests that hold together are one
pub same_test : (r b c : Bool) → r ≡ b → (T b → T c) → (T c → T b) → r ≡ c
same_test r true c e f g = e ∙ is_true c (f tt)
same_test r false c e f g = e ∙ is_false c g
