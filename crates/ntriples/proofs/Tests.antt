-- Tests and choices, taken apart. Assumes nothing.
use mathlib.Core.Path.{◌≡◌, refl}
use mathlib.Core.Logic.{◌⊎◌, inl, inr}
use mathlib.Core.Bool.{Bool, true, false, ◌||◌}
use mathlib.Core.Option.{Option, some, none}
use Prim.Native.Nat.{ℕ, ◌≤◌}
use native.Mathlib.Omega.{arith}
use lib.Dec.{T, leb, ltb, leb→le, le→leb, nltb→le, not_T}
use Rattle.common.specs.Triples.{if}
use Rattle.common.proofs.Lists.{and→, and←}
use Rattle.ntriples.specs.Utf8.{within, on}
use Rattle.ntriples.specs.Grammar.{when}

-- what holds of both branches, each under its test's outcome, holds of the choice
pub if_ind : {A : Type 0} (P : A → Type 0) (b : Bool) (f g : Unit {0} → A) → (T b → P (f tt)) → ((T b → ⊥) → P (g tt)) → P (if b f g)
if_ind P true f g h k = h tt
if_ind P false f g h k = k (λ t. t)

-- between two numbers, as a fact and as a test
pub in→ : (a b x : ℕ) → T (within a b x) → (a ≤ x) × (x ≤ b)
in→ a b x h = let (l, u) = and→ (leb a x) (leb x b) h in (leb→le a x l, leb→le x b u)

pub in← : (a b x : ℕ) → a ≤ x → x ≤ b → T (within a b x)
in← a b x l u = and← (leb a x) (leb x b) (le→leb a x l) (le→leb x b u)

-- one of two tests, taken apart and put together
pub or→ : (a b : Bool) → T (a || b) → T a ⊎ T b
or→ true b t = inl tt
or→ false b t = inr t

pub or_left : (a b : Bool) → T a → T (a || b)
or_left true b t = tt
or_left false b t = absurd t

pub or_right : (a b : Bool) → T b → T (a || b)
or_right true b t = tt
or_right false b t = t

-- not below
pub not_lt : (m n : ℕ) → (T (ltb m n) → ⊥) → n ≤ m
not_lt m n h = nltb→le m n (not_T (ltb m n) h)

-- what is missing is nothing, and what is there is one thing
pub no_some : {A B : Type 0} {a : A} → ◌≡◌ {A = Option A} none (some a) → B
no_some e = absurd (let z : ◌≡◌ {A = ℕ} 0 1 = cc in omega arith)

pub same_some : {A : Type 0} {a b : A} → some a ≡ some b → a ≡ b
same_some e = cc

-- what a step that succeeded was made of
pub record Went {A B : Type 0} (o : Option A) (f : A → Option B) (b : B) : Type 0 where
  pub got : A
  pub is : o ≡ some got
  pub then : f got ≡ some b

pub on→ : {A B : Type 0} (o : Option A) (f : A → Option B) (b : B) → on o f ≡ some b → Went o f b
on→ (some a) f b e = record { got = a; is = refl; then = e }
on→ none f b e = no_some e

-- a step under a test succeeds only where the test holds,
pub when→ : {A : Type 0} {a : A} (b : Bool) (f : Unit {0} → Option A) → when b f ≡ some a → T b × (f tt ≡ some a)
when→ true f e = (tt, e)
when→ false f e = no_some e

-- and is the step there
pub when← : {A : Type 0} (b : Bool) (f : Unit {0} → Option A) → T b → when b f ≡ f tt
when← true f t = refl
when← false f t = absurd t
