-- Facts of membership, of tests and of going through a list. Assumes nothing.
use mathlib.Core.Path.{◌≡◌, refl, subst}
use mathlib.Core.Logic.{◌⊎◌, inl, inr, ◌≢◌}
use mathlib.Core.Bool.{Bool, true, false, ◌&&◌, not}
use mathlib.Core.List.{List, [], ◌∷◌, ◌++◌}
use Prim.Native.Nat.{ℕ}
use lib.Dec.{T, eqb, eqb→eq, eqb_refl}
use Rattle.common.specs.Triples.{In, here, there, if, concat_map}

module _ {A : Type 0} where
  pub in_nil : {x : A} → In x [] → ⊥
  in_nil h = elim h [ ]

  pub in_cons : {x y : A} {ys : List A} → In x (y ∷ ys) → (x ≡ y) ⊎ In x ys
  in_cons (here e) = inl e
  in_cons (there h) = inr h

  pub in_left : {x : A} {xs : List A} (ys : List A) → In x xs → In x (xs ++ ys)
  in_left ys (here e) = here e
  in_left ys (there h) = there (in_left ys h)

  pub in_right : {x : A} (xs : List A) {ys : List A} → In x ys → In x (xs ++ ys)
  in_right [] h = h
  in_right (z ∷ xs) h = there (in_right xs h)

  pub in_cases : {x : A} (xs : List A) {ys : List A} → In x (xs ++ ys) → In x xs ⊎ In x ys
  in_cases [] h = inr h
  in_cases {x} (z ∷ xs) {ys} h = go (in_cons h) (λ i. in_cases xs i)
    where
      more : In x xs ⊎ In x ys → In x (z ∷ xs) ⊎ In x ys
      more (inl i) = inl (there i)
      more (inr j) = inr j

      go : (x ≡ z) ⊎ In x (xs ++ ys) → (In x (xs ++ ys) → In x xs ⊎ In x ys) → In x (z ∷ xs) ⊎ In x ys
      go (inl e) k = inl (here e)
      go (inr i) k = more (k i)

module _ {A B : Type 0} where
  pub in_concat→ : {y : B} (xs : List A) (f : A → List B) → In y (concat_map xs f) → (x : A) × In x xs × In y (f x)
  in_concat→ [] f h = elim h [ ]
  in_concat→ {y} (x ∷ xs) f h = go (in_cases (f x) h) (λ i. in_concat→ xs f i)
    where
      go : In y (f x) ⊎ In y (concat_map xs f) → (In y (concat_map xs f) → (z : A) × In z xs × In y (f z))
          → (z : A) × In z (x ∷ xs) × In y (f z)
      go (inl i) k = (x, here refl, i)
      go (inr j) k = let r = k j in (r.0, there r.1, r.2)

  pub in_concat← : {y : B} {x : A} {xs : List A} (f : A → List B) → In x xs → In y (f x) → In y (concat_map xs f)
  in_concat← {y} f (here {y = z} {ys = xs} e) i = in_left (concat_map xs f) (subst (λ w. In y (f w)) e i)
  in_concat← f (there {y = z} {ys = xs} h) i = in_right (f z) (in_concat← f h i)

-- a choice with nothing in the other branch
pub in_if→ : {A : Type 0} {x : A} (b : Bool) (f : Unit {0} → List A) → In x (if b f (λ _. [])) → T b × In x (f tt)
in_if→ true f h = (tt, h)
in_if→ false f h = elim h [ ]

pub in_if← : {A : Type 0} {x : A} (b : Bool) (f : Unit {0} → List A) → T b → In x (f tt) → In x (if b f (λ _. []))
in_if← true f t h = h
in_if← false f t h = absurd t

-- a choice
pub in_choice→ : {A : Type 0} {x : A} (b : Bool) (f g : Unit {0} → List A) → In x (if b f g)
    → (T b × In x (f tt)) ⊎ (T (not b) × In x (g tt))
in_choice→ true f g h = inl (tt, h)
in_choice→ false f g h = inr (tt, h)

pub in_else : {A : Type 0} {x : A} (b : Bool) (f g : Unit {0} → List A) → T (not b) → In x (g tt) → In x (if b f g)
in_else true f g t h = absurd t
in_else false f g t h = h

pub in_then : {A : Type 0} {x : A} (b : Bool) (f g : Unit {0} → List A) → T b → In x (f tt) → In x (if b f g)
in_then true f g t h = h
in_then false f g t h = absurd t

-- tests
pub and→ : (a b : Bool) → T (a && b) → T a × T b
and→ true true t = (tt, tt)
and→ true false t = absurd t
and→ false true t = absurd t
and→ false false t = absurd t

pub and← : (a b : Bool) → T a → T b → T (a && b)
and← true true t u = tt
and← true false t u = absurd u
and← false true t u = absurd t
and← false false t u = absurd t

pub eq→eqb : (m n : ℕ) → m ≡ n → T (eqb m n)
eq→eqb m n e = subst (λ k. T (eqb m k)) e (eqb_refl m)

pub neqb→ne : (m n : ℕ) → T (not (eqb m n)) → m ≢ n
neqb→ne m n t e = go (eqb m n) t (eq→eqb m n e)
  where
    go : (b : Bool) → T (not b) → T b → ⊥
    go true t u = t
    go false t u = u

pub ne→neqb : (m n : ℕ) → m ≢ n → T (not (eqb m n))
ne→neqb m n h = go (eqb m n) (λ t. h (eqb→eq m n t))
  where
    go : (b : Bool) → (T b → ⊥) → T (not b)
    go true f = f tt
    go false f = tt
