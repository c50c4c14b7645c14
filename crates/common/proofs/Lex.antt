-- The order of numbers, and of rows of numbers. Assumes nothing.
use mathlib.Core.Path.{◌≡◌, refl, sym, ◌∙◌, ap, ap₂, subst}
use mathlib.Core.Logic.{◌⊎◌, inl, inr}
use mathlib.Core.List.{List, [], ◌∷◌}
use Prim.Native.Nat.compare
use Prim.Native.Nat.{ℕ, zero, suc, ◌<◌, zero-le, suc-le-suc, compare, Ordering}
use native.Mathlib.Nat.{le_of_suc-le-suc, not-suc-le-zero}
use native.Mathlib.Omega.{arith}
use lib.Dec.{T, compare_is_eq, is_le}
use Rattle.common.specs.Triples.{then, lex}

-- the three answers differ
pub eq_lt : Ordering.eq ≡ Ordering.lt → ⊥
eq_lt e = subst (λ o. T (compare_is_eq o)) e tt

pub eq_gt : Ordering.eq ≡ Ordering.gt → ⊥
eq_gt e = subst (λ o. T (compare_is_eq o)) e tt

pub lt_gt : Ordering.lt ≡ Ordering.gt → ⊥
lt_gt e = subst (λ o. T (is_le o)) e tt

-- numbers
compare_eq : (m n : ℕ) → compare m n ≡ Ordering.eq → m ≡ n
compare_eq zero zero e = refl
compare_eq zero (suc n) e = absurd (eq_lt (sym e ∙ compare.zero-suc n))
compare_eq (suc m) zero e = absurd (eq_gt (sym e ∙ compare.suc-zero m))
compare_eq (suc m) (suc n) e = ap suc (compare_eq m n (sym (compare.suc-suc m n) ∙ e))

-- a number and itself
pub compare_same : (m : ℕ) → compare m m ≡ Ordering.eq
compare_same zero = refl
compare_same (suc m) = compare.suc-suc m m ∙ compare_same m

lt→compare : (m n : ℕ) → m < n → compare m n ≡ Ordering.lt
lt→compare m zero h = absurd (not-suc-le-zero h)
lt→compare zero (suc n) h = compare.zero-suc n
lt→compare (suc m) (suc n) h = compare.suc-suc m n ∙ lt→compare m n (le_of_suc-le-suc h)

compare_lt : (m n : ℕ) → compare m n ≡ Ordering.lt → m < n
compare_lt zero zero e = absurd (eq_lt e)
compare_lt zero (suc n) e = suc-le-suc zero-le
compare_lt (suc m) zero e = absurd (lt_gt (sym e ∙ compare.suc-zero m))
compare_lt (suc m) (suc n) e = suc-le-suc (compare_lt m n (sym (compare.suc-suc m n) ∙ e))

compare_gt : (m n : ℕ) → compare m n ≡ Ordering.gt → n < m
compare_gt zero zero e = absurd (eq_gt e)
compare_gt zero (suc n) e = absurd (lt_gt (sym (compare.zero-suc n) ∙ e))
compare_gt (suc m) zero e = suc-le-suc zero-le
compare_gt (suc m) (suc n) e = suc-le-suc (compare_gt m n (sym (compare.suc-suc m n) ∙ e))

-- rows of numbers
then_eq : (o : Ordering) (f : Unit {0} → Ordering) → then o f ≡ Ordering.eq → (o ≡ Ordering.eq) × (f tt ≡ Ordering.eq)
then_eq Ordering.lt f e = absurd (eq_lt (sym e))
then_eq Ordering.eq f e = (refl, e)
then_eq Ordering.gt f e = absurd (eq_gt (sym e))

then_lt : (o : Ordering) (f : Unit {0} → Ordering) → then o f ≡ Ordering.lt → (o ≡ Ordering.lt) ⊎
    ((o ≡ Ordering.eq) × (f tt ≡ Ordering.lt))
then_lt Ordering.lt f e = inl refl
then_lt Ordering.eq f e = inr (refl, e)
then_lt Ordering.gt f e = absurd (lt_gt (sym e))

then_gt : (o : Ordering) (f : Unit {0} → Ordering) → then o f ≡ Ordering.gt → (o ≡ Ordering.gt) ⊎
    ((o ≡ Ordering.eq) × (f tt ≡ Ordering.gt))
then_gt Ordering.lt f e = absurd (lt_gt e)
then_gt Ordering.eq f e = inr (refl, e)
then_gt Ordering.gt f e = inl refl

-- the first numbers put the first row in front
pub lex_lt_head : (x y : ℕ) (xs ys : List ℕ) → x < y → lex (x ∷ xs) (y ∷ ys) ≡ Ordering.lt
lex_lt_head x y xs ys h = ap (λ o. then o (λ _. lex xs ys)) (lt→compare x y h)

lex_lt_tail : (x y : ℕ) (xs ys : List ℕ) → x ≡ y → lex xs ys ≡ Ordering.lt → lex (x ∷ xs) (y ∷ ys) ≡ Ordering.lt
lex_lt_tail x y xs ys h e = ap (λ o. then o (λ _. lex xs ys)) (ap (compare x) (sym h) ∙ compare_same x) ∙ e

pub lex_eq : (xs ys : List ℕ) → lex xs ys ≡ Ordering.eq → xs ≡ ys
lex_eq [] [] e = refl
lex_eq [] (y ∷ ys) e = absurd (eq_lt (sym e))
lex_eq (x ∷ xs) [] e = absurd (eq_gt (sym e))
lex_eq (x ∷ xs) (y ∷ ys) e =
    let (a, b) = then_eq (compare x y) (λ _. lex xs ys) e in
    ap₂ ◌∷◌ (compare_eq x y a) (lex_eq xs ys b)

pub lex_same : (xs : List ℕ) → lex xs xs ≡ Ordering.eq
lex_same [] = refl
lex_same (x ∷ xs) = ap (λ o. then o (λ _. lex xs xs)) (compare_same x) ∙ lex_same xs

pub lex_gt : (xs ys : List ℕ) → lex xs ys ≡ Ordering.gt → lex ys xs ≡ Ordering.lt
lex_gt [] [] e = absurd (eq_gt e)
lex_gt [] (y ∷ ys) e = absurd (lt_gt e)
lex_gt (x ∷ xs) [] e = refl
lex_gt (x ∷ xs) (y ∷ ys) e = go (then_gt (compare x y) (λ _. lex xs ys) e) (λ h. lex_gt xs ys h)
  where
    go : (compare x y ≡ Ordering.gt) ⊎ ((compare x y ≡ Ordering.eq) × (lex xs ys ≡ Ordering.gt))
        → (lex xs ys ≡ Ordering.gt → lex ys xs ≡ Ordering.lt) → lex (y ∷ ys) (x ∷ xs) ≡ Ordering.lt
    go (inl h) k = lex_lt_head y x ys xs (compare_gt x y h)
    go (inr h) k = lex_lt_tail y x ys xs (sym (compare_eq x y h.0)) (k h.1)

pub lex_trans : (xs ys zs : List ℕ) → lex xs ys ≡ Ordering.lt → lex ys zs ≡ Ordering.lt → lex xs zs ≡ Ordering.lt
lex_trans [] [] zs e f = absurd (eq_lt e)
lex_trans [] (y ∷ ys) [] e f = absurd (lt_gt (sym f))
lex_trans [] (y ∷ ys) (z ∷ zs) e f = refl
lex_trans (x ∷ xs) [] zs e f = absurd (lt_gt (sym e))
lex_trans (x ∷ xs) (y ∷ ys) [] e f = absurd (lt_gt (sym f))
lex_trans (x ∷ xs) (y ∷ ys) (z ∷ zs) e f =
    go (then_lt (compare x y) (λ _. lex xs ys) e) (then_lt (compare y z) (λ _. lex ys zs) f) (λ h i. lex_trans xs ys zs h i)
  where
    go : (compare x y ≡ Ordering.lt) ⊎ ((compare x y ≡ Ordering.eq) × (lex xs ys ≡ Ordering.lt))
        → (compare y z ≡ Ordering.lt) ⊎ ((compare y z ≡ Ordering.eq) × (lex ys zs ≡ Ordering.lt))
        → (lex xs ys ≡ Ordering.lt → lex ys zs ≡ Ordering.lt → lex xs zs ≡ Ordering.lt) → lex (x ∷ xs) (z ∷ zs) ≡ Ordering.lt
    go (inl a) (inl b) k = lex_lt_head x z xs zs (omega (arith, compare_lt x y a, compare_lt y z b))
    go (inl a) (inr b) k = lex_lt_head x z xs zs (omega (arith, compare_lt x y a, compare_eq y z b.0))
    go (inr a) (inl b) k = lex_lt_head x z xs zs (omega (arith, compare_eq x y a.0, compare_lt y z b))
    go (inr a) (inr b) k = lex_lt_tail x z xs zs (compare_eq x y a.0 ∙ compare_eq y z b.0) (k a.1 b.1)
