-- A strictly ascending list is known by its members. Assumes nothing.
use mathlib.Core.Path.{◌≡◌, refl, sym, ◌∙◌, ap, ap₂, subst}
use mathlib.Core.Logic.{◌⊎◌, inl, inr}
use mathlib.Core.List.{List, [], ◌∷◌}
use Prim.Native.Nat.{ℕ, suc, ◌+◌, ◌≤◌, suc-le-suc, Ordering}
use native.Mathlib.Omega.{arith}
use lib.ListN.{length}
use Rattle.common.specs.Triples.{In, here, there, lex, key_triple, key_finding, Before, Ascending, Distinct, place, insert, insert_all}
use Rattle.common.proofs.Lists.{in_nil, in_cons}
use Rattle.common.proofs.Lex.{eq_lt, lex_eq, lex_gt, lex_same, lex_trans}

-- a key that tells elements apart
abbrev pub Tells : {A : Type 0} → (A → List ℕ) → Type 0
Tells {A} key = (x y : A) → key x ≡ key y → x ≡ y

module _ {A : Type 0} (key : A → List ℕ) where
  pub not_before_self : (x : A) → Before key x x → ⊥
  not_before_self x h = eq_lt (sym (lex_same (key x)) ∙ h)

  pub not_both : (x y : A) → Before key x y → Before key y x → ⊥
  not_both x y h i = not_before_self x (lex_trans (key x) (key y) (key x) h i)

  -- two ascending lists with the same members are the same list
  pub same_list : (xs ys : List A) → Ascending key xs → Ascending key ys → ((z : A) → In z xs → In z ys)
      → ((z : A) → In z ys → In z xs) → xs ≡ ys
  same_list [] [] a b f g = refl
  same_list [] (y ∷ ys) a b f g = absurd (in_nil (g y (here refl)))
  same_list (x ∷ xs) [] a b f g = absurd (in_nil (f x (here refl)))
  same_list (x ∷ xs) (y ∷ ys) a b f g = ap₂ ◌∷◌ heads (same_list xs ys a.1 b.1 fore back)
    where
      heads : x ≡ y
      heads = go (in_cons (f x (here refl))) (in_cons (g y (here refl)))
        where
          go : (x ≡ y) ⊎ In x ys → (y ≡ x) ⊎ In y xs → x ≡ y
          go (inl e) i = e
          go (inr h) (inl e) = sym e
          go (inr h) (inr i) = absurd (not_both x y (a.0 y i) (b.0 x h))

      fore : (z : A) → In z xs → In z ys
      fore z i = go (in_cons (f z (there i)))
        where
          go : (z ≡ y) ⊎ In z ys → In z ys
          go (inl e) = absurd (not_before_self z (subst (λ w. Before key w z) (heads ∙ sym e) (a.0 z i)))
          go (inr h) = h

      back : (z : A) → In z ys → In z xs
      back z i = go (in_cons (g z (there i)))
        where
          go : (z ≡ x) ⊎ In z xs → In z xs
          go (inl e) = absurd (not_before_self z (subst (λ w. Before key w z) (sym heads ∙ sym e) (b.0 z i)))
          go (inr h) = h

-- an element put in by any key, also one that does not tell elements apart: of elements with one key the first is kept
module _ {A : Type 0} (key : A → List ℕ) where
  -- what stands there then was put in or stood there,
  pub in_insert→ : (x : A) (ys : List A) {z : A} → In z (insert key x ys) → (z ≡ x) ⊎ In z ys
  unfolding insert
  in_insert→ x [] h = in_cons h
  in_insert→ x (y ∷ ys) {z} h = go (lex (key x) (key y)) h (λ i. in_insert→ x ys i)
    where
      more : (z ≡ x) ⊎ In z ys → (z ≡ x) ⊎ In z (y ∷ ys)
      more (inl e) = inl e
      more (inr i) = inr (there i)

      late : (z ≡ y) ⊎ In z (insert key x ys) → (In z (insert key x ys) → (z ≡ x) ⊎ In z ys) → (z ≡ x) ⊎ In z (y ∷ ys)
      late (inl e) k = inr (here e)
      late (inr i) k = more (k i)

      go : (o : Ordering) → In z (place o x y ys (λ _. insert key x ys)) → (In z (insert key x ys) → (z ≡ x) ⊎ In z ys)
          → (z ≡ x) ⊎ In z (y ∷ ys)
      go Ordering.lt i k = in_cons i
      go Ordering.eq i k = inr i
      go Ordering.gt i k = late (in_cons i) k

  -- what stood there stays,
  pub in_insert_old : (x : A) (ys : List A) {z : A} → In z ys → In z (insert key x ys)
  unfolding insert
  in_insert_old x [] h = there h
  in_insert_old x (y ∷ ys) {z} h = go (lex (key x) (key y)) (in_cons h) (λ i. in_insert_old x ys i)
    where
      go : (o : Ordering) → (z ≡ y) ⊎ In z ys → (In z ys → In z (insert key x ys)) → In z (place o x y ys (λ _. insert key x ys))
      go Ordering.lt i k = there h
      go Ordering.eq i k = h
      go Ordering.gt (inl e) k = here e
      go Ordering.gt (inr i) k = there (k i)

  -- what is put in stands there, unless another with its key did,
  pub in_insert_told : (x : A) (ys : List A) → ((y : A) → In y ys → key x ≡ key y → x ≡ y) → In x (insert key x ys)
  unfolding insert
  in_insert_told x [] f = here refl
  in_insert_told x (y ∷ ys) f = go (lex (key x) (key y)) refl (in_insert_told x ys (λ z i. f z (there i)))
    where
      go : (o : Ordering) → lex (key x) (key y) ≡ o → In x (insert key x ys) → In x (place o x y ys (λ _. insert key x ys))
      go Ordering.lt e k = here refl
      go Ordering.eq e k = here (f y (here refl) (lex_eq (key x) (key y) e))
      go Ordering.gt e k = there k

  -- and the order is kept
  pub ascending_insert : (x : A) (ys : List A) → Ascending key ys → Ascending key (insert key x ys)
  unfolding insert
  ascending_insert x [] a = (λ z i. absurd (in_nil i), tt)
  ascending_insert x (y ∷ ys) a = go (lex (key x) (key y)) refl (ascending_insert x ys a.1)
    where
      first : lex (key x) (key y) ≡ Ordering.lt → (z : A) → (z ≡ y) ⊎ In z ys → Before key x z
      first e z (inl i) = subst (Before key x) (sym i) e
      first e z (inr i) = lex_trans (key x) (key y) (key z) e (a.0 z i)

      later : lex (key x) (key y) ≡ Ordering.gt → (z : A) → (z ≡ x) ⊎ In z ys → Before key y z
      later e z (inl i) = subst (Before key y) (sym i) (lex_gt (key x) (key y) e)
      later e z (inr i) = a.0 z i

      go : (o : Ordering) → lex (key x) (key y) ≡ o → Ascending key (insert key x ys)
          → Ascending key (place o x y ys (λ _. insert key x ys))
      go Ordering.lt e k = (λ z i. first e z (in_cons i), a)
      go Ordering.eq e k = a
      go Ordering.gt e k = (λ z i. later e z (in_insert→ x ys i), k)

  -- it stood there, or another with its key, and nothing changes; or the list is one longer
  insert_once : (x : A) (ys : List A) → (insert key x ys ≡ ys) ⊎ (length (insert key x ys) ≡ suc (length ys))
  unfolding insert
  insert_once x [] = inr refl
  insert_once x (y ∷ ys) = go (lex (key x) (key y)) (insert_once x ys)
    where
      go : (o : Ordering) → (insert key x ys ≡ ys) ⊎ (length (insert key x ys) ≡ suc (length ys))
          → (place o x y ys (λ _. insert key x ys) ≡ (y ∷ ys)) ⊎ (length (place o x y ys (λ _. insert key x ys)) ≡ suc (length (y ∷ ys)))
      go Ordering.lt k = inr refl
      go Ordering.eq k = inl refl
      go Ordering.gt (inl h) = inl (ap (λ l. y ∷ l) h)
      go Ordering.gt (inr h) = inr (ap suc h)

  -- The same of many elements.
  pub in_insert_all→ : (xs us : List A) {z : A} → In z (insert_all key xs us) → In z xs ⊎ In z us
  unfolding insert_all
  in_insert_all→ [] us h = inr h
  in_insert_all→ (x ∷ xs) us {z} h = go (in_insert_all→ xs (insert key x us) h)
    where
      last : (z ≡ x) ⊎ In z us → In z (x ∷ xs) ⊎ In z us
      last (inl e) = inl (here e)
      last (inr i) = inr i

      go : In z xs ⊎ In z (insert key x us) → In z (x ∷ xs) ⊎ In z us
      go (inl i) = inl (there i)
      go (inr i) = last (in_insert→ x us i)

  pub in_insert_all_old : (xs us : List A) {z : A} → In z us → In z (insert_all key xs us)
  unfolding insert_all
  in_insert_all_old [] us h = h
  in_insert_all_old (x ∷ xs) us h = in_insert_all_old xs (insert key x us) (in_insert_old x us h)

  pub in_insert_all_told : (xs us : List A) → ((x y : A) → In x xs → In y xs ⊎ In y us → key x ≡ key y → x ≡ y) → {z : A} → In z xs
      → In z (insert_all key xs us)
  unfolding insert_all
  in_insert_all_told [] us f h = absurd (in_nil h)
  in_insert_all_told (x ∷ xs) us f {z} h =
      go (in_cons h) (λ i. in_insert_all_told xs (insert key x us) (λ a b i j. f a b (there i) (with j)) i)
    where
      step : {b : A} → (b ≡ x) ⊎ In b us → In b (x ∷ xs) ⊎ In b us
      step (inl e) = inl (here e)
      step (inr j) = inr j

      with : {b : A} → In b xs ⊎ In b (insert key x us) → In b (x ∷ xs) ⊎ In b us
      with (inl j) = inl (there j)
      with (inr j) = step (in_insert→ x us j)

      go : (z ≡ x) ⊎ In z xs → (In z xs → In z (insert_all key xs (insert key x us))) → In z (insert_all key xs (insert key x us))
      go (inl e) k =
          in_insert_all_old xs (insert key x us)
          (subst (λ w. In w (insert key x us)) (sym e) (in_insert_told x us (λ y i. f x y (here refl) (inr i))))
      go (inr i) k = k i

  pub ascending_insert_all : (xs us : List A) → Ascending key us → Ascending key (insert_all key xs us)
  unfolding insert_all
  ascending_insert_all [] us a = a
  ascending_insert_all (x ∷ xs) us a = ascending_insert_all xs (insert key x us) (ascending_insert x us a)

  pub insert_all_grows : (xs us : List A) → length us ≤ length (insert_all key xs us)
  unfolding insert_all
  insert_all_grows [] us = omega arith
  insert_all_grows (x ∷ xs) us = go (insert_once x us) (insert_all_grows xs (insert key x us))
    where
      go : (insert key x us ≡ us) ⊎ (length (insert key x us) ≡ suc (length us))
          → length (insert key x us) ≤ length (insert_all key xs (insert key x us))
          → length us ≤ length (insert_all key xs (insert key x us))
      go (inl h) k = omega (arith, ap length h)
      go (inr h) k = omega arith

  -- a list that has not grown is the same
  pub insert_all_same : (xs us : List A) → length (insert_all key xs us) ≡ length us → insert_all key xs us ≡ us
  unfolding insert_all
  insert_all_same [] us e = refl
  insert_all_same (x ∷ xs) us e = go (insert_once x us) (insert_all_same xs (insert key x us))
    where
      go : (insert key x us ≡ us) ⊎ (length (insert key x us) ≡ suc (length us))
          → (length (insert_all key xs (insert key x us)) ≡ length (insert key x us)
          → insert_all key xs (insert key x us) ≡ insert key x us)
          → insert_all key xs (insert key x us) ≡ us
      go (inl h) k = k (e ∙ ap length (sym h)) ∙ h
      go (inr h) k = absurd (omega (arith, insert_all_grows xs (insert key x us)))

-- by a key that tells elements apart
module _ {A : Type 0} (key : A → List ℕ) (tells : Tells key) where
  -- what is put in stood there, and nothing changes; or the list is one longer
  pub insert_length : (x : A) (ys : List A) → (In x ys × (insert key x ys ≡ ys)) ⊎ (length (insert key x ys) ≡ suc (length ys))
  unfolding insert
  insert_length x [] = inr refl
  insert_length x (y ∷ ys) = go (lex (key x) (key y)) refl (insert_length x ys)
    where
      go : (o : Ordering) → lex (key x) (key y) ≡ o → (In x ys × (insert key x ys ≡ ys))
          ⊎ (length (insert key x ys) ≡ suc (length ys)) → (In x (y ∷ ys) × (place o x y ys (λ _. insert key x ys) ≡ (y ∷ ys)))
          ⊎ (length (place o x y ys (λ _. insert key x ys)) ≡ suc (length (y ∷ ys)))
      go Ordering.lt e k = inr refl
      go Ordering.eq e k = inl (here (tells x y (lex_eq (key x) (key y) e)), refl)
      go Ordering.gt e (inl h) = inl (there h.0, ap (λ l. y ∷ l) h.1)
      go Ordering.gt e (inr h) = inr (ap suc h)

  -- what is put in stands there
  pub in_insert_all_new : (xs us : List A) {z : A} → In z xs → In z (insert_all key xs us)
  in_insert_all_new xs us h = in_insert_all_told key xs us (λ x y i j e. tells x y e) h

  -- where the list has not grown, all that was put in stood there
  pub no_growth : (xs us : List A) → length (insert_all key xs us) ≡ length us → (z : A) → In z xs → In z us
  unfolding insert insert_all
  no_growth [] us e z h = absurd (in_nil h)
  no_growth (x ∷ xs) us e z h = go (insert_length x us) (in_cons h) (no_growth xs (insert key x us))
    where
      go : (In x us × (insert key x us ≡ us)) ⊎ (length (insert key x us) ≡ suc (length us)) → (z ≡ x) ⊎ In z xs
          → (length (insert_all key xs (insert key x us)) ≡ length (insert key x us) → (w : A) → In w xs
          → In w (insert key x us)) → In z us
      go (inl i) (inl f) k = subst (λ w. In w us) (sym f) i.0
      go (inl i) (inr j) k = subst (In z) i.1 (k (e ∙ ap length (sym i.1)) z j)
      go (inr i) j k = absurd (omega (arith, insert_all_grows key xs (insert key x us)))

-- distinct elements, none of them there: each makes the list longer
module _ {A : Type 0} (key : A → List ℕ) (tells : Tells key) where
  pub insert_distinct : (xs us : List A) → Distinct xs → ((x : A) → In x xs → In x us → ⊥)
      → length (insert_all key xs us) ≡ length xs + length us
  unfolding insert_all
  insert_distinct [] us n f = omega arith
  insert_distinct (x ∷ xs) us n f =
      go (insert_length key tells x us) (insert_distinct xs (insert key x us) n.1 (λ y i j. apart y i (in_insert→ key x us j)))
    where
      apart : (y : A) → In y xs → (y ≡ x) ⊎ In y us → ⊥
      apart y i (inl e) = n.0 (subst (λ w. In w xs) e i)
      apart y i (inr j) = f y (there i) j

      go : (In x us × (insert key x us ≡ us)) ⊎ (length (insert key x us) ≡ suc (length us))
          → length (insert_all key xs (insert key x us)) ≡ length xs + length (insert key x us)
          → length (insert_all key xs (insert key x us)) ≡ suc (length xs) + length us
      go (inl h) k = absurd (f x (here refl) h.0)
      go (inr h) k = omega arith

-- the keys of triples and of findings tell them apart
pub triple_tells : Tells key_triple
triple_tells x y e = λ i. record { s = e₀ i; p = e₁ i; o = e₂ i }
  where
    e₀ : x.s ≡ y.s
    e₀ = cc

    e₁ : x.p ≡ y.p
    e₁ = cc

    e₂ : x.o ≡ y.o
    e₂ = cc

pub finding_tells : Tells key_finding
finding_tells x y e = λ i. record { check = e₀ i; a = e₁ i; b = e₂ i; c = e₃ i; d = e₄ i }
  where
    e₀ : x.check ≡ y.check
    e₀ = cc

    e₁ : x.a ≡ y.a
    e₁ = cc

    e₂ : x.b ≡ y.b
    e₂ = cc

    e₃ : x.c ≡ y.c
    e₃ = cc

    e₄ : x.d ≡ y.d
    e₄ = cc

-- an ascending list whose members all stand in another is no longer than it
pub sub_length : {A : Type 0} (key : A → List ℕ) (xs ys : List A) → Ascending key xs → Ascending key ys
    → ((z : A) → In z xs → In z ys) → length xs ≤ length ys
sub_length key [] [] a b f = omega arith
sub_length key (x ∷ xs) [] a b f = absurd (in_nil (f x (here refl)))
sub_length key [] (y ∷ ys) a b f = omega arith
sub_length {A} key (x ∷ xs) (y ∷ ys) a b f =
    go (in_cons (f x (here refl))) (λ g. sub_length key xs ys a.1 b.1 g) (λ g. sub_length key (x ∷ xs) ys a b.1 g)
  where
    after : x ≡ y → (z : A) → In z xs → (z ≡ y) ⊎ In z ys → In z ys
    after e z i (inl h) = absurd (not_before_self key z (subst (λ w. Before key w z) (e ∙ sym h) (a.0 z i)))
    after e z i (inr h) = h

    beyond : In x ys → (z : A) → (z ≡ x) ⊎ In z xs → (z ≡ y) ⊎ In z ys → In z ys
    beyond h z i (inr j) = j
    beyond h z (inl e) (inl j) = subst (λ w. In w ys) (sym e) h
    beyond h z (inr i) (inl j) = absurd (not_both key x y (subst (Before key x) j (a.0 z i)) (b.0 x h))

    go : (x ≡ y) ⊎ In x ys → (((z : A) → In z xs → In z ys) → length xs ≤ length ys)
        → (((z : A) → In z (x ∷ xs) → In z ys) → suc (length xs) ≤ length ys) → suc (length xs) ≤ suc (length ys)
    go (inl e) k m = suc-le-suc (k (λ z i. after e z i (in_cons (f z (there i)))))
    go (inr h) k m = let u = m (λ z i. beyond h z (in_cons i) (in_cons (f z i))) in omega arith

-- an ascending list has no element twice
pub ascending_distinct : {A : Type 0} (key : A → List ℕ) (xs : List A) → Ascending key xs → Distinct xs
ascending_distinct key [] a = tt
ascending_distinct key (x ∷ xs) a = (λ i. not_before_self key x (a.0 x i), ascending_distinct key xs a.1)

-- distinct elements that all stand in an ascending list are no more than it has
pub distinct_length : {A : Type 0} (key : A → List ℕ) → Tells key → (xs ys : List A) → Distinct xs → Ascending key ys
    → ((z : A) → In z xs → In z ys) → length xs ≤ length ys
unfolding insert_all
distinct_length {A} key tells xs ys d b f =
    omega (
      arith,
      insert_distinct key tells xs [] d (λ x i j. in_nil j),
      sub_length key (insert_all key xs []) ys (ascending_insert_all key xs [] tt) b
          (λ z i. there_too z (in_insert_all→ key xs [] i)),
    )
  where
    there_too : (z : A) → In z xs ⊎ In z [] → In z ys
    there_too z (inl i) = f z i
    there_too z (inr i) = absurd (in_nil i)
