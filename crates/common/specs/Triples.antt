-- Triples and findings, their order, and lists of them that ascend without repeats.
-- REFERENCE 1.1, 1.2 and 7.2. Assumes nothing.
use Rattle.std.specs.Prelude.{◌≡◌, Bool, true, false, ◌&&◌, not, List, [], ◌∷◌, ◌++◌, eqb}
use Prim.Native.Nat.{ℕ, compare, Ordering}

-- s p o: a triple of ids, subject, predicate, object
pub record Triple : Type 0 where
  pub s : ℕ
  pub p : ℕ
  pub o : ℕ

abbrev pub triple : ℕ → ℕ → ℕ → Triple
triple x y z = record { s = x; p = y; o = z }

-- a row of a store: a triple, the pass in which it came in, and the rule that brought it in. REFERENCE 1.3 and 6.5
pub record Row : Type 0 where
  pub it : Triple
  pub pass : ℕ
  pub rule : ℕ

abbrev pub row : Triple → ℕ → ℕ → Row
row t n k = record { it = t; pass = n; rule = k }

-- a finding: the check's number, then the four numbers of REFERENCE 7.1
pub record Finding : Type 0 where
  pub check : ℕ
  pub a : ℕ
  pub b : ℕ
  pub c : ℕ
  pub d : ℕ

abbrev pub finding : ℕ → ℕ → ℕ → ℕ → ℕ → Finding
finding n x y z w = record { check = n; a = x; b = y; c = z; d = w }

-- x stands in the list
pub data In {A : Type 0} (x : A) : List A → Type 0 where
  here : {y : A} {ys : List A} → x ≡ y → In x (y ∷ ys)
  there : {y : A} {ys : List A} → In x ys → In x (y ∷ ys)

-- if-then-else. The branches are functions, because antt computes an argument before the call, but not under a λ.
abbrev pub if : {A : Type 0} → Bool → (Unit {0} → A) → (Unit {0} → A) → A
if true f g = f tt
if false f g = g tt

-- what f gives at each element, one after the other
abbrev pub concat_map : {A B : Type 0} → List A → (A → List B) → List B
concat_map [] f = []
concat_map (x ∷ xs) f = f x ++ concat_map xs f

-- every element passes the test
abbrev pub all : {A : Type 0} → (A → Bool) → List A → Bool
all f [] = true
all f (x ∷ xs) = if (f x) (λ _. all f xs) (λ _. false)

-- ordered by s, then p, then o: of two rows of numbers the first place where they differ decides. REFERENCE 1.2
abbrev pub then : Ordering → (Unit {0} → Ordering) → Ordering
then Ordering.lt f = Ordering.lt
then Ordering.eq f = f tt
then Ordering.gt f = Ordering.gt

abbrev pub lex : List ℕ → List ℕ → Ordering
lex [] [] = Ordering.eq
lex [] (y ∷ ys) = Ordering.lt
lex (x ∷ xs) [] = Ordering.gt
lex (x ∷ xs) (y ∷ ys) = then (compare x y) λ _. lex xs ys

-- the rows by which triples and findings are ordered
abbrev pub key_triple : Triple → List ℕ
key_triple t = t.s ∷ t.p ∷ t.o ∷ []

-- rows are ordered by their triples alone
abbrev pub key_row : Row → List ℕ
key_row r = key_triple r.it

abbrev pub key_finding : Finding → List ℕ
key_finding x = x.check ∷ x.a ∷ x.b ∷ x.c ∷ x.d ∷ []

abbrev pub Before : {A : Type 0} → (A → List ℕ) → A → A → Type 0
Before key x y = lex (key x) (key y) ≡ Ordering.lt

-- strictly ascending: each element stands before all that follow it. REFERENCE 1.2
abbrev pub Ascending : {A : Type 0} → (A → List ℕ) → List A → Type 0
Ascending key [] = Unit {0}
Ascending {A} key (x ∷ xs) = ((y : A) → In y xs → Before key x y) × Ascending key xs

-- no element stands there twice
abbrev pub Distinct : {A : Type 0} → List A → Type 0
Distinct [] = Unit {0}
Distinct (x ∷ xs) = (In x xs → ⊥) × Distinct xs

-- an element put into an ascending list at its place, once
abbrev pub place : {A : Type 0} → Ordering → A → A → List A → (Unit {0} → List A) → List A
place Ordering.lt x y ys f = x ∷ y ∷ ys
place Ordering.eq x y ys f = y ∷ ys
place Ordering.gt x y ys f = y ∷ f tt

unfoldable pub insert : {A : Type 0} → (A → List ℕ) → A → List A → List A
insert key x [] = x ∷ []
insert key x (y ∷ ys) = place (lex (key x) (key y)) x y ys (λ _. insert key x ys)

unfoldable pub insert_all : {A : Type 0} → (A → List ℕ) → List A → List A → List A
insert_all key [] us = us
insert_all key (x ∷ xs) us = insert_all key xs (insert key x us)

-- THE ANSWER: the closure's triples without an id 0. REFERENCE 6.4
abbrev pub no_zero : Triple → Bool
no_zero t = not (eqb t.s 0) && not (eqb t.p 0) && not (eqb t.o 0)

unfoldable pub without_zero : List Triple → List Triple
without_zero ts = concat_map ts (λ t. if (no_zero t) (λ _. t ∷ []) (λ _. []))

-- the same for rows
unfoldable pub without_zero_rows : List Row → List Row
without_zero_rows rs = concat_map rs (λ r. if (no_zero r.it) (λ _. r ∷ []) (λ _. []))

-- the triples of rows
abbrev pub erase : List Row → List Triple
erase [] = []
erase (r ∷ rs) = r.it ∷ erase rs
