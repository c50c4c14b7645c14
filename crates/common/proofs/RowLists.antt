-- Rows and their triples, and rows put into a list that ascends by the triples: the row that is there is kept. Assumes nothing.
use mathlib.Core.Path.{◌≡◌, refl, sym, ◌∙◌, ap, ap₂, subst}
use mathlib.Core.Logic.{◌⊎◌, inl, inr}
use mathlib.Core.Bool.{Bool, true, false}
use mathlib.Core.List.{List, [], ◌∷◌, ◌++◌}
use Prim.Native.Nat.{ℕ, suc, ◌≤◌, Ordering}
use native.Mathlib.Omega.{arith}
use lib.ListN.{length}
use Rattle.common.specs.Triples.{Triple, Row, In, here, there, if, lex, key_triple, key_row, Before, Ascending, Distinct}
use Rattle.common.specs.Triples.{place, insert, insert_all, no_zero, without_zero, without_zero_rows, erase}
use Rattle.common.proofs.Lists.{in_nil, in_cons}
use Rattle.common.proofs.Lex.{lex_eq}
use Rattle.common.proofs.Order.{in_insert→, in_insert_all→, in_insert_all_old, in_insert_all_new, ascending_insert_all}
use Rattle.common.proofs.Order.{triple_tells, ascending_distinct}

-- THE TRIPLES OF ROWS
pub erase_append : (xs ys : List Row) → erase (xs ++ ys) ≡ erase xs ++ erase ys
erase_append [] ys = refl
erase_append (x ∷ xs) ys = ap (λ l. x.it ∷ l) (erase_append xs ys)

pub length_erase : (rs : List Row) → length (erase rs) ≡ length rs
length_erase [] = refl
length_erase (r ∷ rs) = ap suc (length_erase rs)

-- a row is put in where its triple is
erase_insert : (x : Row) (rs : List Row) → erase (insert key_row x rs) ≡ insert key_triple x.it (erase rs)
unfolding insert
erase_insert x [] = refl
erase_insert x (y ∷ ys) = go (lex (key_row x) (key_row y)) (erase_insert x ys)
  where
    go : (o : Ordering) → erase (insert key_row x ys) ≡ insert key_triple x.it (erase ys)
        → erase (place o x y ys (λ _. insert key_row x ys)) ≡ place o x.it y.it (erase ys)
        (λ _. insert key_triple x.it (erase ys))
    go Ordering.lt e = refl
    go Ordering.eq e = refl
    go Ordering.gt e = ap (λ l. y.it ∷ l) e

pub erase_insert_all : (xs rs : List Row) → erase (insert_all key_row xs rs) ≡ insert_all key_triple (erase xs) (erase rs)
unfolding insert_all
erase_insert_all [] rs = refl
erase_insert_all (x ∷ xs) rs = erase_insert_all xs (insert key_row x rs) ∙ ap (insert_all key_triple (erase xs)) (erase_insert x rs)

-- rows of a list and triples of its erasure
pub in_erase : {r : Row} {rs : List Row} → In r rs → In r.it (erase rs)
in_erase (here e) = here (ap (λ (q : Row). q.it) e)
in_erase (there h) = there (in_erase h)

pub erase_in : {t : Triple} (rs : List Row) → In t (erase rs) → (r : Row) × In r rs × (r.it ≡ t)
erase_in [] h = absurd (in_nil h)
erase_in {t} (x ∷ xs) h = go (in_cons h) (λ i. erase_in xs i)
  where
    go : (t ≡ x.it) ⊎ In t (erase xs) → (In t (erase xs) → (r : Row) × In r xs × (r.it ≡ t)) → (r : Row) × In r (x ∷ xs) × (r.it ≡ t)
    go (inl e) k = (x, here refl, sym e)
    go (inr i) k = let (r, j, e) = k i in (r, there j, e)

-- rows ascend where their triples do
pub ascending_rows : (rs : List Row) → Ascending key_triple (erase rs) → Ascending key_row rs
ascending_rows [] a = tt
ascending_rows (r ∷ rs) a = (λ q i. a.0 q.it (in_erase i), ascending_rows rs a.1)

pub ascending_erase : (rs : List Row) → Ascending key_row rs → Ascending key_triple (erase rs)
ascending_erase [] a = tt
ascending_erase (r ∷ rs) a =
    (λ t i. let (q, j, e) = erase_in rs i in subst (λ u. Before key_triple r.it u) e (a.0 q j), ascending_erase rs a.1)

-- distinct triples: one row for a triple
pub distinct_row : (rs : List Row) → Distinct (erase rs) → {r q : Row} → In r rs → In q rs → r.it ≡ q.it → r ≡ q
distinct_row [] d h i e = absurd (in_nil h)
distinct_row (x ∷ xs) d {r} {q} h i e = go (in_cons h) (in_cons i) (λ j k. distinct_row xs d.1 j k e)
  where
    go : (r ≡ x) ⊎ In r xs → (q ≡ x) ⊎ In q xs → (In r xs → In q xs → r ≡ q) → r ≡ q
    go (inl f) (inl g) k = f ∙ sym g
    go (inl f) (inr j) k = absurd (d.0 (subst (λ t. In t (erase xs)) (sym e ∙ ap (λ (w : Row). w.it) f) (in_erase j)))
    go (inr j) (inl g) k = absurd (d.0 (subst (λ t. In t (erase xs)) (e ∙ ap (λ (w : Row). w.it) g) (in_erase j)))
    go (inr j) (inr l) k = k j l

-- an ascending list has one row for a triple
pub one_row : (rs : List Row) → Ascending key_row rs → {r q : Row} → In r rs → In q rs → r.it ≡ q.it → r ≡ q
one_row rs a = distinct_row rs (ascending_distinct key_triple (erase rs) (ascending_erase rs a))

-- lists with the same triples, whose rows are known by their triple, are one list
pub same_rows : (xs ys : List Row) → erase xs ≡ erase ys → ((x y : Row) → In x xs → In y ys → x.it ≡ y.it → x ≡ y) → xs ≡ ys
same_rows [] [] e f = refl
same_rows [] (y ∷ ys) e f = let z : ◌≡◌ {A = ℕ} 0 (suc (length (erase ys))) = ap length e in absurd (omega arith)
same_rows (x ∷ xs) [] e f = let z : ◌≡◌ {A = ℕ} (suc (length (erase xs))) 0 = ap length e in absurd (omega arith)
same_rows (x ∷ xs) (y ∷ ys) e f =
    let h : x.it ≡ y.it = cc in
    let t : erase xs ≡ erase ys = cc in
    ap₂ ◌∷◌ (f x y (here refl) (here refl) h) (same_rows xs ys t (λ v w i j. f v w (there i) (there j)))

-- the answer's rows have the answer's triples
pub erase_without_zero : (rows : List Row) → erase (without_zero_rows rows) ≡ without_zero (erase rows)
unfolding without_zero_rows without_zero
erase_without_zero [] = refl
erase_without_zero (r ∷ rs) =
    erase_append (if (no_zero r.it) (λ _. r ∷ []) (λ _. [])) (without_zero_rows rs)
    ∙ ap₂ ◌++◌ (one (no_zero r.it)) (erase_without_zero rs)
  where
    one : (b : Bool) → erase (if b (λ _. r ∷ []) (λ _. [])) ≡ (if b (λ _. r.it ∷ []) (λ _. []))
    one true = refl
    one false = refl

-- PUTTING ROWS IN, first come first kept
-- the triple is there then: by the row put in, or by one that was there
insert_some : (x : Row) (ys : List Row) → (z : Row) × In z (insert key_row x ys) × (z.it ≡ x.it) × (In z ys ⊎ (z ≡ x))
unfolding insert
insert_some x [] = (x, here refl, refl, inr refl)
insert_some x (y ∷ ys) = go (lex (key_row x) (key_row y)) refl (insert_some x ys)
  where
    more : {z : Row} → In z ys ⊎ (z ≡ x) → In z (y ∷ ys) ⊎ (z ≡ x)
    more (inl i) = inl (there i)
    more (inr e) = inr e

    go : (o : Ordering) → lex (key_row x) (key_row y) ≡ o → (z : Row) × In z (insert key_row x ys) × (z.it ≡ x.it) × (In z ys ⊎ (z ≡ x))
        → (z : Row) × In z (place o x y ys (λ _. insert key_row x ys)) × (z.it ≡ x.it) × (In z (y ∷ ys) ⊎ (z ≡ x))
    go Ordering.lt e k = (x, here refl, refl, inr refl)
    go Ordering.eq e k = (y, here refl, sym (triple_tells x.it y.it (lex_eq (key_row x) (key_row y) e)), inl (here refl))
    go Ordering.gt e k = let (z, i, f, j) = k in (z, there i, f, more j)

-- rows by their rule, no descent
abbrev pub Rising : List Row → Type 0
Rising [] = Unit {0}
Rising (x ∷ xs) = ((y : Row) → In y xs → x.rule ≤ y.rule) × Rising xs

-- of rising rows with one triple one that has no higher rule than any other is kept, unless the triple was there
pub put_rows_lowest : (xs us : List Row) → Rising xs → {w : Row} → In w xs
    → (z : Row) × In z (insert_all key_row xs us) × (z.it ≡ w.it) × (In z us ⊎ (z.rule ≤ w.rule))
unfolding insert_all
put_rows_lowest [] us a h = absurd (in_nil h)
put_rows_lowest (x ∷ xs) us a {w} h = go (in_cons h) (λ i. put_rows_lowest xs (insert key_row x us) a.1 i)
  where
    kept : {z : Row} → w ≡ x → In z us ⊎ (z ≡ x) → In z us ⊎ (z.rule ≤ w.rule)
    kept e (inl i) = inl i
    kept {z} e (inr f) = let g : z.rule ≡ w.rule = ap (λ (q : Row). q.rule) (f ∙ sym e) in inr (omega arith)

    older : {z : Row} → In w xs → (z ≡ x) ⊎ In z us → In z us ⊎ (z.rule ≤ w.rule)
    older {z} i (inl e) = let g : z.rule ≡ x.rule = ap (λ (q : Row). q.rule) e in inr (omega (arith, a.0 w i))
    older i (inr j) = inl j

    old_or_low : {z : Row} → In w xs → In z (insert key_row x us) ⊎ (z.rule ≤ w.rule) → In z us ⊎ (z.rule ≤ w.rule)
    old_or_low i (inl j) = older i (in_insert→ key_row x us j)
    old_or_low i (inr l) = inr l

    go : (w ≡ x) ⊎ In w xs → (In w xs → (z : Row) × In z (insert_all key_row xs (insert key_row x us)) × (z.it ≡ w.it) ×
        (In z (insert key_row x us) ⊎ (z.rule ≤ w.rule)))
        → (z : Row) × In z (insert_all key_row xs (insert key_row x us)) × (z.it ≡ w.it) × (In z us ⊎ (z.rule ≤ w.rule))
    go (inl e) k =
        let (z, i, f, j) = insert_some x us in
        (z, in_insert_all_old key_row xs (insert key_row x us) i, f ∙ sym (ap (λ (q : Row). q.it) e), kept e j)
    go (inr i) k = let (z, j, f, l) = k i in (z, j, f, old_or_low i l)

-- rows put into an empty list: sorted
module _ (rs : List Row) where
  pub sorted_erase : erase (insert_all key_row rs []) ≡ insert_all key_triple (erase rs) []
  sorted_erase = erase_insert_all rs []

  pub sorted_ascending : Ascending key_row (insert_all key_row rs [])
  sorted_ascending =
      ascending_rows (insert_all key_row rs []) (subst (Ascending key_triple) (sym sorted_erase)
      (ascending_insert_all key_triple (erase rs) [] tt))

  pub sorted_in→ : (r : Row) → In r (insert_all key_row rs []) → In r rs
  sorted_in→ r h = go (in_insert_all→ key_row rs [] h)
    where
      go : In r rs ⊎ In r [] → In r rs
      go (inl i) = i
      go (inr i) = absurd (in_nil i)

  -- of distinct triples each row is there
  pub sorted_in← : Distinct (erase rs) → (r : Row) → In r rs → In r (insert_all key_row rs [])
  sorted_in← d r h =
      let (q, i, e) = erase_in (insert_all key_row rs [])
      (subst (In r.it) (sym sorted_erase) (in_insert_all_new key_triple triple_tells (erase rs) [] (in_erase h))) in
      subst (λ w. In w (insert_all key_row rs [])) (distinct_row rs d (sorted_in→ q i) h e) i
