-- The five counts: of a record more, and of records in another order. Assumes nothing.
use mathlib.Core.Path.{◌≡◌, refl, subst, ◌∙◌}
use mathlib.Core.Logic.{◌⊎◌, inl, inr}
use mathlib.Core.Bool.{Bool, true, false}
use mathlib.Core.List.{List, [], ◌∷◌, ◌++◌}
use Prim.Native.Nat.{ℕ, zero, suc, ◌+◌, ◌≤◌, Ordering}
use native.Mathlib.Omega.{arith}
use lib.Dec.{eqb}
use lib.ListN.{length, get_or}
use Rattle.common.specs.Triples.{Finding, In, here, there, if, lex, key_finding, Distinct, place, insert, insert_all}
use Rattle.meaning.specs.Closure.{count_of, five_counts}
use Rattle.common.proofs.Lex.{lex_eq}
use Rattle.common.proofs.Order.{finding_tells, in_insert→}
use Rattle.engine_checks.specs.Findings.{raised}

-- whether a record is counted
one : ℕ → Finding → ℕ
one k x = if (eqb x.check k) (λ _. 1) (λ _. 0)

count_cons : (k : ℕ) (x : Finding) (xs : List Finding) → count_of k (x ∷ xs) ≡ one k x + count_of k xs
unfolding count_of one
count_cons k x xs = go (eqb x.check k)
  where
    go : (b : Bool) → if b (λ _. suc (count_of k xs)) (λ _. count_of k xs) ≡ if b (λ _. 1) (λ _. 0) + count_of k xs
    go true = omega arith
    go false = omega arith

count_snoc : (k : ℕ) (xs : List Finding) (x : Finding) → count_of k (xs ++ (x ∷ [])) ≡ count_of k xs + one k x
unfolding count_of
count_snoc k [] x = count_cons k x [] ∙ omega arith
count_snoc k (y ∷ xs) x = let e = count_snoc k xs x in count_cons k y (xs ++ (x ∷ [])) ∙ (let f = count_cons k y xs in omega arith)

-- no count is more than the number of records
one_le : (k : ℕ) (x : Finding) → one k x ≤ 1
unfolding one
one_le k x = go (eqb x.check k)
  where
    go : (b : Bool) → if b (λ _. 1) (λ _. 0) ≤ 1
    go true = omega arith
    go false = omega arith

count_le : (k : ℕ) (xs : List Finding) → count_of k xs ≤ length xs
unfolding count_of
count_le k [] = omega arith
count_le k (x ∷ xs) = omega (arith, count_cons k x xs, one_le k x, count_le k xs)

pub five_le : (i : ℕ) (xs : List Finding) → get_or (five_counts xs) i 0 ≤ length xs
five_le zero xs = count_le 1 xs
five_le (suc zero) xs = count_le 2 xs
five_le (suc (suc zero)) xs = count_le 3 xs
five_le (suc (suc (suc zero))) xs = count_le 4 xs
five_le (suc (suc (suc (suc zero)))) xs = count_le 5 xs
five_le (suc (suc (suc (suc (suc i))))) xs = omega arith

-- A RECORD MORE raises the count of its check
pub five_snoc : (xs : List Finding) (x : Finding) → 1 ≤ x.check → x.check ≤ 5
    → five_counts (xs ++ (x ∷ [])) ≡ raised (five_counts xs) x.check
unfolding one
five_snoc xs x a b = go x.check a b (λ k. count_snoc k xs x)
  where
    go : (c : ℕ) → 1 ≤ c → c ≤ 5 → ((k : ℕ) → count_of k (xs ++ (x ∷ [])) ≡ count_of k xs + if (eqb c k) (λ _. 1) (λ _. 0))
        → five_counts (xs ++ (x ∷ [])) ≡ raised (five_counts xs) c
    go zero a b f = absurd (omega arith)
    go (suc zero) a b f =
        let e1 : count_of 1 (xs ++ (x ∷ [])) ≡ count_of 1 xs + 1 = f 1 in
        let e2 : count_of 2 (xs ++ (x ∷ [])) ≡ count_of 2 xs = f 2 ∙ omega arith in
        let e3 : count_of 3 (xs ++ (x ∷ [])) ≡ count_of 3 xs = f 3 ∙ omega arith in
        let e4 : count_of 4 (xs ++ (x ∷ [])) ≡ count_of 4 xs = f 4 ∙ omega arith in
        let e5 : count_of 5 (xs ++ (x ∷ [])) ≡ count_of 5 xs = f 5 ∙ omega arith in
        rw (e1, e2, e3, e4, e5)
    go (suc (suc zero)) a b f =
        let e1 : count_of 1 (xs ++ (x ∷ [])) ≡ count_of 1 xs = f 1 ∙ omega arith in
        let e2 : count_of 2 (xs ++ (x ∷ [])) ≡ count_of 2 xs + 1 = f 2 in
        let e3 : count_of 3 (xs ++ (x ∷ [])) ≡ count_of 3 xs = f 3 ∙ omega arith in
        let e4 : count_of 4 (xs ++ (x ∷ [])) ≡ count_of 4 xs = f 4 ∙ omega arith in
        let e5 : count_of 5 (xs ++ (x ∷ [])) ≡ count_of 5 xs = f 5 ∙ omega arith in
        rw (e1, e2, e3, e4, e5)
    go (suc (suc (suc zero))) a b f =
        let e1 : count_of 1 (xs ++ (x ∷ [])) ≡ count_of 1 xs = f 1 ∙ omega arith in
        let e2 : count_of 2 (xs ++ (x ∷ [])) ≡ count_of 2 xs = f 2 ∙ omega arith in
        let e3 : count_of 3 (xs ++ (x ∷ [])) ≡ count_of 3 xs + 1 = f 3 in
        let e4 : count_of 4 (xs ++ (x ∷ [])) ≡ count_of 4 xs = f 4 ∙ omega arith in
        let e5 : count_of 5 (xs ++ (x ∷ [])) ≡ count_of 5 xs = f 5 ∙ omega arith in
        rw (e1, e2, e3, e4, e5)
    go (suc (suc (suc (suc zero)))) a b f =
        let e1 : count_of 1 (xs ++ (x ∷ [])) ≡ count_of 1 xs = f 1 ∙ omega arith in
        let e2 : count_of 2 (xs ++ (x ∷ [])) ≡ count_of 2 xs = f 2 ∙ omega arith in
        let e3 : count_of 3 (xs ++ (x ∷ [])) ≡ count_of 3 xs = f 3 ∙ omega arith in
        let e4 : count_of 4 (xs ++ (x ∷ [])) ≡ count_of 4 xs + 1 = f 4 in
        let e5 : count_of 5 (xs ++ (x ∷ [])) ≡ count_of 5 xs = f 5 ∙ omega arith in
        rw (e1, e2, e3, e4, e5)
    go (suc (suc (suc (suc (suc zero))))) a b f =
        let e1 : count_of 1 (xs ++ (x ∷ [])) ≡ count_of 1 xs = f 1 ∙ omega arith in
        let e2 : count_of 2 (xs ++ (x ∷ [])) ≡ count_of 2 xs = f 2 ∙ omega arith in
        let e3 : count_of 3 (xs ++ (x ∷ [])) ≡ count_of 3 xs = f 3 ∙ omega arith in
        let e4 : count_of 4 (xs ++ (x ∷ [])) ≡ count_of 4 xs = f 4 ∙ omega arith in
        let e5 : count_of 5 (xs ++ (x ∷ [])) ≡ count_of 5 xs + 1 = f 5 in
        rw (e1, e2, e3, e4, e5)
    go (suc (suc (suc (suc (suc (suc k)))))) a b f = absurd (omega arith)

-- a record put into its place is counted once
count_insert : (k : ℕ) (x : Finding) (ys : List Finding) → (In x ys → ⊥) → count_of k (insert key_finding x ys) ≡ one k x + count_of k ys
unfolding insert
count_insert k x [] f = count_cons k x []
count_insert k x (y ∷ ys) f = go (lex (key_finding x) (key_finding y)) refl (count_insert k x ys (λ i. f (there i)))
  where
    go : (o : Ordering) → lex (key_finding x) (key_finding y) ≡ o
        → count_of k (insert key_finding x ys) ≡ one k x + count_of k ys
        → count_of k (place o x y ys (λ _. insert key_finding x ys)) ≡ one k x + count_of k (y ∷ ys)
    go Ordering.lt e h = count_cons k x (y ∷ ys)
    go Ordering.eq e h = absurd (f (here (finding_tells x y (lex_eq (key_finding x) (key_finding y) e))))
    go Ordering.gt e h = count_cons k y (insert key_finding x ys) ∙ (let g = count_cons k y ys in omega arith)

count_insert_all : (k : ℕ) (xs us : List Finding) → Distinct xs → ((x : Finding) → In x xs → In x us → ⊥)
    → count_of k (insert_all key_finding xs us) ≡ count_of k xs + count_of k us
unfolding insert_all count_of
count_insert_all k [] us d f = omega arith
count_insert_all k (x ∷ xs) us d f =
    count_insert_all k xs (insert key_finding x us) d.1 (λ y i j. apart y i (in_insert→ key_finding x us j))
    ∙ (let e = count_insert k x us (f x (here refl)) in let g = count_cons k x xs in omega arith)
  where
    apart : (y : Finding) → In y xs → (y ≡ x) ⊎ In y us → ⊥
    apart y i (inl e) = d.0 (subst (λ w. In w xs) e i)
    apart y i (inr j) = f y (there i) j

-- THE COUNTS DO NOT DEPEND ON THE ORDER
pub five_sorted : (xs : List Finding) → Distinct xs → five_counts (insert_all key_finding xs []) ≡ five_counts xs
unfolding count_of
five_sorted xs d =
    let e : (k : ℕ) → count_of k (insert_all key_finding xs [])
    ≡ count_of k xs = λ k. count_insert_all k xs [] d (λ x i j. elim j [ ]) ∙ omega arith in
    rw (e 1, e 2, e 3, e 4, e 5)
