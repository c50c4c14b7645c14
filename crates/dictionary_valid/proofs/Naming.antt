-- The terms that entries name, one by one. Assumes nothing.
use mathlib.Core.Path.{◌≡◌, refl, ◌∙◌, ap}
use mathlib.Core.List.{List, [], ◌∷◌, ◌++◌}
use Prim.Native.Nat.{ℕ, zero, suc, ◌+◌, ◌*◌, ◌≤◌, ◌<◌}
use native.Mathlib.Omega.{arith}
use native.Mathlib.Numerals.{add-one}
use native.Mathlib.Nat.{not-suc-le-zero}
use lib.ListN.{length, get_or, take, drop, length-drop}
use lib.Seq.{take-add, drop-cons, get_or-drop}
use Rattle.common.specs.Sizes.{heads_width}
use Rattle.dictionary_layout.specs.Terms.{Term, term}
use Rattle.dictionary_layout.specs.Layout.{read, entry_at}
use Rattle.dictionary_layout.specs.Dictionary.{term_of}
use Rattle.dictionary_entries.specs.Entries.{start_of, length_of, kind_of, next_of, entry_term}
use Rattle.dictionary_valid.specs.Scanning.{named}
use Rattle.dictionary_entries.proofs.Appending.{four}

-- the term that the entry k of a row names
abbrev row_term : List ℕ → List ℕ → ℕ → Term
row_term es a k = term (get_or es (4 * k + 2) 0) (take (get_or es (4 * k + 1) 0) (drop (get_or es (4 * k) 0) a))

row_term_later : (es a : List ℕ) (k : ℕ) → row_term (drop 4 es) a k ≡ row_term es a (suc k)
row_term_later es a k = λ i. term (e 2 (4 * suc k + 2) (omega arith) i) (take (e 1 (4 * suc k + 1) (omega arith) i) (drop (e₀ i) a))
  where
    e : (r j : ℕ) → 4 + (4 * k + r) ≡ j → get_or (drop 4 es) (4 * k + r) 0 ≡ get_or es j 0
    e r j q = get_or-drop 4 es (4 * k + r) 0 ∙ ap (λ (x : ℕ). get_or es x 0) q

    e₀ : get_or (drop 4 es) (4 * k) 0 ≡ get_or es (4 * suc k) 0
    e₀ = let q : 4 + 4 * k ≡ 4 * suc k = omega arith in get_or-drop 4 es (4 * k) 0 ∙ ap (λ (x : ℕ). get_or es x 0) q

read_length : (n : ℕ) (es a : List ℕ) → length (read n es a) ≡ n
unfolding read
read_length zero es a = refl
read_length (suc n) es a = ap suc (read_length n (drop 4 es) a)

read_snoc : (n : ℕ) (es a : List ℕ) → read (suc n) es a ≡ read n es a ++ (row_term es a n ∷ [])
unfolding read
read_snoc zero es a = refl
read_snoc (suc n) es a =
    ap (λ (l : List Term). row_term es a 0 ∷ l) (read_snoc n (drop 4 es) a ∙ ap (λ (t : Term). read n (drop 4 es) a ++ (t ∷ []))
    (row_term_later es a n))

read_at : (n : ℕ) (es a : List ℕ) (k : ℕ) → k < n → term_of (read n es a) k ≡ row_term es a k
unfolding read
read_at zero es a k h = absurd (not-suc-le-zero h)
read_at (suc n) es a zero h = refl
read_at (suc n) es a (suc k) h = let l : k < n = omega arith in read_at n (drop 4 es) a k l ∙ row_term_later es a k

read_take : (k n : ℕ) (es a : List ℕ) → k ≤ n → take k (read n es a) ≡ read k es a
unfolding read
read_take zero n es a h = refl
read_take (suc k) zero es a h = absurd (not-suc-le-zero h)
read_take (suc k) (suc n) es a h =
    let l : k ≤ n = omega arith in ap (λ (r : List Term). row_term es a 0 ∷ r) (read_take k n (drop 4 es) a l)

-- IN A TABLE
module _ (table arena : List ℕ) where
  table_term : (k : ℕ) → row_term (drop heads_width table) arena k ≡ entry_term table arena k
  table_term k = λ i. term (e 2 i) (take (e 1 i) (drop (get_or-drop heads_width table (4 * k) 0 i) arena))
    where
      e : (r : ℕ) → get_or (drop heads_width table) (4 * k + r) 0 ≡ get_or table (entry_at k + r) 0
      e r =
          let q : 64 + (4 * k + r) ≡ entry_at k + r = omega arith in get_or-drop heads_width table (4 * k + r) 0
          ∙ ap (λ (x : ℕ). get_or table x 0) q

  pub named_length : (n : ℕ) → length (named table arena n) ≡ n
  named_length n = read_length n (drop heads_width table) arena

  pub named_snoc : (n : ℕ) → named table arena (n + 1) ≡ named table arena n ++ (entry_term table arena n ∷ [])
  named_snoc n =
      ap (named table arena) (add-one n) ∙ (read_snoc n (drop heads_width table) arena ∙ ap
      (λ (t : Term). named table arena n ++ (t ∷ [])) (table_term n))

  pub named_at : (n k : ℕ) → k < n → term_of (named table arena n) k ≡ entry_term table arena k
  named_at n k h = read_at n (drop heads_width table) arena k h ∙ table_term k

  pub named_take : (k n : ℕ) → k ≤ n → take k (named table arena n) ≡ named table arena k
  named_take k n h = read_take k n (drop heads_width table) arena h

  -- the row of entries grows by four numbers
  pub entry_row : (k : ℕ) → entry_at (k + 1) ≤ length table
      → take (4 * (k + 1)) (drop heads_width table) ≡ take (4 * k) (drop heads_width table)
      ++ four (start_of table k) (length_of table k) (kind_of table k) (next_of table k)
  entry_row k h =
      let q : 4 * (k + 1) ≡ 4 * k + 4 = omega arith in
      ap (λ (n : ℕ). take n es) q ∙ (take-add (4 * k) 4 es ∙ ap (λ (l : List ℕ). take (4 * k) es ++ l) (ap (take 4) cells))
    where
      es : List ℕ
      es = drop heads_width table

      long : 4 * k + 4 ≤ length es
      long = omega (arith, length-drop heads_width table)

      cell : (j i : ℕ) → 64 + j ≡ i → j < length es → drop j es ≡ get_or table i 0 ∷ drop (suc j) es
      cell j i q l =
          drop-cons es j 0 l ∙ ap (λ (x : ℕ). x ∷ drop (suc j) es) (get_or-drop heads_width table j 0 ∙ ap (λ (x : ℕ). get_or table x 0) q)

      cells : drop (4 * k) es ≡ start_of table k ∷ length_of table k ∷ kind_of table k ∷ next_of table k
          ∷ drop (suc (suc (suc (suc (4 * k))))) es
      cells =
          cell (4 * k) (entry_at k) refl (omega (arith, long))
          ∙ ap (λ (l : List ℕ). start_of table k ∷ l) (cell (suc (4 * k)) (entry_at k + 1) (omega arith) (omega (arith, long))
          ∙ ap (λ (l : List ℕ). length_of table k ∷ l) (cell (suc (suc (4 * k))) (entry_at k + 2) (omega arith) (omega (arith, long))
          ∙ ap (λ (l : List ℕ). kind_of table k ∷ l)
          (cell (suc (suc (suc (4 * k)))) (entry_at k + 3) (omega arith) (omega (arith, long)))))
