-- What stands in a buffer that is cleared from a place on: rows laid out, then zeros. Assumes nothing.
use Rattle.std.proofs.Common.{◌≡◌, ℕ, zero, suc, ◌+◌, ◌-◌, ◌*◌, ◌≤◌, List, [], ◌∷◌, ◌++◌, length, get_or, take, drop, replicate}
use Rattle.std.proofs.Common.{sym, refl, ap, ◌∙◌, ap₂, mul-suc, add-one, arith, length-take-le, drop-cons, take-add}
use Rattle.common.specs.Triples.{Row, Finding, concat_map, key_finding, Distinct, insert_all, without_zero_rows}
use Rattle.common.specs.Rows.{flat_rows, flat_findings, filled, cleared}
use Rattle.store_rows.specs.Rows.{width, whole_row_at, listed, whole_rows, sorted_rows, finding_at, finding_rows}
use Rattle.store_rows.specs.Zeros.{Kept}
use Rattle.store_rows.proofs.Listed.{length_listed}
use Rattle.store_rows.proofs.Removing.{concat_snoc}
use Rattle.store_sort.specs.Sorted.{numbers, row_numbers, Sorted}
use Rattle.store_sort.specs.Answer.{answer_of, DistinctRows, Answer}
use Rattle.store_sort.proofs.Ordered.{row_all, row_is, rows_sorted, finding_key, findings_sorted}

-- The numbers of a row are a part of the list, and the numbers of all rows its beginning.
pub numbers_take : (w at : ℕ) (l : List ℕ) → at + w ≤ length l → numbers w at l ≡ take w (drop at l)
unfolding numbers
numbers_take zero at l h = refl
numbers_take (suc w) at l h =
    ap (λ r. get_or l at 0 ∷ r) (numbers_take w (at + 1) l (omega arith) ∙ ap (λ k. take w (drop k l)) (add-one at))
    ∙ sym (ap (take (suc w)) (drop-cons l at 0 (omega arith)))

-- so the numbers of all rows, one after the other, are the beginning of the list
pub concat_listed : {A : Type 0} (all : A → List ℕ) (w n : ℕ) (l : List ℕ) (f : ℕ → A)
    → ((k : ℕ) → all (f k) ≡ row_numbers w l k) → w * n ≤ length l → concat_map (listed n f) all ≡ take (w * n) l
unfolding listed
concat_listed all w zero l f kf h =
    let e : w * 0 ≡ 0 = omega arith in
    rw e
concat_listed all w (suc n) l f kf h =
    let e = mul-suc w n in
    concat_snoc (listed n f) (f n) all
    ∙ ap₂ ◌++◌ (concat_listed all w n l f kf (omega arith)) (kf n ∙ numbers_take w (w * n) l (omega arith))
    ∙ sym (take-add (w * n) w l)
    ∙ ap (λ k. take k l) (sym e)

-- rows are laid out by their numbers
pub flat_concat : (rs : List Row) → flat_rows rs ≡ concat_map rs row_all
flat_concat [] = refl
flat_concat (r ∷ rs) = ap (λ l. r.it.s ∷ r.it.p ∷ r.it.o ∷ r.pass ∷ r.rule ∷ l) (flat_concat rs)

-- and so are findings
pub findings_concat : (xs : List Finding) → flat_findings xs ≡ concat_map xs key_finding
findings_concat [] = refl
findings_concat (x ∷ xs) = ap (λ r. x.check ∷ x.a ∷ x.b ∷ x.c ∷ x.d ∷ r) (findings_concat xs)

-- the first n rows of the store, laid out
pub flat_whole_rows : (n : ℕ) (l : List ℕ) → width * n ≤ length l → flat_rows (whole_rows n l) ≡ take (width * n) l
flat_whole_rows n l h = flat_concat (whole_rows n l) ∙ concat_listed row_all width n l (whole_row_at l) (row_is l) h

-- the first n rows of findings, laid out
pub flat_finding_rows : (n : ℕ) (l : List ℕ) → 5 * n ≤ length l → flat_findings (finding_rows n l) ≡ take (5 * n) l
flat_finding_rows n l h = findings_concat (finding_rows n l) ∙ concat_listed key_finding 5 n l (finding_at l) (finding_key l) h

-- a buffer cleared behind what is to stay in it
pub cleared_filled : (k : ℕ) (l m r : List ℕ) → length m ≡ length l → k ≤ length m → r ≡ take k m → cleared k m ≡ filled l r
unfolding cleared
cleared_filled k l m r a b e =
    let f = ap length e ∙ length-take-le k m b in
    let g : length m - k ≡ length l - length r = omega arith in
    ap₂ (λ x y. x ++ replicate y 0) (sym e) g

-- THE STORE AT THE END: sorted, without rows that have a zero id, cleared
pub answer_left : {n : ℕ} {l l₁ : List ℕ} {k : ℕ} {l₂ l₃ : List ℕ} → DistinctRows n l → Sorted width 3 n l l₁ → Kept n l₁ k l₂
    → l₃ ≡ cleared (width * k) l₂ → Answer n l k l₃
answer_left {n} {l} {l₁} {k} {l₂} {l₃} c s v e = record {
  count = sym (length_listed k (whole_row_at l₂)) ∙ ap length list;
  store = e ∙ cleared_filled (width * k) l l₂ (flat_rows (answer_of n l)) (v.same_length ∙ s.permuted.same_length) room
      (ap flat_rows (sym list) ∙ flat_whole_rows k l₂ room);
}
  where
    list : whole_rows k l₂ ≡ answer_of n l
    list = v.kept ∙ ap without_zero_rows (rows_sorted n l l₁ s c.distinct)

    room : width * k ≤ length l₂
    room = omega (arith, v.few, v.same_length, s.permuted.same_length, c.room)

-- THE ROWS AT THE END of a turn: sorted, those with a zero id too, cleared
pub rows_left : {n : ℕ} {l m : List ℕ} → DistinctRows n l → Sorted width 3 n l m
    → cleared (width * n) m ≡ filled l (flat_rows (sorted_rows n l))
rows_left {n} {l} {m} c s =
    let same = s.permuted.same_length in
    cleared_filled (width * n) l m (flat_rows (sorted_rows n l)) same (omega (arith, same, c.room))
    (ap flat_rows (sym (rows_sorted n l m s c.distinct)) ∙ flat_whole_rows n m (omega (arith, same, c.room)))

-- THE FINDINGS AT THE END: sorted, cleared
pub findings_left : {n : ℕ} {l m : List ℕ} → 5 * n ≤ length l → Distinct (finding_rows n l) → Sorted 5 5 n l m
    → cleared (5 * n) m ≡ filled l (flat_findings (insert_all key_finding (finding_rows n l) []))
findings_left {n} {l} {m} h d s =
    cleared_filled (5 * n) l m (flat_findings (insert_all key_finding (finding_rows n l) [])) s.permuted.same_length
    (omega (arith, s.permuted.same_length))
    (ap flat_findings (sym (findings_sorted n l m s d)) ∙ flat_finding_rows n m (omega (arith, s.permuted.same_length)))
