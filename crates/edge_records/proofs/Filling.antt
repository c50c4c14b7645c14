-- Records that are filled one after the other. Assumes nothing.
use mathlib.Core.Path.{◌≡◌, refl, sym, ap, subst, ◌∙◌}
use mathlib.Core.Bool.{Bool, true, false, cond}
use mathlib.Core.List.{List, [], ◌∷◌, ◌++◌, append-nil}
use Prim.Native.Nat.{ℕ, zero, suc, ◌+◌, ◌*◌, ◌/◌, ◌%◌, ◌≤◌, ◌<◌}
use native.Mathlib.Numerals.{add-one}
use native.Mathlib.Omega.{arith}
use borrow.Author.Tests.{eqb-true, eqb-false, eq-eqb, ne_eqb}
use lib.Dec.{eqb}
use lib.ListN.{length, take, drop, set, get_or, length-set, drop_of_length-le}
use lib.Seq.{drop-cons, take-suc-set, append_snoc, take_all}
use Rattle.common.specs.Sizes.{finding_width}
use Rattle.common.specs.Triples.{if}
use Rattle.edge_records.specs.declared.FindingRecord.{FindingRecord}
use Rattle.std.specs.Prelude.{Option, Some, None}
use Rattle.edge_records.specs.Records.{five, records_of, RecordsResult, records_result, records_give, five_at, plan_for, filled}

pub filled_more : (l : List ℕ) (k : ℕ) (ys : List FindingRecord) (r : FindingRecord) → r ≡ five_at l k
    → set (filled l k ys) k r ≡ filled l (k + 1) ys
unfolding filled
filled_more l k ys r e = rw (e, add-one k)

pub filled_none : (l : List ℕ) (ys : List FindingRecord) → ys ≡ filled l 0 ys
unfolding filled
filled_none l ys = refl

pub length_filled : (l : List ℕ) (k : ℕ) (ys : List FindingRecord) → length (filled l k ys) ≡ length ys
unfolding filled
length_filled l zero ys = refl
length_filled l (suc k) ys = length-set (filled l k ys) k (five_at l k) ∙ length_filled l k ys

-- the numbers from a place on
records_step : (l : List ℕ) (m : ℕ) → m + 4 < length l
    → records_of (drop m l) ≡ five (get_or l m 0) (get_or l (m + 1) 0) (get_or l (m + 2) 0) (get_or l (m + 3) 0) (get_or l (m + 4) 0)
    ∷ records_of (drop (m + finding_width) l)
unfolding records_of
records_step l m h =
    let e₁ : m + 1 ≡ suc m = omega arith in
    let e₂ : m + 2 ≡ suc (suc m) = omega arith in
    let e₃ : m + 3 ≡ suc (suc (suc m)) = omega arith in
    let e₄ : m + 4 ≡ suc (suc (suc (suc m))) = omega arith in
    let e₅ : m + finding_width ≡ suc (suc (suc (suc (suc m)))) = omega arith in
    rw (
      e₁,
      e₂,
      e₃,
      e₄,
      e₅,
      drop-cons l m 0 (omega arith),
      drop-cons l (suc m) 0 (omega arith),
      drop-cons l (suc (suc m)) 0
          (omega arith),
      drop-cons l (suc (suc (suc m))) 0 (omega arith),
      drop-cons l (suc (suc (suc (suc m)))) 0 (omega arith),
    )

-- k filled records, and those of the numbers that are left
filled_front : (l : List ℕ) (ys : List FindingRecord) (k : ℕ) → finding_width * k ≤ length l → k ≤ length ys
    → take k (filled l k ys) ++ records_of (drop (finding_width * k) l) ≡ records_of l
unfolding filled
filled_front l ys zero h j = refl
filled_front l ys (suc k) h j =
    let x = filled l k ys in
    let q : finding_width * suc k ≡ finding_width * k + finding_width = omega arith in
    let within : k < length x = subst (λ (n : ℕ). k < n) (sym (length_filled l k ys)) (omega arith) in
    ap (λ (n : ℕ). take (suc k) (set x k (five_at l k)) ++ records_of (drop n l)) q
    ∙ (ap (λ (z : List FindingRecord). z ++ records_of (drop (finding_width * k + finding_width) l))
    (take-suc-set x k (five_at l k) within)
    ∙ (append_snoc (take k x) (five_at l k) (records_of (drop (finding_width * k + finding_width) l))
    ∙ (ap (λ (z : List FindingRecord). take k x ++ z) (sym (records_step l (finding_width * k) (omega arith)))
    ∙ filled_front l ys k (omega arith) (omega arith))))

filled_all : (l : List ℕ) (ys : List FindingRecord) → length l ≡ finding_width * length ys → filled l (length ys) ys ≡ records_of l
unfolding records_of
filled_all l ys h =
    let n = length ys in
    let x = filled l n ys in
    let short : length l ≤ finding_width * n = omega arith in
    let none : drop (finding_width * n) l ≡ [] = drop_of_length-le l short in
    sym (take_all n x (omega (arith, length_filled l n ys)))
    ∙ (sym (append-nil (take n x)) ∙ (ap (λ (z : List ℕ). take n x ++ records_of z) (sym none) ∙ filled_front l ys n
    (omega arith) (omega arith)))

-- what the code leaves, by the plan
abbrev pub left : List ℕ → List FindingRecord → Option ℕ → RecordsResult
left l ys None = records_result 4 ys
left l ys (Some n) = records_result 0 (filled l n ys)

-- what the code leaves is what the call gives
pub gives : (l : List ℕ) (ys : List FindingRecord) (p : Option ℕ) → p ≡ plan_for (length l) (length ys) → left l ys p ≡ records_give l ys
unfolding records_give
gives l ys p e =
    ap (left l ys) e ∙ go (eqb (length l / finding_width) (length ys)) (eqb (length l % finding_width) 0) refl refl
  where
    chosen : Bool → RecordsResult
    chosen b = if b (λ _. records_result 0 (records_of l)) (λ _. records_result 4 ys)

    refused : (length l ≡ finding_width * length ys → ⊥) → records_result 4 ys ≡ chosen (eqb (length l) (finding_width * length ys))
    refused h = ap chosen (sym (ne_eqb (length l) (finding_width * length ys) h))

    go : (s t : Bool) → eqb (length l / finding_width) (length ys) ≡ s → eqb (length l % finding_width) 0 ≡ t
        → left l ys (cond s (cond t (Some (length ys)) None) None) ≡ chosen (eqb (length l) (finding_width * length ys))
    go true true i j =
        let h : length l ≡ finding_width * length ys = omega
        (arith, eqb-true (length l / finding_width) (length ys) i, eqb-true (length l % finding_width) 0 j) in
        ap (λ (x : List FindingRecord). records_result 0 x) (filled_all l ys h)
        ∙ ap chosen (sym (eq-eqb (length l) (finding_width * length ys) h))
    go true false i j = refused (λ h. eqb-false (length l % finding_width) 0 j (omega arith))
    go false t i j = refused (λ h. eqb-false (length l / finding_width) (length ys) i (omega arith))
