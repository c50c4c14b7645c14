-- Findings as records: a lent slice of them is filled from the five-number form, or refused with 4 and not changed where there is not
-- one record for each five numbers. REFERENCE 7.3. Assumes nothing.
use Rattle.std.specs.Prelude.{cond, Option, Some, None, List, [], ◌∷◌, ℕ, zero, suc, ◌+◌, ◌*◌, ◌/◌, ◌%◌, eqb, length, get_or, set}
use Rattle.common.specs.Sizes.{finding_width}
use Rattle.common.specs.Triples.{if}
use Rattle.edge_records.specs.declared.FindingRecord.{FindingRecord}

-- the record of five numbers
abbrev pub five : ℕ → ℕ → ℕ → ℕ → ℕ → FindingRecord
five n x y z w = record { check = n; a = x; b = y; c = z; d = w }

-- the records of numbers, five each
unfoldable pub records_of : List ℕ → List FindingRecord
records_of [] = []
records_of (n ∷ []) = []
records_of (n ∷ x ∷ []) = []
records_of (n ∷ x ∷ y ∷ []) = []
records_of (n ∷ x ∷ y ∷ z ∷ []) = []
records_of (n ∷ x ∷ y ∷ z ∷ w ∷ l) = five n x y z w ∷ records_of l

-- WHAT THE CALL GIVES: the number, and the records as they are left
pub record RecordsResult : Type 0 where
  pub number : ℕ
  pub records : List FindingRecord

abbrev pub records_result : ℕ → List FindingRecord → RecordsResult
records_result n l = record { number = n; records = l }

unfoldable pub records_give : List ℕ → List FindingRecord → RecordsResult
records_give numbers records =
    if (eqb (length numbers) (finding_width * length records)) (λ _. records_result 0 (records_of numbers)) (λ _. records_result 4 records)

-- HOW THE CODE GOES ABOUT IT: the i-th record, the plan, and k records filled
abbrev pub five_at : List ℕ → ℕ → FindingRecord
five_at l i =
    let at = finding_width * i in five (get_or l at 0) (get_or l (at + 1) 0) (get_or l (at + 2) 0) (get_or l (at + 3) 0)
    (get_or l (at + 4) 0)

abbrev pub plan_for : ℕ → ℕ → Option ℕ
plan_for m n = cond (eqb (m / finding_width) n) (cond (eqb (m % finding_width) 0) (Some n) None) None

unfoldable pub filled : List ℕ → ℕ → List FindingRecord → List FindingRecord
filled l zero ys = ys
filled l (suc k) ys = set (filled l k ys) k (five_at l k)
