-- What a run refuses before it puts a term: the number of the first refusal whose condition is met; 5 is tried over the whole load
-- before 6. REFERENCE 1.5 and 1.6. Assumes nothing.
use Rattle.std.specs.Prelude.{Bool, not, List, [], ◌∷◌, ℕ, ◌+◌, ◌*◌, ◌%◌, ltb, eqb, length}
use Rattle.common.specs.Triples.{if, all}
use Rattle.common.specs.Sizes.{load_width, load_limit, store_width, store_limit, finding_width, finding_limit, work_width}
use Rattle.common.specs.Sizes.{run_terms_count}
use Rattle.driver_refusals.specs.Lent.{Lent}

-- REFUSALS in order: the number of the first whose condition is met, and 0 where none is
pub record Refusal : Type 0 where
  pub number : ℕ
  pub met : Bool

abbrev pub refusal_if : ℕ → Bool → Refusal
refusal_if n b = record { number = n; met = b }

abbrev pub first_refusal : List Refusal → ℕ
first_refusal [] = 0
first_refusal (s ∷ r) = if s.met (λ _. s.number) (λ _. first_refusal r)

-- refusals 2 to 6, for a dictionary of n terms; 4 counts the run's terms too, held already or not
abbrev pub run_refusals : ℕ → Lent → List Refusal
run_refusals n b =
    refusal_if 2 (not (eqb (length b.load % load_width) 0)) ∷
    refusal_if 3 (ltb (load_width * load_limit) (length b.load)) ∷
    refusal_if 4 (not (eqb (length b.store % store_width) 0)) ∷
    refusal_if 4 (ltb (store_width * store_limit) (length b.store)) ∷
    refusal_if 4 (not (eqb (length b.findings % finding_width) 0)) ∷
    refusal_if 4 (ltb (finding_width * finding_limit) (length b.findings)) ∷
    refusal_if 4 (ltb (length b.work) (work_width * (n + run_terms_count))) ∷
    refusal_if 5 (not (all (λ i. not (eqb i 0)) b.load)) ∷
    refusal_if 6 (not (all (λ i. ltb i n) b.load)) ∷
    []
