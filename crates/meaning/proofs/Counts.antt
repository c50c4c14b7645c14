-- The five counts are those of the findings. Assumes nothing.
use mathlib.Core.Path.{◌≡◌, refl}
use mathlib.Core.List.{List, [], ◌∷◌}
use Prim.Native.Nat.{ℕ, zero, suc, ◌+◌, ◌≤◌}
use native.Mathlib.Omega.{arith}
use lib.Dec.{eqb}
use lib.ListN.{length}
use Rattle.common.specs.Triples.{Triple, Finding, In, here, there, if}
use Rattle.meaning.specs.Rules.{Graph, Found, cax_dw, prp_irp, prp_asyp, prp_pdw, cls_nothing2}
use Rattle.meaning.specs.Table.{graph_of}
use Rattle.meaning.specs.Closure.{findings, count_of, five_counts, total}
use Rattle.meaning.proofs.Checks.{findings→}

-- a finding is of one of the five checks
pub found_check : {S : Graph} {n a b c d : ℕ} → Found S n a b c d → (1 ≤ n) × (n ≤ 5)
found_check (cax_dw h j k n) = (omega arith, omega arith)
found_check (prp_irp h j n) = (omega arith, omega arith)
found_check (prp_asyp h j k l m n) = (omega arith, omega arith)
found_check (prp_pdw h j k l m n o) = (omega arith, omega arith)
found_check (cls_nothing2 h n) = (omega arith, omega arith)

-- THE FIVE COUNTS add up to the number of findings
pub total_five : (fs : List Finding) → ((x : Finding) → In x fs → (1 ≤ x.check) × (x.check ≤ 5)) → total (five_counts fs) ≡ length fs
unfolding count_of
total_five [] f = refl
total_five (x ∷ xs) f = let e = total_five xs (λ y i. f y (there i)) in at x.check (f x (here refl)) e
  where
    one : ℕ → ℕ → ℕ
    one n k = if (eqb n k) (λ _. suc (count_of k xs)) (λ _. count_of k xs)

    at : (n : ℕ) → (1 ≤ n) × (n ≤ 5) → total (five_counts xs) ≡ length xs
        → one n 1 + (one n 2 + (one n 3 + (one n 4 + (one n 5 + 0)))) ≡ suc (length xs)
    at zero r e = absurd (omega arith)
    at (suc zero) r e = omega arith
    at (suc (suc zero)) r e = omega arith
    at (suc (suc (suc zero))) r e = omega arith
    at (suc (suc (suc (suc zero)))) r e = omega arith
    at (suc (suc (suc (suc (suc zero))))) r e = omega arith
    at (suc (suc (suc (suc (suc (suc n)))))) r e = absurd (omega arith)

pub total_findings : (ts : List Triple) → total (five_counts (findings ts)) ≡ length (findings ts)
total_findings ts = total_five (findings ts) (λ x i. found_check {S = graph_of ts} (findings→ ts i))
