-- Rows of numbers and the triples and findings that they hold. Assumes nothing.
use mathlib.Core.Path.{◌≡◌, refl, ◌∙◌, ap}
use mathlib.Core.List.{List, [], ◌∷◌, ◌++◌}
use Prim.Native.Nat.{ℕ, zero, suc, ◌*◌, ◌-◌}
use native.Mathlib.Omega.{arith}
use lib.ListN.{length, take, replicate}
use lib.Seq.{take_at}
use Rattle.common.specs.Triples.{Triple, Row, Finding}
use Rattle.common.specs.Rows.{flat, flat_rows, flat_findings, triples, rows_of, findings_of, filled}

-- what was laid out is read back
pub triples_flat : (ts us : List Triple) → triples (flat ts ++ flat us) ≡ ts ++ us
triples_flat [] [] = refl
triples_flat [] (u ∷ us) = ap (λ l. u ∷ l) (triples_flat [] us)
triples_flat (t ∷ ts) us = ap (λ l. t ∷ l) (triples_flat ts us)

pub rows_flat : (rs : List Row) → rows_of (flat_rows rs) ≡ rs
rows_flat [] = refl
rows_flat (r ∷ rs) = ap (λ l. r ∷ l) (rows_flat rs)

pub findings_flat : (fs : List Finding) → findings_of (flat_findings fs) ≡ fs
findings_flat [] = refl
findings_flat (x ∷ xs) = ap (λ l. x ∷ l) (findings_flat xs)

pub length_flat : (ts : List Triple) → length (flat ts) ≡ 3 * length ts
length_flat [] = refl
length_flat (t ∷ ts) = let e = length_flat ts in omega arith

pub length_flat_rows : (rs : List Row) → length (flat_rows rs) ≡ 5 * length rs
length_flat_rows [] = refl
length_flat_rows (r ∷ rs) = let e = length_flat_rows rs in omega arith

pub length_flat_findings : (fs : List Finding) → length (flat_findings fs) ≡ 5 * length fs
length_flat_findings [] = refl
length_flat_findings (x ∷ xs) = let e = length_flat_findings xs in omega arith

-- a row of whole triples is laid out as it was read
pub flat_triples : (k : ℕ) (l : List ℕ) → length l ≡ 3 * k → (flat (triples l) ≡ l) × (length (triples l) ≡ k)
flat_triples zero [] e = (refl, refl)
flat_triples zero (a ∷ l) e = absurd (omega arith)
flat_triples (suc k) [] e = absurd (omega arith)
flat_triples (suc k) (a ∷ []) e = absurd (omega arith)
flat_triples (suc k) (a ∷ b ∷ []) e = absurd (omega arith)
flat_triples (suc k) (a ∷ b ∷ c ∷ l) e =
    let (p, q) = flat_triples k l (omega arith) in
    (ap (λ (m : List ℕ). a ∷ b ∷ c ∷ m) p, ap suc q)

-- the rows that a filled store holds, by their number
pub rows_filled : (buffer : List ℕ) (rs : List Row) → rows_of (take (5 * length rs) (filled buffer (flat_rows rs))) ≡ rs
rows_filled buffer rs =
    ap rows_of (take_at (flat_rows rs) (replicate (length buffer - length (flat_rows rs)) 0) (5 * length rs) (length_flat_rows rs))
    ∙ rows_flat rs

-- the findings that a filled buffer holds, by their number
pub findings_filled : (buffer : List ℕ) (fs : List Finding) → findings_of (take (5 * length fs) (filled buffer (flat_findings fs))) ≡ fs
findings_filled buffer fs =
    ap findings_of (take_at (flat_findings fs) (replicate (length buffer - length (flat_findings fs)) 0) (5 * length fs)
    (length_flat_findings fs)) ∙ findings_flat fs
