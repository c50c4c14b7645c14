-- Buffers of marks. Assumes nothing.
use mathlib.Core.Path.{◌≡◌, sym, ◌∙◌}
use mathlib.Core.Bool.{Bool, true, false}
use mathlib.Core.List.{List}
use Prim.Native.Nat.{ℕ}
use lib.Seq.{ext_get_or}
use lib.ListN.{length, get_or, replicate, length-replicate, get_or-replicate}
use Rattle.std.proofs.Common.{◌↔◌, EachIndex, refl, ap}
use Rattle.dictionary_layout.specs.Dictionary.{same_row}
use Rattle.dictionary_layout.proofs.Choice.{is_true, is_false, true_false}
use Rattle.dictionary_layout.proofs.Equality.{same_rows, same_row→}
use Rattle.trial_start.specs.Starts.{mark, kept}

-- a test of two rows, by what it tells
pub same_row_test : (b : Bool) {x y : List ℕ} → (b ≡ true ↔ (x ≡ y)) → b ≡ same_row x y
same_row_test true {x} {y} f = is_true (same_row x y) (same_rows (f.0 refl))
same_row_test false {x} {y} f = is_false (same_row x y) (λ t. true_false (sym (f.1 (same_row→ x y t))))

-- a test of each place for a mark
pub kept_each : (l : List ℕ) (b : Bool) → (b ≡ true ↔ EachIndex l (λ k. get_or l k 0 ≡ mark)) → b ≡ kept l
kept_each l b f =
    let marks = replicate (length l) mark in
    same_row_test b {x = l} {y = marks} (
      λ e. ext_get_or 0 l marks (sym (length-replicate (length l) mark)) (λ k h. f.0 e k h ∙ sym (get_or-replicate (length l) k mark 0 h)),
      λ e. f.1 (λ k h. ap (λ (x : List ℕ). get_or x k 0) e ∙ get_or-replicate (length l) k mark 0 h),
    )
