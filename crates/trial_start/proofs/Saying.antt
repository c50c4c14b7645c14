-- What is said of a start, by the answers of start, put and lookup. Assumes nothing.
use mathlib.Core.Path.{◌≡◌, refl, ◌∙◌}
use mathlib.Core.Bool.{Bool, true, false, ◌&&◌}
use mathlib.Core.List.{List}
use Prim.Native.Nat.{ℕ, zero, suc, ◌≤◌}
use native.Mathlib.Omega.{arith}
use lib.Dec.{eqb, ltb}
use lib.ListN.{take, replicate, length-replicate}
use borrow.Author.Tests.{ltb-false}
use Rattle.common.specs.Triples.{if}
use Rattle.dictionary_layout.specs.Dictionary.{LookupAnswer}
use Rattle.dictionary_layout.specs.Calls.{start_gives}
use Rattle.std.proofs.Common.{◌↔◌}
use Rattle.trial_start.proofs.Marks.{same_row_test}
use Rattle.trial_start.specs.Starts.{mark, b0, is_b0, said, said_in, said_of}

-- the blank node is found
pub found : {l g : LookupAnswer} → l ≡ g → {b : Bool} → (b ≡ true ↔ (l.part ≡ b0)) → (eqb l.number 0 && (eqb l.kind 2 && b)) ≡ is_b0 g
found e {b} f = rw (← e, ← same_row_test b f) refl

-- parts of buffers of marks
take_replicate : (t m : ℕ) → t ≤ m → take t (replicate m mark) ≡ replicate t mark
take_replicate zero m h = refl
take_replicate (suc t) zero h = absurd (omega arith)
take_replicate (suc t) (suc m) h = let r = take_replicate t m (omega arith) in rw r refl

module _ (numbers bytes t a n : ℕ) (f : Bool) where
  by : Bool → Bool → List ℕ → List ℕ → Bool
  by x y table arena = if x (λ _. false) (λ _. if y (λ _. false) (λ _. said f n (start_gives table arena)))

  pub said_marks : {b : Bool} → b ≡ said_in (replicate numbers mark) (replicate bytes mark) t a n f → b ≡ said_of numbers bytes t a n f
  unfolding said_in said_of by
  said_marks h = h ∙ rw (length-replicate numbers mark, length-replicate bytes mark) (go (ltb numbers t) refl (ltb bytes a) refl)
    where
      go : (x : Bool) → ltb numbers t ≡ x → (y : Bool) → ltb bytes a ≡ y →
          by x y (take t (replicate numbers mark)) (take a (replicate bytes mark)) ≡ by x y (replicate t mark) (replicate a mark)
      go true p y q = refl
      go false p true q = refl
      go false p false q =
          let u = take_replicate t numbers (ltb-false numbers t p) in
          let v = take_replicate a bytes (ltb-false bytes a q) in
          rw (u, v) refl
