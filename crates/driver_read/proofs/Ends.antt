-- The lines of a file that are left from a place on. Assumes nothing.
use mathlib.Core.Path.{◌≡◌, sym, ◌∙◌, ap}
use mathlib.Core.List.{List, [], ◌∷◌}
use Prim.Native.Nat.{ℕ, ◌+◌, ◌-◌, ◌≤◌, ◌<◌}
use native.Mathlib.Omega.{arith}
use native.Mathlib.Decide.{dec_lt}
use lib.Dec.{leb, le→leb, leb→le}
use lib.ListN.{length, take, drop}
use Rattle.common.specs.Triples.{if}
use Rattle.dictionary_layout.proofs.Choice.{if_yes, if_no}
use Rattle.ntriples.specs.Reading.{lines}
use Rattle.ntriples.proofs.Lines.{line_here, line_last}
use Rattle.driver_read.specs.Lines.{LineEnds}

-- THE LINES LEFT from a place on; none behind the last
abbrev pub left : List ℕ → ℕ → List (List ℕ)
left file at = if (leb at (length file)) (λ _. lines (drop at file)) (λ _. [])

pub left_all : (file : List ℕ) → left file 0 ≡ lines file
left_all file = if_yes (leb 0 (length file)) _ _ (le→leb 0 (length file) (omega arith))

pub left_none : (file : List ℕ) (at : ℕ) → (at ≤ length file → ⊥) → left file at ≡ []
left_none file at n = if_no (leb at (length file)) _ _ (λ t. n (leb→le at (length file) t))

-- the next of them, and those after it
pub left_next : (file : List ℕ) (at e : ℕ) → at ≤ length file → LineEnds file at e
    → left file at ≡ take (e - at) (drop at file) ∷ left file (e + 1)
left_next file at e h l =
    if_yes (leb at (length file)) _ _ (le→leb at (length file) h) ∙ elim (dec_lt e (length file)) [ yes b ↦ here b | no b ↦ last b ]
  where
    here : e < length file → lines (drop at file) ≡ take (e - at) (drop at file) ∷ left file (e + 1)
    here b =
        line_here file at e l.clear b (l.ends b)
        ∙ ap (λ (m : List (List ℕ)). take (e - at) (drop at file) ∷ m)
        (sym (if_yes (leb (e + 1) (length file)) _ _ (le→leb (e + 1) (length file) (omega arith))))

    last : (e < length file → ⊥) → lines (drop at file) ≡ take (e - at) (drop at file) ∷ left file (e + 1)
    last b =
        line_last file at e l.clear (omega (arith, l.clear.upto))
        ∙ ap (λ (m : List (List ℕ)). take (e - at) (drop at file) ∷ m) (sym (left_none file (e + 1) (λ k. b (omega arith))))
