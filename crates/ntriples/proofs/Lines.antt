-- The lines of a file, from one place on and one after the other. Assumes nothing.
use mathlib.Core.Path.{◌≡◌, refl, sym, ◌∙◌, ap}
use mathlib.Core.Bool.{Bool, true, false}
use mathlib.Core.List.{List, [], ◌∷◌, ◌++◌}
use Prim.Native.Nat.{ℕ, zero, suc, ◌+◌, ◌-◌, ◌≤◌, ◌<◌}
use native.Mathlib.Omega.{arith}
use lib.Dec.{T, T_not}
use lib.ListN.{length, get_or, take, drop}
use lib.Seq.{drop-cons, drop-length}
use Rattle.common.specs.Triples.{if}
use Rattle.common.proofs.Lists.{and→}
use Rattle.dictionary_layout.proofs.Choice.{if_yes, if_no}
use Rattle.ntriples.specs.Characters.{all, line_end}
use Rattle.ntriples.specs.Reading.{onto, lines}
use Rattle.ntriples.specs.Files.{inline, Clear}

-- FROM A PLACE ON: none is looked at

-- n bytes that end no line, in front of an end of a line or of the file
module _ (file : List ℕ) (R : List (List ℕ)) where
  first_line : (n at : ℕ) → ((k : ℕ) → at ≤ k → k < at + n → T (line_end (get_or file k 0)) → ⊥) → at + n ≤ length file
      → lines (drop (at + n) file) ≡ [] ∷ R → lines (drop at file) ≡ take n (drop at file) ∷ R
  unfolding lines
  first_line zero at f h e = let q : at + 0 ≡ at = omega arith in ap (λ (x : ℕ). lines (drop x file)) (sym q) ∙ e
  first_line (suc n) at f h e =
      let b = get_or file at 0 in
      let q = drop-cons file at 0 (omega arith) in
      let p : suc at + n ≡ at + suc n = omega arith in
      let i = first_line n (suc at) (λ k l u. f k (omega arith) (omega arith)) (omega arith) (ap (λ (x : ℕ). lines (drop x file)) p ∙ e) in
      ap lines q
      ∙ (if_no (line_end b) _ _ (f at (omega arith) (omega arith)) ∙ (ap (onto b) i ∙ ap (λ (l : List ℕ). take (suc n) l ∷ R) (sym q)))

-- A LINE THAT ENDS AT e, and those after it
pub line_here : (file : List ℕ) (at e : ℕ) → Clear file at e → e < length file → T (line_end (get_or file e 0))
    → lines (drop at file) ≡ take (e - at) (drop at file) ∷ lines (drop (e + 1) file)
unfolding lines
line_here file at e c h t =
    let a = c.above in
    let q : at + (e - at) ≡ e = omega arith in
    let p : suc e ≡ e + 1 = omega arith in
    first_line file (lines (drop (e + 1) file)) (e - at) at (λ k l u. c.no_end k l (omega arith)) (omega arith)
    (ap (λ (x : ℕ). lines (drop x file)) q ∙ (ap lines (drop-cons file e 0 h) ∙ (if_yes (line_end (get_or file e 0)) _ _ t
    ∙ ap (λ (x : ℕ). [] ∷ lines (drop x file)) p)))

-- THE LAST LINE, up to the end of the file
pub line_last : (file : List ℕ) (at e : ℕ) → Clear file at e → e ≡ length file → lines (drop at file) ≡ take (e - at) (drop at file) ∷ []
unfolding lines
line_last file at e c h =
    let a = c.above in
    let q : at + (e - at) ≡ length file = omega arith in
    first_line file [] (e - at) at (λ k l u. c.no_end k l (omega arith)) (omega arith)
    (ap (λ (x : ℕ). lines (drop x file)) q ∙ ap lines (drop-length file))

-- bytes that end no line are one line
pub lines_one : (l : List ℕ) → T (all inline l) → lines l ≡ l ∷ []
unfolding lines
lines_one [] h = refl
lines_one (a ∷ l) h =
    let (i, j) = and→ (inline a) (all inline l) h in if_no (line_end a) _ _ (T_not (line_end a) i) ∙ ap (onto a) (lines_one l j)

-- a file has a first line
some_line : (f : List ℕ) → (l : List ℕ) × (ls : List (List ℕ)) × (lines f ≡ l ∷ ls)
unfolding lines
some_line [] = ([], [], refl)
some_line (b ∷ f) = go (line_end b) (some_line f)
  where
    go : (t : Bool) → (l : List ℕ) × (ls : List (List ℕ)) × (lines f ≡ l ∷ ls)
        → (l : List ℕ) × (ls : List (List ℕ)) × (if t (λ _. [] ∷ lines f) (λ _. onto b (lines f)) ≡ l ∷ ls)
    go true s = ([], lines f, refl)
    go false (l, ls, e) = (b ∷ l, ls, ap (onto b) e)

-- ONE AFTER THE OTHER: an end of a line between two files
pub lines_append : (b : ℕ) (f g : List ℕ) → T (line_end b) → lines (f ++ (b ∷ g)) ≡ lines f ++ lines g
unfolding lines
lines_append b [] g t = if_yes (line_end b) _ _ t
lines_append b (a ∷ f) g t = go (line_end a) (some_line f) (lines_append b f g t)
  where
    go : (x : Bool) → (l : List ℕ) × (ls : List (List ℕ)) × (lines f ≡ l ∷ ls) → lines (f ++ (b ∷ g)) ≡ lines f ++ lines g
        → if x (λ _. [] ∷ lines (f ++ (b ∷ g))) (λ _. onto a (lines (f ++ (b ∷ g))))
        ≡ if x (λ _. [] ∷ lines f) (λ _. onto a (lines f)) ++ lines g
    go true s e = ap (λ (m : List (List ℕ)). [] ∷ m) e
    go false (l, ls, q) e =
        ap (onto a) (e ∙ ap (λ (m : List (List ℕ)). m ++ lines g) q) ∙ ap (λ (m : List (List ℕ)). onto a m ++ lines g) (sym q)
