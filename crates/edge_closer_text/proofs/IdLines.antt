-- An id line: its spaces, and its three ids. Assumes nothing.
use mathlib.Core.Path.{◌≡◌, refl, ap, ◌∙◌}
use mathlib.Core.Option.{some, none}
use mathlib.Core.List.{List, [], ◌∷◌}
use Prim.Native.Nat.{ℕ, ◌+◌, ◌-◌, ◌<◌}
use native.Mathlib.Omega.{arith}
use lib.ListN.{length, take, drop}
use Rattle.edge_closer_text.specs.Input.{before, fields, id, three_ids, id_line}
use Rattle.edge_closer_text.specs.Promises.{part, TwoSpaces}
use Rattle.edge_closer_text.proofs.Parts.{found_more, found_last, fields_some}

-- THE SPACES of a line, found one after the other. A line with no space is bad,
pub no_space : (line : List ℕ) → length line ≡ 0 + length (before 32 (drop 0 line)) → id_line line ≡ none
unfolding id_line
no_space line is = ap three_ids (found_last 32 line 0 (length line) (omega arith) is refl)

module _ (line : List ℕ) (a : ℕ) (is_a : a ≡ 0 + length (before 32 (drop 0 line))) (h : a < length line) where
  -- the field before the first
  first_field : fields line ≡ take a line ∷ fields (drop (a + 1) line)
  first_field = let z : a - 0 ≡ a = omega arith in found_more 32 line 0 a (omega arith) is_a ([] ∷ []) h ∙ rw z refl

  -- a line with one space is bad
  pub one_space : length line ≡ a + 1 + length (before 32 (drop (a + 1) line)) → id_line line ≡ none
  unfolding id_line
  one_space is =
      ap three_ids (first_field ∙ ap (λ fs. take a line ∷ fs) (found_last 32 line (a + 1) (length line) (omega arith) is refl))

  module _ (b : ℕ) (is_b : b ≡ a + 1 + length (before 32 (drop (a + 1) line))) (i : b < length line) where
    -- the two fields before the second
    two_fields : fields line ≡ take a line ∷ part line (a + 1) b ∷ fields (drop (b + 1) line)
    two_fields = first_field ∙ ap (λ fs. take a line ∷ fs) (found_more 32 line (a + 1) b (omega arith) is_b ([] ∷ []) i)

    -- a line with a third space is bad
    pub three_spaces : (d : ℕ) → d ≡ b + 1 + length (before 32 (drop (b + 1) line)) → d < length line → id_line line ≡ none
    unfolding id_line
    three_spaces d is_d l =
        let more = found_more 32 line (b + 1) d (omega arith) is_d ([] ∷ []) l in
        let s = fields_some (drop (d + 1) line) in
        let all : fields line ≡ take a line ∷ part line (a + 1) b ∷ part line (b + 1) d ∷ s.0 ∷ s.1 = two_fields ∙ rw (more, s.2) refl in
        ap three_ids all

    -- a line with two spaces has three fields
    pub two_spaces : length line ≡ b + 1 + length (before 32 (drop (b + 1) line)) → TwoSpaces line a b
    two_spaces is =
        let last = found_last 32 line (b + 1) (length line) (omega arith) is refl in
        record { order = omega arith; within = i; are = two_fields ∙ rw last refl }

-- THE IDS of a line with two spaces: none where a field is no number, and else the three
module _ {line : List ℕ} {a b : ℕ} (t : TwoSpaces line a b) where
  -- its three fields decide
  id_line_is : id_line line ≡ three_ids (take a line ∷ part line (a + 1) b ∷ part line (b + 1) (length line) ∷ [])
  unfolding id_line
  id_line_is = ap three_ids t.are

  -- the first is no id
  pub first_bad : id (take a line) ≡ none → id_line line ≡ none
  first_bad e = id_line_is ∙ rw e refl

  -- the second is none
  pub second_bad : {s : ℕ} → id (take a line) ≡ some s → id (part line (a + 1) b) ≡ none → id_line line ≡ none
  second_bad e f = id_line_is ∙ rw (e, f) refl

  -- the third is none
  pub third_bad : {s p : ℕ} → id (take a line) ≡ some s → id (part line (a + 1) b) ≡ some p
      → id (part line (b + 1) (length line)) ≡ none → id_line line ≡ none
  third_bad e f g = id_line_is ∙ rw (e, f, g) refl

  -- all three are ids
  pub all_good : {s p o : ℕ} → id (take a line) ≡ some s → id (part line (a + 1) b) ≡ some p
      → id (part line (b + 1) (length line)) ≡ some o → id_line line ≡ some (s ∷ p ∷ o ∷ [])
  all_good e f g = id_line_is ∙ rw (e, f, g) refl
