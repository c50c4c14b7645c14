-- What follows a literal's text: the colon, and the text by its tests. Assumes nothing.
use mathlib.Core.Path.{◌≡◌, refl, sym, ap}
use mathlib.Core.Bool.{Bool, true, false, ◌||◌}
use mathlib.Core.List.{List, [], ◌∷◌}
use mathlib.Core.Logic.{◌⊎◌, inl, inr}
use Prim.Native.Nat.{ℕ, ◌+◌, ◌≤◌}
use native.Mathlib.Omega.{arith}
use lib.Dec.{eqb}
use lib.ListN.{length, set}
use Rattle.std.specs.List.{list_any}
use Rattle.std.proofs.lemmas.Bool.{eq-eqb, ne_eqb, cases_eq}
use Rattle.common.specs.Triples.{if}
use Rattle.dictionary_layout.specs.Dictionary.{same_row}
use Rattle.ntriples.specs.Characters.{one_of}
use Rattle.ntriples.specs.Grammar.{xsd_string}
use Rattle.ntriples.proofs.Tests.{if_ind}
use Rattle.ntriples_utf8.specs.Promises.{Wrote}
use Rattle.ntriples_tokens.proofs.Writing.{wrote_none}
use Rattle.ntriples_canonical.specs.Writing.{suffix_text}
use Rattle.ntriples_text.specs.Promises.{in_angles}
use Rattle.ntriples_text.proofs.Stores.{behind_one, behind_two, angles_length}

-- the colon, as the search of the bytes finds it
first_or : (a b : ℕ) (x : Bool) → (eqb a b || x) ≡ if (eqb b a) (λ _. true) (λ _. x)
first_or a b x = go (cases_eq a b)
  where
    go : (a ≡ b) ⊎ (a ≡ b → ⊥) → (eqb a b || x) ≡ if (eqb b a) (λ _. true) (λ _. x)
    go (inl e) = rw (eq-eqb a b e, eq-eqb b a (sym e)) refl
    go (inr n) = rw (ne_eqb a b n, ne_eqb b a (λ e. n (sym e))) refl

pub colon_found : (d : List ℕ) → list_any (λ b. eqb b 58) d ≡ one_of d 58
unfolding one_of
colon_found [] = refl
colon_found (b ∷ bs) = rw (colon_found bs) (first_or b 58 (one_of bs 58))

-- BY THE TESTS: xsd:string,
module _ (d : List ℕ) where
  pub suffix_plain : true ≡ same_row d xsd_string → suffix_text d ≡ []
  unfolding suffix_text
  suffix_plain e = rw (sym e) refl

  -- another datatype,
  pub suffix_datatype : false ≡ same_row d xsd_string → true ≡ one_of d 58 → suffix_text d ≡ 94 ∷ 94 ∷ in_angles d
  unfolding suffix_text
  suffix_datatype e f = rw (sym e, sym f) refl

  -- a language tag
  pub suffix_tag : false ≡ same_row d xsd_string → false ≡ one_of d 58 → suffix_text d ≡ 64 ∷ d
  unfolding suffix_text
  suffix_tag e f = rw (sym e, sym f) refl

-- its length: xsd:string,
pub length_plain : (d : List ℕ) → true ≡ same_row d xsd_string → 0 ≡ length (suffix_text d)
length_plain d e = sym (ap length (suffix_plain d e))

-- another datatype,
pub length_datatype : (d : List ℕ) → false ≡ same_row d xsd_string → true ≡ one_of d 58 → length d + 4 ≡ length (suffix_text d)
length_datatype d e f = omega (arith, ap length (suffix_datatype d e f), angles_length d)

-- a language tag
pub length_tag : (d : List ℕ) → false ≡ same_row d xsd_string → false ≡ one_of d 58 → length d + 1 ≡ length (suffix_text d)
length_tag d e f = omega (arith, ap length (suffix_tag d e f))

-- four more bytes at most
pub suffix_few : (d : List ℕ) → length (suffix_text d) ≤ length d + 4
unfolding suffix_text
suffix_few d =
    if_ind (λ (l : List ℕ). length l ≤ length d + 4) (same_row d xsd_string) _ _ (λ _. omega arith) λ _.
    if_ind (λ (l : List ℕ). length l ≤ length d + 4) (one_of d 58) _ _ (λ _. omega (arith, angles_length d)) (λ _. omega arith)

-- and it is written
module _ (d page : List ℕ) (at : ℕ) (room : at + length (suffix_text d) ≤ length page) where
  pub put_plain : true ≡ same_row d xsd_string → Wrote page at (suffix_text d) page at
  put_plain e = rw (suffix_plain d e) (wrote_none page at)

  module _ (e : false ≡ same_row d xsd_string) (f : true ≡ one_of d 58) where
    pub datatype_room : at + 2 + length (in_angles d) ≤ length page
    datatype_room = omega (arith, ap length (suffix_datatype d e f))

    pub put_datatype : {new : List ℕ} {n : ℕ} → Wrote (set (set page at 94) (at + 1) 94) (at + 2) (in_angles d) new n
        → Wrote page at (suffix_text d) new n
    put_datatype w = rw (suffix_datatype d e f) (behind_two (omega (arith, datatype_room)) w)

  module _ (e : false ≡ same_row d xsd_string) (f : false ≡ one_of d 58) where
    pub tag_room : at + 1 + length d ≤ length page
    tag_room = omega (arith, ap length (suffix_tag d e f))

    pub put_tag : {new : List ℕ} {n : ℕ} → Wrote (set page at 64) (at + 1) d new n → Wrote page at (suffix_text d) new n
    put_tag w = rw (suffix_tag d e f) (behind_one (omega (arith, tag_room)) w)
