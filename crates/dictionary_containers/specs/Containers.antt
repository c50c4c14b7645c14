-- Container properties: named nodes of the rdf namespace whose local name is `_` and ASCII digits, at least one, of value 1 to
-- 18446744073709551615. Leading zeros are digits. REFERENCE 4.2. Assumes nothing.
use Rattle.std.specs.Prelude.{Bool, true, false, ◌&&◌, List, [], ◌∷◌, ℕ, leb, eqb, length, drop}
use Rattle.common.specs.Triples.{if}
use Rattle.common.specs.Text.{text}
use Rattle.common.specs.Digits.{all_digits, value}
use Rattle.dictionary_layout.specs.Terms.{Term}
use Rattle.dictionary_layout.specs.Dictionary.{term_of}

-- the rdf namespace and the local name's `_`
abbrev pub prefix : List ℕ
prefix = text "http://www.w3.org/1999/02/22-rdf-syntax-ns#_"

unfoldable pub starts_with : List ℕ → List ℕ → Bool
starts_with [] bs = true
starts_with (a ∷ r) [] = false
starts_with (a ∷ r) (b ∷ bs) = if (eqb a b) (λ _. starts_with r bs) (λ _. false)

-- digits of a value in range; none have the value 0, which is not. ByDigits has the same test by cases on the digits
unfoldable pub is_number : List ℕ → Bool
is_number bs = all_digits bs && (leb 1 (value 0 bs) && leb (value 0 bs) 18446744073709551615)

-- the term of this kind and these bytes is a container property; kind 1 is a named node
unfoldable pub is_container_term : ℕ → List ℕ → Bool
is_container_term kind bytes = eqb kind 1 && (starts_with prefix bytes && is_number (drop (length prefix) bytes))

-- the term of this id is one, by a dictionary that holds ts
abbrev pub is_container : List Term → ℕ → Bool
is_container ts i = is_container_term (term_of ts i).kind (term_of ts i).bytes
