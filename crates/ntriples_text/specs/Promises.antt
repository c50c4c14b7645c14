-- What the functions that measure and write a term's text promise. Assumes nothing.
use Rattle.std.specs.Prelude.{◌≡◌, Bool, ◌||◌, List, [], ◌∷◌, ◌++◌, ℕ, suc, ◌+◌, ◌≤◌, ◌<◌, length, take, drop, Option as Maybe, Some, None}
use Rattle.std.proofs.Math.Option.{Option, some, none}
use Rattle.common.specs.Sizes.{term_limit}
use Rattle.dictionary_layout.specs.Terms.{Term}
use Rattle.ntriples.specs.Utf8.{decode}
use Rattle.ntriples.specs.Characters.{iri, tag}
use Rattle.ntriples.specs.Grammar.{token}
use Rattle.ntriples_canonical.specs.Writing.{last_zero, term_text}

-- a text, empty where there is none
abbrev pub or_nothing : Option (List ℕ) → List ℕ
or_nothing none = []
or_nothing (some l) = l

-- the length of a text, none where there is none
abbrev pub text_size : Option (List ℕ) → Maybe ℕ
text_size none = None
text_size (some l) = Some (length l)

-- the length of a term's text; 0 where it has none, for no text is empty
abbrev pub text_length : Term → ℕ
text_length t = length (or_nothing (term_text t))

-- bytes of a term that is not too long, and room for its characters
pub record Measurable (bytes chars : List ℕ) : Type 0 where
  pub short : length bytes ≤ term_limit
  pub room : term_limit ≤ length chars

-- the text x has room from place `at` on
pub record TextFits (o : Option (List ℕ)) (at : ℕ) (page : List ℕ) : Type 0 where
  pub text : List ℕ
  pub is : o ≡ some text
  pub room : at + length text ≤ length page

-- an IRI in angle brackets
abbrev pub in_angles : List ℕ → List ℕ
in_angles bs = 60 ∷ (bs ++ (62 ∷ []))

-- the place of the last zero, none where there is none
pub data LastZero (bytes : List ℕ) : Maybe ℕ → Type 0 where
  no_zero : last_zero bytes ≡ none → LastZero bytes None
  zero_at : (z : ℕ) → z < length bytes → last_zero bytes ≡ some (token (take z bytes) (drop (suc z) bytes)) → LastZero bytes (Some z)

-- a datatype or a language tag
abbrev pub is_suffix : List ℕ → Bool
is_suffix d = iri d || tag d

-- the text of one character, by the letter of its escape
abbrev pub escape_by : Maybe ℕ → ℕ → List ℕ
escape_by None c = c ∷ []
escape_by (Some e) c = 92 ∷ e ∷ []

-- the bytes of a term that is not too long, and are UTF-8
pub record Utf8Short (bytes : List ℕ) : Type 0 where
  pub chars : List ℕ
  pub decodes : decode bytes ≡ some chars
  pub short : length bytes ≤ term_limit
