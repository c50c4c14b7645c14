-- What the functions that read tokens promise. A token's characters go, in UTF-8, behind the bytes that `out` has already. Assumes nothing.
use Rattle.std.specs.Prelude.{◌≡◌, Bool, true, false, List, ◌++◌, ℕ, ◌+◌, ◌-◌, ◌*◌, ◌≤◌, ◌<◌, eqb, length, get_or, take, drop}
use Rattle.std.specs.Prelude.{Option as Maybe, Some, None}
use Rattle.std.proofs.Math.Option.{Option, some, none}
use Rattle.common.specs.Triples.{if}
use Rattle.ntriples.specs.Utf8.{Taken, taken, encode}
use Rattle.ntriples.specs.Characters.{iri_char, string_char, echar, no_echar}
use Rattle.ntriples.specs.Grammar.{Token, when, escape, quoted, label_rest, tag_run, ws}
use Rattle.ntriples_utf8.specs.Promises.{top}
use Rattle.ntriples_tokens.specs.declared.values.Token.{Token as Ends}

-- a number, none where there is none
abbrev pub number_of : Maybe ℕ → Option ℕ
number_of (Some v) = some v
number_of None = none

-- IRIREF (true) or STRING_LITERAL_QUOTE (false), after the character that opens it: the one that ends it, raw ones, letters of escapes
abbrev pub stop : Bool → ℕ
stop true = 62
stop false = 34

abbrev pub raw : Bool → ℕ → Bool
raw true = iri_char
raw false = string_char

abbrev pub letters : Bool → ℕ → Option ℕ
letters true = no_echar
letters false = echar

-- a character of it, raw or escaped, at the front of c ∷ cs
abbrev pub character : Bool → ℕ → List ℕ → Option Taken
character b c cs = if (eqb c 92) (λ _. escape (letters b) cs) (λ _. when (raw b c) (λ _. some (taken c 0)))

abbrev pub quoted_in : Bool → List ℕ → Option Token
quoted_in b = quoted (stop b) (raw b) (letters b) 0

-- scalar values from place `at` up to place `end`
abbrev pub part : List ℕ → ℕ → ℕ → List ℕ
part cs at end = take (end - at) (drop at cs)

-- bytes written, and the characters that are left
pub record Output : Type 0 where
  pub bytes : List ℕ
  pub rest : List ℕ

abbrev pub output : List ℕ → List ℕ → Output
output b r = record { bytes = b; rest = r }

-- a token with its bytes behind others
abbrev pub behind : List ℕ → Option Token → Option Output
behind front none = none
behind front (some t) = some (output (front ++ encode t.chars) t.rest)

-- the answer of a function that reads a token
abbrev pub output_of : Maybe Ends → List ℕ → List ℕ → Option Output
output_of (Some t) chars out = some (output (take t.end out) (drop t.next chars))
output_of None chars out = none

-- what is needed to read a token: scalar values, and room for four bytes for each that is left, and for `more`
pub record Room (more : ℕ) (chars : List ℕ) (at : ℕ) (out : List ℕ) (used : ℕ) : Type 0 where
  pub within : at ≤ length chars
  pub scalars : (i : ℕ) → i < length chars → get_or chars i 0 ≤ top
  pub room : used + 4 * (length chars - at) + more ≤ length out

-- where a token ends: within the characters, having written at most four bytes for each character read, and `more`
abbrev pub Bounded : ℕ → List ℕ → ℕ → ℕ → Maybe Ends → Type 0
Bounded more chars at used (Some t) =
    (at ≤ t.next) × (t.next ≤ length chars) × (used ≤ t.end) × (t.end + 4 * at ≤ used + 4 * t.next + more)
Bounded more chars at used None = Unit {0}

-- A TOKEN READ from place `at` on: o, with its bytes behind the first `used` of the buffer
pub record Parses (more : ℕ) (chars : List ℕ) (at : ℕ) (old : List ℕ) (used : ℕ) (o : Option Token) (r : Maybe Ends) (new : List ℕ) : Type 0
  where
    pub output_is : output_of r chars new ≡ behind (take used old) o
    pub bounded : Bounded more chars at used r
    pub same : length new ≡ length old

-- the rest of a label ends at `end`
pub record LabelEnds (chars : List ℕ) (at end : ℕ) : Type 0 where
  pub chars_are : (label_rest (drop at chars)).chars ≡ part chars at end
  pub rest_is : (label_rest (drop at chars)).rest ≡ drop end chars
  pub after : at ≤ end
  pub within : end ≤ length chars

-- the characters that a tag may have end at `end`
pub record TagEnds (chars : List ℕ) (at end : ℕ) : Type 0 where
  pub chars_are : (tag_run (drop at chars)).chars ≡ part chars at end
  pub rest_is : (tag_run (drop at chars)).rest ≡ drop end chars
  pub after : at ≤ end
  pub within : end ≤ length chars

-- white space ends at `end`
pub record SpaceEnds (chars : List ℕ) (at end : ℕ) : Type 0 where
  pub rest_is : ws (drop at chars) ≡ drop end chars
  pub after : at ≤ end
  pub within : end ≤ length chars
