-- Terms by the character at their first place, and what follows a literal's text. Assumes nothing.
use mathlib.Core.Path.{◌≡◌, refl, ap, ◌∙◌}
use mathlib.Core.Option.{Option, some, none}
use mathlib.Core.List.{List, [], ◌∷◌, ◌++◌, append_assoc}
use Prim.Native.Nat.{ℕ, ◌+◌, ◌≤◌, ◌<◌}
use native.Mathlib.Numerals.{add-one}
use native.Mathlib.Omega.{arith}
use lib.ListN.{length, get_or, take, drop, set, length-set, drop_of_length-le}
use lib.Seq.{drop-cons, paste, take-paste, length-paste, take-suc-set}
use borrow.Author.Tests.{eq-eqb, ne_eqb}
use Rattle.ntriples.specs.Utf8.{encode_one, encode}
use Rattle.ntriples.specs.Grammar.{Token, token, or, literal_chars, xsd_string, ws, iriref, blank_node_label, string_literal_quote}
use Rattle.ntriples.specs.Grammar.{langtag, typed, suffix, named, blank_node, literal, subject, object}
use Rattle.ntriples.proofs.Utf8.{encode_append}
use Rattle.ntriples_tokens.specs.Promises.{Parses, SpaceEnds}
use Rattle.std.specs.Prelude.{Option as Maybe, Some}
use Rattle.ntriples_tokens.specs.declared.values.Token.{Token as Ends}
use Rattle.ntriples_lines.specs.Promises.{xsd_width, plain_width, as_found, Finds}
use Rattle.ntriples_lines.specs.declared.terms.FoundTerm.{FoundTerm}
use Rattle.ntriples_lines.proofs.Answers.{GotToken, found}

-- nothing is left at the end
pub at_end : (chars : List ℕ) (at : ℕ) → length chars ≤ at → drop at chars ≡ []
at_end chars at h = drop_of_length-le chars h

-- before it there is a character, and what follows it
pub at_char : (chars : List ℕ) (at : ℕ) → at < length chars → drop at chars ≡ get_or chars at 0 ∷ drop (at + 1) chars
at_char chars at h = drop-cons chars at 0 h ∙ rw (← add-one at) refl

-- THE FIRST CHARACTER: a named node begins with '<',
named_none : (c : ℕ) (cs : List ℕ) → (c ≡ 60 → ⊥) → named (c ∷ cs) ≡ none
unfolding named iriref
named_none c cs n = rw (ne_eqb c 60 n) refl

-- a blank node with '_',
blank_none : (c : ℕ) (cs : List ℕ) → (c ≡ 95 → ⊥) → blank_node (c ∷ cs) ≡ none
unfolding blank_node blank_node_label
blank_none c [] n = refl
blank_none c (b ∷ cs) n = rw (ne_eqb c 95 n) refl

-- a literal with '"'
literal_none : (c : ℕ) (cs : List ℕ) → (c ≡ 34 → ⊥) → literal (c ∷ cs) ≡ none
unfolding literal string_literal_quote
literal_none c cs n = rw (ne_eqb c 34 n) refl

-- one that is there, or else nothing
or_none : {A : Type 0} (o : Option A) → or o (λ _. none) ≡ o
or_none (some a) = refl
or_none none = refl

module _ (chars : List ℕ) (at : ℕ) (h : length chars ≤ at) where
  -- WHERE NOTHING IS LEFT there is no datatype,
  pub typed_end : typed (drop at chars) ≡ none
  unfolding typed
  typed_end = rw (at_end chars at h) refl

  -- no subject,
  pub subject_end : subject (drop at chars) ≡ none
  unfolding subject named iriref blank_node blank_node_label
  subject_end = rw (at_end chars at h) refl

  -- no object,
  pub object_end : object (drop at chars) ≡ none
  unfolding object named iriref blank_node blank_node_label literal string_literal_quote
  object_end = rw (at_end chars at h) refl

  -- and a literal is a plain one
  pub suffix_end : suffix (drop at chars) ≡ some (token xsd_string (drop at chars))
  unfolding suffix
  suffix_end = rw (at_end chars at h) refl

module _ (chars : List ℕ) (at : ℕ) (h : at < length chars) where
  -- BY THE CHARACTER at a place: a second '^' is missing,
  pub typed_other : (get_or chars at 0 ≡ 94 → ⊥) → typed (drop at chars) ≡ none
  unfolding typed
  typed_other n = rw (at_char chars at h, ne_eqb (get_or chars at 0) 94 n) refl

  -- or it is there, and an IRI follows
  pub typed_iri : {next : ℕ} → get_or chars at 0 ≡ 94 → SpaceEnds chars (at + 1) next → typed (drop at chars) ≡ iriref (drop next chars)
  unfolding typed
  typed_iri e s = rw (at_char chars at h, eq-eqb (get_or chars at 0) 94 e, s.rest_is) refl

  -- after a literal's text: the first '^',
  pub suffix_typed : get_or chars at 0 ≡ 94 → suffix (drop at chars) ≡ typed (drop (at + 1) chars)
  unfolding suffix
  suffix_typed e = rw (at_char chars at h, eq-eqb (get_or chars at 0) 94 e) refl

  -- '@',
  pub suffix_tag : get_or chars at 0 ≡ 64 → suffix (drop at chars) ≡ langtag (drop (at + 1) chars)
  unfolding suffix
  suffix_tag e = rw (at_char chars at h, e) refl

  -- or another character
  pub suffix_plain : (get_or chars at 0 ≡ 94 → ⊥) → (get_or chars at 0 ≡ 64 → ⊥)
      → suffix (drop at chars) ≡ some (token xsd_string (drop at chars))
  unfolding suffix
  suffix_plain m n = rw (at_char chars at h, ne_eqb (get_or chars at 0) 94 m, ne_eqb (get_or chars at 0) 64 n) refl

  -- a subject that begins with '<' is a named node
  pub subject_named : get_or chars at 0 ≡ 60 → subject (drop at chars) ≡ named (drop at chars)
  unfolding subject
  subject_named e =
      let b : blank_node (drop at chars) ≡ none = rw (at_char chars at h) (blank_none (get_or chars at 0) _ (λ f. omega arith)) in
      ap (λ x. or (named (drop at chars)) (λ _. x)) b ∙ or_none (named (drop at chars))

  -- and any other a blank node
  pub subject_blank : (get_or chars at 0 ≡ 60 → ⊥) → subject (drop at chars) ≡ blank_node (drop at chars)
  unfolding subject
  subject_blank n =
      let b : named (drop at chars) ≡ none = rw (at_char chars at h) (named_none (get_or chars at 0) _ n) in
      ap (λ x. or x (λ _. blank_node (drop at chars))) b

  -- an object that begins with '"' is a literal
  pub object_literal : get_or chars at 0 ≡ 34 → object (drop at chars) ≡ literal (drop at chars)
  unfolding object
  object_literal e =
      let a : named (drop at chars) ≡ none = rw (at_char chars at h) (named_none (get_or chars at 0) _ (λ f. omega arith)) in
      let b : blank_node (drop at chars) ≡ none = rw (at_char chars at h) (blank_none (get_or chars at 0) _ (λ f. omega arith)) in
      rw (a, b) refl

  -- and any other is what may be a subject
  pub object_subject : (get_or chars at 0 ≡ 34 → ⊥) → object (drop at chars) ≡ subject (drop at chars)
  unfolding object subject
  object_subject n =
      let b : literal (drop at chars) ≡ none = rw (at_char chars at h) (literal_none (get_or chars at 0) _ n) in
      ap (λ x. or (named (drop at chars)) (λ _. x))
      (ap (λ x. or (blank_node (drop at chars)) (λ _. x)) b ∙ or_none (blank_node (drop at chars)))

-- xsd:string has only ASCII characters,
encode_plain : encode xsd_string ≡ take xsd_width xsd_string
unfolding xsd_string encode encode_one
encode_plain = refl

-- so many
plain_long : xsd_width ≤ length xsd_string
unfolding xsd_string
plain_long = omega arith

-- A PLAIN LITERAL'S DATATYPE, written
pub plain : {chars : List ℕ} {at : ℕ} {old : List ℕ} {used : ℕ} {new : List ℕ} → at ≤ length chars → used + xsd_width ≤ length old
    → suffix (drop at chars) ≡ some (token xsd_string (drop at chars)) → new ≡ paste old used xsd_string xsd_width
    → Parses xsd_width chars at old used (suffix (drop at chars)) (Some (record { next = at; end = used + xsd_width })) new
plain {chars} {at} {old} {used} {new} h f e w =
    let l = plain_long in record {
      output_is = rw (e, w, encode_plain, take-paste old used xsd_string xsd_width (omega arith) l) refl;
      bounded = (omega arith, omega arith, omega arith, omega arith);
      same = ap length w ∙ length-paste old used xsd_string xsd_width f l;
    }

-- A LITERAL: its text's bytes, a zero byte, then those of its tag or datatype
encode_literal : (t d : List ℕ) → encode (literal_chars t d) ≡ encode t ++ (0 ∷ encode d)
unfolding encode encode_one
encode_literal t d = encode_append t (0 ∷ d)

-- no literal without its text
pub literal_bad : (cs : List ℕ) → string_literal_quote cs ≡ none → literal cs ≡ none
unfolding literal
literal_bad cs e = rw e refl

module _ {chars : List ℕ} {at : ℕ} {old : List ℕ} {used : ℕ} {text : Ends} {mid : List ℕ} {next : ℕ} {r : Maybe Ends} {new : List ℕ}
    (g : GotToken chars at old used (string_literal_quote (drop at chars)) text mid) (s : SpaceEnds chars text.next next)
    (h : text.end < length mid)
    (p : Parses xsd_width chars next (set mid text.end 0) (text.end + 1) (suffix (drop next chars)) r new) where
  -- the bytes before those of the tag or datatype
  literal_front : (t : Token) → take (text.end + 1) (set mid text.end 0) ++ encode t.chars
      ≡ take used old ++ encode (literal_chars g.got.chars t.chars)
  literal_front t =
      rw (add-one text.end, take-suc-set mid text.end 0 h, g.front, encode_literal g.got.chars t.chars, append_assoc, append_assoc) refl

  -- the whole literal
  pub literal_found : {q : Maybe FoundTerm} → q ≡ as_found 3 r
      → Finds plain_width chars at old used (literal (drop at chars)) q new
  unfolding literal
  literal_found i =
      let e : ws g.got.rest ≡ drop next chars = ap ws g.rest ∙ s.rest_is in
      let b = g.bounded in
      let a = s.after in
      rw (g.is, e) (found 3 (λ t. literal_chars g.got.chars t.chars) literal_front (omega arith) (omega arith) (omega arith)
      (length-set mid text.end 0 ∙ g.same) p i)
