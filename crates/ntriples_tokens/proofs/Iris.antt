-- The test of the bytes of an IRI, and IRIREF. Assumes nothing.
use mathlib.Core.Path.{◌≡◌, refl, sym, ap, ◌∙◌}
use mathlib.Core.Bool.{Bool, true, false, ◌&&◌, ◌||◌}
use mathlib.Core.Option.{Option, some, none}
use mathlib.Core.List.{List, [], ◌∷◌, ◌++◌}
use Prim.Native.Nat.{ℕ, ◌+◌}
use native.Mathlib.Omega.{arith}
use lib.Dec.{eqb}
use Rattle.std.proofs.lemmas.Bool.Decides.{nat_tests}
use Rattle.std.specs.List.{list_any, list_all}
use lib.ListN.{take, drop}
use Rattle.common.specs.Triples.{if}
use Rattle.std.specs.Prelude.{nat_eq, Some, None}
use Rattle.ntriples.specs.Utf8.{on, encode}
use Rattle.ntriples.specs.Characters.{one_of, all, iri_char, iri}
use Rattle.ntriples.specs.Grammar.{Token, when, iri_after, iriref}
use Rattle.ntriples.proofs.Tests.{no_some}
use Rattle.ntriples.proofs.Bytes.{iri_bytes}
use Rattle.ntriples_tokens.specs.Promises.{quoted_in, part, Output, output, behind, Room, Parses}
use Rattle.ntriples_tokens.specs.declared.values.Token.{Token as Ends}
use Rattle.ntriples_tokens.proofs.Parts.{part_behind}
use Rattle.ntriples_tokens.proofs.Tokens.{Opens, parses_none, parses_from}

-- a test of equal numbers, from either side
eqb_sym : (a b : ℕ) → eqb a b ≡ eqb b a
eqb_sym a b = grind (arith, nat_tests)

-- the tests of an IRI, in the words of std: a colon,
colons : (bs : List ℕ) → list_any (λ b. nat_eq b 58) bs ≡ one_of bs 58
unfolding one_of
colons [] = refl
colons (b ∷ bs) = rw (eqb_sym b 58, colons bs) (choice (eqb 58 b) (one_of bs 58))
  where
    choice : (x y : Bool) → (x || y) ≡ if x (λ _. true) (λ _. y)
    choice true y = refl
    choice false y = refl

-- and each byte may stand there
each : (bs : List ℕ) → list_all iri_char bs ≡ all iri_char bs
each [] = refl
each (b ∷ bs) = ap (λ (x : Bool). iri_char b && x) (each bs)

-- none of the first
pub iri_none : {x : Bool} (bs : List ℕ) → x ≡ list_any (λ b. nat_eq b 58) bs → x ≡ false → x ≡ iri bs
unfolding iri
iri_none bs e f = f ∙ rw (sym (colons bs), sym e, f) refl

-- or one
pub iri_some : {x r : Bool} (bs : List ℕ) → x ≡ list_any (λ b. nat_eq b 58) bs → x ≡ true → r ≡ list_all iri_char bs → r ≡ iri bs
unfolding iri
iri_some bs e f g = g ∙ rw (each bs, sym (colons bs), sym e, f) refl

-- IRIREF
pub iriref_opens : Opens iriref iri_after 60
unfolding iriref
iriref_opens = record { empty = refl; full = λ c cs. refl }

-- a token that was read, and its bytes
record Held (front : List ℕ) (o : Option Token) (bytes : List ℕ) : Type 0 where
  got : Token
  is : o ≡ some got
  whole : bytes ≡ front ++ encode got.chars

-- from the answer
held : (front : List ℕ) (o : Option Token) {b r : List ℕ} → some (output b r) ≡ behind front o → Held front o b
held front none e = no_some (sym e)
held front (some t) {b} {r} e =
    let x : output b r ≡ output (front ++ encode t.chars) t.rest = cc in
    record { got = t; is = refl; whole = ap (λ (y : Output). y.bytes) x }

-- none was read
behind_none : (front : List ℕ) (o : Option Token) → none ≡ behind front o → o ≡ none
behind_none front none e = refl
behind_none front (some t) e = no_some e

-- the test of a token that was read
abbrev if_iri : Token → Option Token
if_iri t = when (iri t.chars) (λ _. some t)

module _ {chars : List ℕ} {at : ℕ} {old : List ℕ} {used : ℕ} {new : List ℕ}
    (start : iriref (drop at chars) ≡ iri_after (drop (at + 1) chars)) where
  -- characters that do not end,
  pub iriref_bad : Parses 0 chars (at + 1) old used (quoted_in true (drop (at + 1) chars)) None new
      → Parses 0 chars at old used (iriref (drop at chars)) None new
  unfolding iri_after
  iriref_bad q =
      let o = quoted_in true (drop (at + 1) chars) in
      let e = behind_none (take used old) o q.output_is in
      parses_none (start ∙ ap (λ (p : Option Token). on p if_iri) e) q.same

  module _ {t : Ends} (q : Parses 0 chars (at + 1) old used (quoted_in true (drop (at + 1) chars)) (Some t) new)
      (r : Room 0 chars at old used) where
    -- the token
    token_of : Held (take used old) (quoted_in true (drop (at + 1) chars)) (take t.end new)
    token_of = held (take used old) (quoted_in true (drop (at + 1) chars)) q.output_is

    -- the bytes that are tested
    tested : iri (part new used t.end) ≡ iri token_of.got.chars
    tested =
        let k = token_of in
        let m = r.room in
        let l = q.same in
        let b = q.bounded in
        ap iri (part_behind old new (encode k.got.chars) used t.end b.2 (omega arith) (omega arith) k.whole)
        ∙ iri_bytes k.got.chars

    -- IRIREF by the outcome of the test
    result_is : (b : Bool) → b ≡ iri (part new used t.end) → iriref (drop at chars) ≡ when b (λ _. some token_of.got)
    unfolding iri_after
    result_is b e =
        let k = token_of in
        start
        ∙ (ap (λ (p : Option Token). on p if_iri) k.is
        ∙ ap (λ (x : Bool). when x (λ _. some k.got)) (sym (e ∙ tested)))

    -- an IRI,
    pub iriref_yes : true ≡ iri (part new used t.end) → Parses 0 chars at old used (iriref (drop at chars)) (Some t) new
    iriref_yes e = parses_from (omega arith) (result_is true e ∙ sym token_of.is) q

    -- and none
    pub iriref_no : false ≡ iri (part new used t.end) → Parses 0 chars at old used (iriref (drop at chars)) None new
    iriref_no e = parses_none (result_is false e) q.same
