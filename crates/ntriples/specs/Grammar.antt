-- The productions of RDF 1.1 N-Triples, section 7, as parsers over a line's Unicode scalar values: from characters to the decoded text
-- and what follows it. UTF-8 is decoded before, over the whole line: where it fails, the line is bad whatever the grammar says of it.
-- Assumes nothing.
use Rattle.std.specs.Prelude.{Bool, true, ◌&&◌, ◌||◌, List, [], ◌∷◌, ◌++◌, ℕ, zero, suc, ◌+◌, ◌*◌, eqb}
use Rattle.std.proofs.Math.Option.{Option, some, none}
use Rattle.common.specs.Triples.{if}
use Rattle.common.specs.Text.{text}
use Rattle.dictionary_layout.specs.Terms.{Term, term}
use Rattle.ntriples.specs.Utf8.{scalar, Taken, taken, on, encode, decode}
use Rattle.ntriples.specs.Characters.{digit, pn_chars_u, pn_chars, iri_char, string_char, hex, echar, no_echar, iri, tag_char, tag}
use Rattle.ntriples.specs.Characters.{blank}

-- decoded characters, and what follows
pub record Token : Type 0 where
  pub chars : List ℕ
  pub rest : List ℕ

abbrev pub token : List ℕ → List ℕ → Token
token t r = record { chars = t; rest = r }

-- a character in front
abbrev pub before : ℕ → Token → Token
before c t = token (c ∷ t.chars) t.rest

abbrev pub push : ℕ → Token → Option Token
push c t = some (before c t)

-- the first that is there
abbrev pub or : {A : Type 0} → Option A → (Unit {0} → Option A) → Option A
or (some a) f = some a
or none f = f tt

abbrev pub when : {A : Type 0} → Bool → (Unit {0} → Option A) → Option A
when b f = if b f (λ _. none)

-- UCHAR after its letter: n hexadecimal digits that name a scalar value
unfoldable pub hexes : ℕ → ℕ → List ℕ → Option ℕ
hexes zero v cs = some v
hexes (suc n) v [] = none
hexes (suc n) v (c ∷ cs) = on (hex c) (λ d. hexes n (16 * v + d) cs)

unfoldable pub uchar : ℕ → List ℕ → Option Taken
uchar n cs = on (hexes n 0 cs) (λ v. when (scalar v) (λ _. some (taken v (suc n))))

-- an escape after its backslash, UCHAR or one of `letters`: its character, and how many it took
unfoldable pub escape : (ℕ → Option ℕ) → List ℕ → Option Taken
escape letters [] = none
escape letters (c ∷ cs) =
    if (eqb c 117) (λ _. uchar 4 cs) (λ _. if (eqb c 85) (λ _. uchar 8 cs) (λ _. on (letters c) (λ d. some (taken d 1))))

-- characters up to `stop`, raw ones and escapes, after k that belong to an escape read before
unfoldable pub quoted : ℕ → (ℕ → Bool) → (ℕ → Option ℕ) → ℕ → List ℕ → Option Token
quoted stop raw letters k [] = none
quoted stop raw letters zero (c ∷ cs) =
    if (eqb c stop) (λ _. some (token [] cs)) (λ _.
    if (eqb c 92)
    (λ _. on (escape letters cs) (λ t. on (quoted stop raw letters t.extra cs) (push t.value)))
    (λ _. when (raw c) (λ _. on (quoted stop raw letters zero cs) (push c))))
quoted stop raw letters (suc k) (c ∷ cs) = quoted stop raw letters k cs

-- IRIREF, its text decoded and tested
unfoldable pub iri_after : List ℕ → Option Token
iri_after cs = on (quoted 62 iri_char no_echar 0 cs) (λ t. when (iri t.chars) (λ _. some t))

unfoldable pub iriref : List ℕ → Option Token
iriref [] = none
iriref (c ∷ cs) = when (eqb c 60) (λ _. iri_after cs)

-- STRING_LITERAL_QUOTE
unfoldable pub string_literal_quote : List ℕ → Option Token
string_literal_quote [] = none
string_literal_quote (c ∷ cs) = when (eqb c 34) (λ _. quoted 34 string_char echar 0 cs)

-- BLANK_NODE_LABEL: a dot is the label's only where a PN_CHARS of it follows
abbrev pub dotted : ℕ → List ℕ → List ℕ → List ℕ → Token
dotted c cs [] r = token [] (c ∷ cs)
dotted c cs (d ∷ ds) r = token (c ∷ d ∷ ds) r

unfoldable pub label_rest : List ℕ → Token
label_rest [] = token [] []
label_rest (c ∷ cs) =
    if (pn_chars c) (λ _. before c (label_rest cs))
    (λ _. if (eqb c 46) (λ _. let t = label_rest cs in dotted c cs t.chars t.rest) (λ _. token [] (c ∷ cs)))

-- after '_:'
unfoldable pub label : List ℕ → Option Token
label [] = none
label (c ∷ cs) = when (pn_chars_u c || digit c) (λ _. push c (label_rest cs))

unfoldable pub blank_node_label : List ℕ → Option Token
blank_node_label [] = none
blank_node_label (a ∷ []) = none
blank_node_label (a ∷ b ∷ cs) = when (eqb a 95 && eqb b 58) (λ _. label cs)

-- LANGTAG after '@': all the characters that a tag can have, up to another, are one
unfoldable pub tag_run : List ℕ → Token
tag_run [] = token [] []
tag_run (c ∷ cs) = if (tag_char c) (λ _. before c (tag_run cs)) (λ _. token [] (c ∷ cs))

unfoldable pub langtag : List ℕ → Option Token
langtag cs = let t = tag_run cs in when (tag t.chars) (λ _. some t)

-- white space may stand between any two terminals
unfoldable pub ws : List ℕ → List ℕ
ws [] = []
ws (c ∷ cs) = if (blank c) (λ _. ws cs) (λ _. c ∷ cs)

-- TERMS. "A named node's bytes are its IRI, a blank node's its label without "_:". A literal's are its text, a zero byte, then language
-- tag as written or datatype; a plain one equals one typed xsd:string."
pub record Found : Type 0 where
  pub found : Term
  pub rest : List ℕ

abbrev pub as_term : ℕ → List ℕ → List ℕ → Option Found
as_term k cs r = some (record { found = term k (encode cs); rest = r })

unfoldable pub xsd_string : List ℕ
xsd_string = text "http://www.w3.org/2001/XMLSchema#string"

abbrev pub literal_chars : List ℕ → List ℕ → List ℕ
literal_chars t d = t ++ (0 ∷ d)

unfoldable pub named : List ℕ → Option Found
named cs = on (iriref cs) (λ t. as_term 1 t.chars t.rest)

unfoldable pub blank_node : List ℕ → Option Found
blank_node cs = on (blank_node_label cs) (λ t. as_term 2 t.chars t.rest)

-- the datatype after the first '^'
unfoldable pub typed : List ℕ → Option Token
typed [] = none
typed (c ∷ cs) = when (eqb c 94) (λ _. iriref (ws cs))

-- what may follow a literal's text: its datatype or language tag; xsd:string where neither is written
unfoldable pub suffix : List ℕ → Option Token
suffix [] = some (token xsd_string [])
suffix (c ∷ cs) =
    if (eqb c 94) (λ _. typed cs) (λ _. if (eqb c 64) (λ _. langtag cs) (λ _. some (token xsd_string (c ∷ cs))))

unfoldable pub literal : List ℕ → Option Found
literal cs =
    on (string_literal_quote cs) (λ t. on (suffix (ws t.rest)) (λ d. as_term 3 (literal_chars t.chars d.chars) d.rest))

unfoldable pub subject : List ℕ → Option Found
subject cs = or (named cs) (λ _. blank_node cs)

unfoldable pub object : List ℕ → Option Found
object cs = or (named cs) (λ _. or (blank_node cs) (λ _. literal cs))

-- A LINE: nothing, a triple, or bad
pub record Terms : Type 0 where
  pub s : Term
  pub p : Term
  pub o : Term

abbrev pub terms : Term → Term → Term → Terms
terms s p o = record { s = s; p = p; o = o }

pub data Line : Type 0 where
  nothing : Line
  says : Terms → Line
  bad : Line

-- nothing but a comment
unfoldable pub ended : List ℕ → Bool
ended [] = true
ended (c ∷ cs) = eqb c 35

unfoldable pub stopped : Terms → List ℕ → Line
stopped t [] = bad
stopped t (c ∷ cs) = if (eqb c 46 && ended (ws cs)) (λ _. says t) (λ _. bad)

abbrev pub on_line : {A : Type 0} → Option A → (A → Line) → Line
on_line (some a) f = f a
on_line none f = bad

unfoldable pub triple_line : List ℕ → Line
triple_line cs =
    on_line (subject cs) (λ s. on_line (named (ws s.rest)) (λ p. on_line (object (ws p.rest)) (λ o.
    stopped (terms s.found p.found o.found) (ws o.rest))))

unfoldable pub statement : List ℕ → Line
statement cs = if (ended cs) (λ _. nothing) (λ _. triple_line cs)

unfoldable pub line : List ℕ → Line
line bs = on_line (decode bs) (λ cs. statement (ws cs))
