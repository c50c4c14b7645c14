-- Triples with what is written of them, triples left out, and calls with what they give, written by hand: the points that request e
-- decides. proofs/Cases.antt proves the tables by one theorem over the definitions. Assumes nothing.
use Rattle.std.specs.Prelude.{◌≡◌, List, [], ◌∷◌, ◌++◌, map, ℕ, replicate}
use Rattle.std.proofs.Math.Option.{Option, some, none}
use Prim.Native.String.{String}
use Rattle.common.specs.Text.{text}
use Rattle.dictionary_layout.specs.Terms.{Term, term, start_terms, run_terms}
use Rattle.ntriples.specs.Grammar.{Terms, terms}
use Rattle.ntriples.specs.Cases.{node, bnode, lit, plain}
use Rattle.ntriples_canonical.specs.Writing.{term_text, line_text}
use Rattle.ntriples_canonical.specs.Calls.{WriteAnswer, write_answer, abstract_write}

-- a triple with its line
pub record Case : Type 0 where
  pub given : Terms
  pub line : List ℕ

abbrev pub bytes : Terms → List ℕ → Case
bytes t l = record { given = t; line = l }

abbrev pub writes : Terms → String → Case
writes t s = bytes t (text s)

-- a triple by its object
abbrev pub of : Term → Terms
of o = terms (node "a:s") (node "a:p") o

-- a call with what it gives: the terms held, the store's numbers, the triple count and the lent bytes
pub record Call : Type 0 where
  pub held : List Term
  pub store : List ℕ
  pub count : ℕ
  pub page : List ℕ
  pub gives : WriteAnswer

abbrev pub call : List Term → List ℕ → ℕ → List ℕ → WriteAnswer → Call
call ts s n p a = record { held = ts; store = s; count = n; page = p; gives = a }

-- named and blank nodes; the first id's term is written as any other
abbrev pub nodes : List Case
nodes =
    writes (of (node "a:o")) "<a:s> <a:p> <a:o> ." ∷
    writes (terms (bnode "b.1") (node "urn:_") (bnode ":c")) "_:b.1 <urn:_> _::c ." ∷
    -- raw above ASCII
    bytes (of (term 1 (97 ∷ 58 ∷ 0xC3 ∷ 0xA9 ∷ []))) (text "<a:s> <a:p> <a:" ++ (0xC3 ∷ 0xA9 ∷ text "> .")) ∷
    []

-- a literal's text: four characters are escaped; a tab, a zero byte and what is above ASCII are raw
abbrev pub texts : List Case
texts =
    writes (of (plain (34 ∷ 92 ∷ 10 ∷ 13 ∷ 9 ∷ []))) "<a:s> <a:p> \"\\\"\\\\\\n\\r\t\" ." ∷
    bytes (of (plain (0 ∷ 127 ∷ []))) (text "<a:s> <a:p> \"" ++ (0 ∷ 127 ∷ text "\" .")) ∷
    bytes (of (plain (0xE2 ∷ 0x82 ∷ 0xAC ∷ []))) (text "<a:s> <a:p> \"" ++ (0xE2 ∷ 0x82 ∷ 0xAC ∷ text "\" .")) ∷
    writes (of (plain [])) "<a:s> <a:p> \"\" ." ∷
    []

-- and what follows it: xsd:string is not written, a tag is as held, a colon tells a datatype; bytes are split at the last zero byte
abbrev pub suffixes : List Case
suffixes =
    writes (of (lit (text "x") "http://www.w3.org/2001/XMLSchema#string")) "<a:s> <a:p> \"x\" ." ∷
    writes (of (lit (text "x") "http://www.w3.org/2001/XMLSchema#strin")) "<a:s> <a:p> \"x\"^^<http://www.w3.org/2001/XMLSchema#strin> ." ∷
    writes (of (lit (text "x") "a:d")) "<a:s> <a:p> \"x\"^^<a:d> ." ∷
    writes (of (lit (text "x") "EN-gb")) "<a:s> <a:p> \"x\"@EN-gb ." ∷
    writes (of (lit (text "x") "urn")) "<a:s> <a:p> \"x\"@urn ." ∷
    bytes (of (lit (120 ∷ 0 ∷ text "a:d") "urn")) (text "<a:s> <a:p> \"x" ++ (0 ∷ text "a:d\"@urn .")) ∷
    []

-- LEFT OUT: a literal subject, a predicate that is no named node,
abbrev pub places : List Terms
places =
    terms (plain []) (node "a:p") (node "a:o") ∷
    terms (node "a:s") (bnode "b") (node "a:o") ∷
    terms (node "a:s") (plain []) (node "a:o") ∷
    []

-- and a term that no line gives, in each of the places
abbrev pub unread : List Terms
unread =
    terms (node "s") (node "a:p") (node "a:o") ∷
    terms (node "a:s") (node "a: p") (node "a:o") ∷
    of (node "a:<") ∷
    of (bnode "") ∷
    of (bnode "b.") ∷
    of (bnode "-b") ∷
    of (term 3 (text "x")) ∷
    of (lit (text "x") "") ∷
    of (lit (text "x") "e n") ∷
    of (lit (text "x") "en-") ∷
    of (lit (text "x") "a:>") ∷
    of (term 1 (97 ∷ 58 ∷ 0xC3 ∷ [])) ∷
    of (plain (0xC0 ∷ 0x80 ∷ [])) ∷
    of (term 0 (text "a:o")) ∷
    of (term 4 (text "a:o")) ∷
    []

-- CALLS, over three terms and two rows, of which the second has a literal subject
abbrev pub three : List Term
three = node "urn:_" ∷ node "a:p" ∷ lit (text "x") "en" ∷ []

abbrev pub rows : List ℕ
rows = 0 ∷ 1 ∷ 2 ∷ 7 ∷ 8 ∷ 2 ∷ 1 ∷ 0 ∷ 7 ∷ 8 ∷ []

abbrev pub first_line : List ℕ
first_line = text "<urn:_> <a:p> \"x\"@en .\n"

-- the counted rows alone are read; 4 before 6; 15 where one byte is missing
abbrev pub calls : List Call
calls =
    call three rows 2 (replicate 25 7) (write_answer 0 23 1 (first_line ++ (0 ∷ 0 ∷ []))) ∷
    call three rows 1 (replicate 23 7) (write_answer 0 23 0 first_line) ∷
    call three rows 1 (replicate 22 7) (write_answer 15 0 0 (replicate 22 0)) ∷
    call three rows 0 (7 ∷ []) (write_answer 0 0 0 (0 ∷ [])) ∷
    call three rows 3 (7 ∷ []) (write_answer 4 0 0 (7 ∷ [])) ∷
    call [] (0 ∷ rows) 1 (7 ∷ []) (write_answer 4 0 0 (7 ∷ [])) ∷
    call [] rows 3 (7 ∷ []) (write_answer 4 0 0 (7 ∷ [])) ∷
    call (node "urn:_" ∷ node "a:p" ∷ []) rows 1 (7 ∷ []) (write_answer 6 0 0 (7 ∷ [])) ∷
    call (node "urn:_" ∷ node "a:p" ∷ []) (0 ∷ 1 ∷ 0 ∷ 7 ∷ 8 ∷ rows) 1 (replicate 24 7)
    (write_answer 0 24 0 (text "<urn:_> <a:p> <urn:_> .\n")) ∷
    []

-- a named node's text where its bytes are ASCII
abbrev pub between : Term → Option (List ℕ)
between t = some (60 ∷ (t.bytes ++ (62 ∷ [])))

-- EACH IS AS THE DEFINITIONS HAVE IT; what a start and a run put is written
abbrev pub LinesHold : List Case → Type 0
LinesHold cs = map (λ c. line_text c.given) cs ≡ map (λ c. some c.line) cs

abbrev pub LeftOut : List Terms → Type 0
LeftOut ts = map line_text ts ≡ map (λ _. none) ts

abbrev pub CallsHold : List Call → Type 0
CallsHold cs = map (λ c. abstract_write c.held c.store c.count c.page) cs ≡ map (λ c. c.gives) cs

abbrev pub OwnTerms : Type 0
OwnTerms = map term_text (start_terms ++ run_terms) ≡ map between (start_terms ++ run_terms)

abbrev pub AllHold : Type 0
AllHold =
    LinesHold nodes × LinesHold texts × LinesHold suffixes × LeftOut places × LeftOut unread × CallsHold calls × OwnTerms
