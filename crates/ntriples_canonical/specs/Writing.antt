-- Triples written in canonical N-Triples: RDF 1.1 N-Triples, section 4, and request e: "in the store's order, each line ended by one line
-- feed. An xsd:string literal is written plain. A triple with a literal subject, a predicate that is no named node, or a term that reading
-- could never have put is left out and counted." REFERENCE 3.7. Assumes nothing.
use Rattle.std.specs.Prelude.{Bool, ◌&&◌, not, List, [], ◌∷◌, ◌++◌, ℕ, suc, eqb}
use Rattle.std.proofs.Math.Option.{Option, some, none}
use Rattle.common.specs.Triples.{Triple, if}
use Rattle.dictionary_layout.specs.Terms.{Term}
use Rattle.dictionary_layout.specs.Dictionary.{same_row, term_of}
use Rattle.ntriples.specs.Utf8.{on, decode, encode}
use Rattle.ntriples.specs.Characters.{one_of}
use Rattle.ntriples.specs.Grammar.{Token, token, push, or, when, xsd_string, Terms, terms}
use Rattle.ntriples.specs.Nodes.{Node, named_node, labelled, literal_of, well_formed}

-- WHICH RDF TERM A KIND AND BYTES ARE
-- split at the last zero: a literal's text, and its language tag or datatype
unfoldable pub last_zero : List ℕ → Option Token
last_zero [] = none
last_zero (c ∷ cs) = or (on (last_zero cs) (push c)) (λ _. when (eqb c 0) (λ _. some (token [] cs)))

abbrev pub as_literal : Token → Option Node
as_literal t = some (literal_of t.chars t.rest)

abbrev pub node_by : ℕ → List ℕ → Option Node
node_by k cs =
    if (eqb k 1) (λ _. some (named_node cs)) (λ _.
    if (eqb k 2) (λ _. some (labelled cs)) (λ _.
    when (eqb k 3) (λ _. on (last_zero cs) as_literal)))

-- where it meets the grammar's conditions
abbrev pub if_good : Node → Option Node
if_good n = when (well_formed n) (λ _. some n)

-- none for a term that reading could never have put: UTF-8 fails, or no line has such an IRI, such a label, such a literal
unfoldable pub node_of : Term → Option Node
node_of t = on (decode t.bytes) (λ cs. on (node_by t.kind cs) if_good)

-- CANONICAL TEXT, in Unicode scalar values
-- ECHAR for " \ LF CR alone, and UCHAR for none
unfoldable pub escaped : ℕ → List ℕ
escaped c =
    if (eqb c 34) (λ _. 92 ∷ 34 ∷ []) (λ _. if (eqb c 92) (λ _. 92 ∷ 92 ∷ []) (λ _.
    if (eqb c 10) (λ _. 92 ∷ 110 ∷ []) (λ _. if (eqb c 13) (λ _. 92 ∷ 114 ∷ []) (λ _. c ∷ []))))

unfoldable pub escape_all : List ℕ → List ℕ
escape_all [] = []
escape_all (c ∷ cs) = escaped c ++ escape_all cs

-- what follows a literal's text: a colon tells a datatype from a language tag
unfoldable pub suffix_text : List ℕ → List ℕ
suffix_text d =
    if (same_row d xsd_string) (λ _. []) (λ _. if (one_of d 58) (λ _. 94 ∷ 94 ∷ 60 ∷ (d ++ (62 ∷ []))) (λ _. 64 ∷ d))

unfoldable pub literal_text : List ℕ → List ℕ → List ℕ
literal_text t d = 34 ∷ (escape_all t ++ (34 ∷ suffix_text d))

unfoldable pub node_text : Node → List ℕ
node_text (named_node cs) = 60 ∷ (cs ++ (62 ∷ []))
node_text (labelled cs) = 95 ∷ 58 ∷ cs
node_text (literal_of t d) = literal_text t d

-- A TERM'S TEXT in bytes, none where it has none
unfoldable pub term_text : Term → Option (List ℕ)
term_text t = on (node_of t) (λ n. some (encode (node_text n)))

-- A LINE without its end, none for a triple that is left out: one space after each term
abbrev pub may_stand : Terms → Bool
may_stand t = not (eqb t.s.kind 3) && eqb t.p.kind 1

abbrev pub spaced : List ℕ → List ℕ → List ℕ → List ℕ
spaced s p o = s ++ (32 ∷ (p ++ (32 ∷ (o ++ (32 ∷ 46 ∷ [])))))

unfoldable pub line_text : Terms → Option (List ℕ)
line_text t =
    when (may_stand t) (λ _.
    on (term_text t.s) (λ s. on (term_text t.p) (λ p. on (term_text t.o) (λ o. some (spaced s p o)))))

-- ALL LINES, each ended by one line feed; the triples that they say; and how many are left out
abbrev pub ended_line : Option (List ℕ) → List ℕ
ended_line none = []
ended_line (some l) = l ++ (10 ∷ [])

unfoldable pub text_of : List Terms → List ℕ
text_of [] = []
text_of (t ∷ ts) = ended_line (line_text t) ++ text_of ts

abbrev pub with_line : Option (List ℕ) → Terms → List Terms → List Terms
with_line none t ts = ts
with_line (some l) t ts = t ∷ ts

unfoldable pub written : List Terms → List Terms
written [] = []
written (t ∷ ts) = with_line (line_text t) t (written ts)

abbrev pub one_more : Option (List ℕ) → ℕ → ℕ
one_more none n = suc n
one_more (some l) n = n

unfoldable pub left_out : List Terms → ℕ
left_out [] = 0
left_out (t ∷ ts) = one_more (line_text t) (left_out ts)

-- triples of ids, as terms
unfoldable pub as_terms : List Term → List Triple → List Terms
as_terms ts [] = []
as_terms ts (x ∷ xs) = terms (term_of ts x.s) (term_of ts x.p) (term_of ts x.o) ∷ as_terms ts xs
