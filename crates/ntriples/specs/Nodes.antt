-- RDF terms, as RDF 1.1 Concepts has them, beside the kind and the bytes that a dictionary holds of them: "A named node's bytes are its
-- IRI, a blank node's its label without "_:". A literal's are its text, a zero byte, then language tag as written or datatype". A plain
-- literal is one typed xsd:string. proofs/Nodes.antt: what a line puts are the bytes of RDF terms, and no two RDF terms have the same.
-- Assumes nothing.
use Rattle.std.specs.Prelude.{◌≡◌, Bool, true, false, ◌&&◌, ◌||◌, List, [], ◌∷◌, ℕ, T}
use Rattle.std.proofs.Math.Option.{Option, some, none}
use Rattle.dictionary_layout.specs.Terms.{Term, term}
use Rattle.ntriples.specs.Utf8.{scalar, encode}
use Rattle.ntriples.specs.Characters.{all, iri, tag}
use Rattle.ntriples.specs.Grammar.{Token, label, literal_chars, Terms, terms}

-- in Unicode scalar values: an IRI; a label; a literal's text with its language tag or datatype
pub data Node : Type 0 where
  named_node : List ℕ → Node
  labelled : List ℕ → Node
  literal_of : List ℕ → List ℕ → Node

unfoldable pub term_of_node : Node → Term
term_of_node (named_node cs) = term 1 (encode cs)
term_of_node (labelled cs) = term 2 (encode cs)
term_of_node (literal_of t d) = term 3 (encode (literal_chars t d))

-- all of it is a label
abbrev pub empty : List ℕ → Bool
empty [] = true
empty (c ∷ cs) = false

abbrev pub whole : Option Token → Bool
whole none = false
whole (some t) = empty t.rest

-- the grammar's conditions: a datatype is an IRI; a tag has no colon, an IRI has one
unfoldable pub well_formed : Node → Bool
well_formed (named_node cs) = all scalar cs && iri cs
well_formed (labelled cs) = all scalar cs && whole (label cs)
well_formed (literal_of t d) = all scalar t && (all scalar d && (iri d || tag d))

-- which may be a subject, and which a predicate
abbrev pub no_literal : Node → Bool
no_literal (named_node cs) = true
no_literal (labelled cs) = true
no_literal (literal_of t d) = false

abbrev pub is_named : Node → Bool
is_named (named_node cs) = true
is_named (labelled cs) = false
is_named (literal_of t d) = false

-- A LINE'S THREE TERMS are those of RDF terms that may stand there
pub record Nodes (t : Terms) : Type 0 where
  pub s : Node
  pub p : Node
  pub o : Node
  pub s_good : T (well_formed s && no_literal s)
  pub p_good : T (well_formed p && is_named p)
  pub o_good : T (well_formed o)
  pub same : terms (term_of_node s) (term_of_node p) (term_of_node o) ≡ t
