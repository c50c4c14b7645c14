-- Exactly the triples that some line says have a line, and exactly the terms that some line gives have a text. Assumes nothing.
use mathlib.Core.Path.{◌≡◌, refl, sym, ◌∙◌, ap}
use mathlib.Core.Option.{some}
use mathlib.Core.List.{List, [], ◌∷◌}
use Prim.Native.Nat.{ℕ}
use lib.Dec.{T}
use Rattle.common.specs.Triples.{In, here, there}
use Rattle.common.proofs.Lists.{and→}
use Rattle.dictionary_layout.specs.Terms.{Term}
use Rattle.ntriples.specs.Utf8.{encode}
use Rattle.ntriples.specs.Characters.{one_of, iri_char, iri}
use Rattle.ntriples.specs.Grammar.{Terms, terms}
use Rattle.ntriples.specs.Reading.{in_order}
use Rattle.ntriples.specs.Nodes.{Node, named_node, term_of_node, well_formed, no_literal, is_named, Nodes}
use Rattle.ntriples.proofs.Nodes.{line_nodes}
use Rattle.ntriples_canonical.specs.Writing.{node_text, term_text, line_text}
use Rattle.ntriples_canonical.specs.RoundTrip.{Said, Given}
use Rattle.ntriples_canonical.proofs.Nodes.{node_has_text, text_of_node}
use Rattle.ntriples_canonical.proofs.Lines.{nodes_chars, nodes_line, nodes_text, line_back}

-- TRIPLES: some line says a triple that has a line,
pub triple_said : (t : Terms) (l : List ℕ) → line_text t ≡ some l → Said t
triple_said t l e = record { bytes = l; says_it = line_back t l e }

-- and a triple that some line says has one
pub said_text : (t : Terms) → Said t → (l : List ℕ) × (line_text t ≡ some l)
said_text t s = let n = line_nodes s.bytes t s.says_it in (encode (nodes_chars n), nodes_text t n)

-- TERMS: an RDF term is the object of a line, here behind the shortest IRI twice
abbrev colon : Node
colon = named_node (58 ∷ [])

behind_colons : (n : Node) → T (well_formed n) → Nodes (terms (term_of_node colon) (term_of_node colon) (term_of_node n))
unfolding well_formed iri iri_char one_of
behind_colons n h = record { s = colon; p = colon; o = n; s_good = tt; p_good = tt; o_good = h; same = refl }

-- so some line gives a term that has a text,
pub term_given : (x : Term) (l : List ℕ) → term_text x ≡ some l → Given x
term_given x l e =
    let w = text_of_node x l e in
    let t = terms (term_of_node colon) (term_of_node colon) (term_of_node w.node) in
    let n = behind_colons w.node w.good in
    record {
      triple = t;
      said = record { bytes = encode (nodes_chars n); says_it = nodes_line t n };
      among = there (there (here (sym w.is)));
    }

-- and a term that some line gives has one
pub given_text : (x : Term) → Given x → (l : List ℕ) × (term_text x ≡ some l)
given_text x g = go (line_nodes g.said.bytes g.triple g.said.says_it) g.among
  where
    at : (y : Term) (n : Node) → x ≡ y → term_of_node n ≡ y → T (well_formed n) → (l : List ℕ) × (term_text x ≡ some l)
    at y n e q h = (encode (node_text n), ap term_text (e ∙ sym q) ∙ node_has_text n h)

    go : {t : Terms} → Nodes t → In x (in_order t) → (l : List ℕ) × (term_text x ≡ some l)
    go {t} n (here e) =
        at t.s n.s e (ap (λ (u : Terms). u.s) n.same) (and→ (well_formed n.s) (no_literal n.s) n.s_good).0
    go {t} n (there (here e)) =
        at t.p n.p e (ap (λ (u : Terms). u.p) n.same) (and→ (well_formed n.p) (is_named n.p) n.p_good).0
    go {t} n (there (there (here e))) = at t.o n.o e (ap (λ (u : Terms). u.o) n.same) n.o_good
    go {t} n (there (there (there i))) = elim i [ ]
