-- Terms, a kind (1 named node, 2 blank node, 3 literal) and bytes, REFERENCE 2.1; and those that a start and a run put, REFERENCE 2.4 to
-- 2.6. Assumes nothing.
use Rattle.std.specs.Prelude.{List, [], ◌∷◌, ◌++◌, ℕ}
use Prim.Native.String.{String}
use Rattle.common.specs.Text.{text}

-- a term: its kind and its bytes
pub record Term : Type 0 where
  pub kind : ℕ
  pub bytes : List ℕ

abbrev pub term : ℕ → List ℕ → Term
term k b = record { kind = k; bytes = b }

-- no term at all: no kind is 0
abbrev pub no_term : Term
no_term = term 0 []

-- the named nodes of the three namespaces, by their local names
abbrev pub rdf : String → Term
rdf name = term 1 (text "http://www.w3.org/1999/02/22-rdf-syntax-ns#" ++ text name)

abbrev pub rdfs : String → Term
rdfs name = term 1 (text "http://www.w3.org/2000/01/rdf-schema#" ++ text name)

abbrev pub owl : String → Term
owl name = term 1 (text "http://www.w3.org/2002/07/owl#" ++ text name)

-- what a started dictionary holds, by id
unfoldable pub start_terms : List Term
start_terms =
    term 1 (text "urn:_") ∷
    rdf "type" ∷ rdf "first" ∷ rdf "rest" ∷ rdf "nil" ∷
    rdfs "domain" ∷ rdfs "range" ∷ rdfs "subPropertyOf" ∷ rdfs "subClassOf" ∷
    owl "Thing" ∷ owl "Nothing" ∷ owl "sameAs" ∷ owl "inverseOf" ∷
    owl "SymmetricProperty" ∷ owl "IrreflexiveProperty" ∷ owl "AsymmetricProperty" ∷ owl "TransitiveProperty" ∷
    owl "equivalentProperty" ∷ owl "equivalentClass" ∷ owl "FunctionalProperty" ∷ owl "InverseFunctionalProperty" ∷
    owl "intersectionOf" ∷ owl "unionOf" ∷ owl "hasValue" ∷ owl "allValuesFrom" ∷ owl "someValuesFrom" ∷
    owl "disjointWith" ∷ owl "onProperty" ∷ owl "complementOf" ∷ owl "propertyDisjointWith" ∷ owl "Class" ∷
    []

-- how many terms those are, and how many bytes they have: proofs/Vocabulary.antt, `start_sizes`
abbrev pub start_count : ℕ
start_count = 31

abbrev pub start_bytes : ℕ
start_bytes = 1325

-- the three terms that a run puts, in this order
abbrev pub property_term : Term
property_term = rdf "Property"

abbrev pub membership_term : Term
membership_term = rdfs "ContainerMembershipProperty"

abbrev pub member_term : Term
member_term = rdfs "member"

unfoldable pub run_terms : List Term
run_terms = property_term ∷ membership_term ∷ member_term ∷ []
