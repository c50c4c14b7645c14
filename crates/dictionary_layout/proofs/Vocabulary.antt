-- The vocabulary ids are the places of the right terms in a started dictionary, so that each id stands for its IRI. Assumes nothing.
use mathlib.Core.Path.{◌≡◌, refl}
use mathlib.Core.Option.{some}
use Prim.Native.Nat.{ℕ}
use lib.ListN.{length}
use Rattle.common.specs.Text.{text}
use Rattle.common.specs.Vocabulary.{type, first, rest, nil, domain, range, subPropertyOf, subClassOf, Thing, Nothing, sameAs, inverseOf}
use Rattle.common.specs.Vocabulary.{SymmetricProperty, IrreflexiveProperty, AsymmetricProperty, TransitiveProperty, equivalentProperty}
use Rattle.common.specs.Vocabulary.{equivalentClass, FunctionalProperty, InverseFunctionalProperty, intersectionOf, unionOf, has_value}
use Rattle.common.specs.Vocabulary.{allValuesFrom, someValuesFrom, disjointWith, onProperty, complementOf, propertyDisjointWith, Class}
use Rattle.dictionary_layout.specs.Terms.{Term, term, rdf, rdfs, owl, start_terms, start_count, start_bytes}
use Rattle.dictionary_layout.specs.Layout.{size}
use Rattle.dictionary_layout.specs.Dictionary.{place_from, place_of}

-- the term has the id n in a started dictionary
abbrev IdIs : Term → ℕ → Type 0
IdIs t n = place_of t start_terms ≡ some n

pub vocabulary :
    IdIs (rdf "type") type ×
    IdIs (rdf "first") first ×
    IdIs (rdf "rest") rest ×
    IdIs (rdf "nil") nil ×
    IdIs (rdfs "domain") domain ×
    IdIs (rdfs "range") range ×
    IdIs (rdfs "subPropertyOf") subPropertyOf ×
    IdIs (rdfs "subClassOf") subClassOf ×
    IdIs (owl "Thing") Thing ×
    IdIs (owl "Nothing") Nothing ×
    IdIs (owl "sameAs") sameAs ×
    IdIs (owl "inverseOf") inverseOf ×
    IdIs (owl "SymmetricProperty") SymmetricProperty ×
    IdIs (owl "IrreflexiveProperty") IrreflexiveProperty ×
    IdIs (owl "AsymmetricProperty") AsymmetricProperty ×
    IdIs (owl "TransitiveProperty") TransitiveProperty ×
    IdIs (owl "equivalentProperty") equivalentProperty ×
    IdIs (owl "equivalentClass") equivalentClass ×
    IdIs (owl "FunctionalProperty") FunctionalProperty ×
    IdIs (owl "InverseFunctionalProperty") InverseFunctionalProperty ×
    IdIs (owl "intersectionOf") intersectionOf ×
    IdIs (owl "unionOf") unionOf ×
    IdIs (owl "hasValue") has_value ×
    IdIs (owl "allValuesFrom") allValuesFrom ×
    IdIs (owl "someValuesFrom") someValuesFrom ×
    IdIs (owl "disjointWith") disjointWith ×
    IdIs (owl "onProperty") onProperty ×
    IdIs (owl "complementOf") complementOf ×
    IdIs (owl "propertyDisjointWith") propertyDisjointWith ×
    IdIs (owl "Class") Class
unfolding start_terms place_from
vocabulary = (
  refl,
  refl,
  refl,
  refl,
  refl,
  refl,
  refl,
  refl,
  refl,
  refl,
  refl,
  refl,
  refl,
  refl,
  refl,
  refl,
  refl,
  refl,
  refl,
  refl,
  refl,
  refl,
  refl,
  refl,
  refl,
  refl,
  refl,
  refl,
  refl,
  refl,
)

-- id 0 is the named node `urn:_`
pub blank_id : IdIs (term 1 (text "urn:_")) 0
unfolding start_terms place_from
blank_id = refl

-- the sizes of a started dictionary: the one place where its terms are counted
pub start_sizes : (length start_terms ≡ start_count) × (size start_terms ≡ start_bytes)
unfolding start_terms
start_sizes = (refl, refl)
