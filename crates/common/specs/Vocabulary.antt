-- The thirty vocabulary ids, those of the terms that a start puts. REFERENCE 2.5.
-- The constants of the type Vocab in src/ are these numbers (function `vocabulary`). Assumes nothing.
use Rattle.std.specs.Prelude.{List, [], ◌∷◌, ℕ}

-- rdf
abbrev pub type : ℕ
type = 1

abbrev pub first : ℕ
first = 2

abbrev pub rest : ℕ
rest = 3

abbrev pub nil : ℕ
nil = 4

-- rdfs
abbrev pub domain : ℕ
domain = 5

abbrev pub range : ℕ
range = 6

abbrev pub subPropertyOf : ℕ
subPropertyOf = 7

abbrev pub subClassOf : ℕ
subClassOf = 8

-- owl
abbrev pub Thing : ℕ
Thing = 9

abbrev pub Nothing : ℕ
Nothing = 10

abbrev pub sameAs : ℕ
sameAs = 11

abbrev pub inverseOf : ℕ
inverseOf = 12

abbrev pub SymmetricProperty : ℕ
SymmetricProperty = 13

abbrev pub IrreflexiveProperty : ℕ
IrreflexiveProperty = 14

abbrev pub AsymmetricProperty : ℕ
AsymmetricProperty = 15

abbrev pub TransitiveProperty : ℕ
TransitiveProperty = 16

abbrev pub equivalentProperty : ℕ
equivalentProperty = 17

abbrev pub equivalentClass : ℕ
equivalentClass = 18

abbrev pub FunctionalProperty : ℕ
FunctionalProperty = 19

abbrev pub InverseFunctionalProperty : ℕ
InverseFunctionalProperty = 20

abbrev pub intersectionOf : ℕ
intersectionOf = 21

abbrev pub unionOf : ℕ
unionOf = 22

abbrev pub has_value : ℕ
has_value = 23

abbrev pub allValuesFrom : ℕ
allValuesFrom = 24

abbrev pub someValuesFrom : ℕ
someValuesFrom = 25

abbrev pub disjointWith : ℕ
disjointWith = 26

abbrev pub onProperty : ℕ
onProperty = 27

abbrev pub complementOf : ℕ
complementOf = 28

abbrev pub propertyDisjointWith : ℕ
propertyDisjointWith = 29

abbrev pub Class : ℕ
Class = 30

-- all of them, in the order in which a start puts them
abbrev pub vocabulary : List ℕ
vocabulary =
    type ∷ first ∷ rest ∷ nil ∷
    domain ∷ range ∷ subPropertyOf ∷ subClassOf ∷
    Thing ∷ Nothing ∷ sameAs ∷ inverseOf ∷
    SymmetricProperty ∷ IrreflexiveProperty ∷ AsymmetricProperty ∷ TransitiveProperty ∷
    equivalentProperty ∷ equivalentClass ∷ FunctionalProperty ∷ InverseFunctionalProperty ∷
    intersectionOf ∷ unionOf ∷ has_value ∷ allValuesFrom ∷ someValuesFrom ∷
    disjointWith ∷ onProperty ∷ complementOf ∷ propertyDisjointWith ∷ Class ∷
    []
