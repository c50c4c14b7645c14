-- The pairs of rows that give a finding: an axiom and an assertion that violates it, a check by its W3C name. REFERENCE 7.1. For
-- cls-nothing2 the assertion is the axiom itself. Assumes nothing.
use Rattle.std.specs.Prelude.{◌≡◌, ◌≢◌, Option, Some, None, List, ℕ, ◌<◌, eqb}
use Rattle.common.specs.Triples.{Triple, Finding, finding, if}
use Rattle.common.specs.Vocabulary.{type, Nothing, IrreflexiveProperty, AsymmetricProperty, disjointWith, propertyDisjointWith}
use Rattle.meaning.specs.Rules.{Graph}
use Rattle.store_rows.specs.Rows.{row_at, row_graph}
use Rattle.store_rows.specs.Layout.{subjects_at, predicates_at, objects_at}
use Rattle.engine_checks.specs.declared.CheckKind.{CheckKind}
use Rattle.engine_checks.specs.declared.CheckKind.TheVariants.{CaxDw, PrpIrp, PrpAsyp, PrpPdw, ClsNothing2}
use Rattle.engine_checks.specs.declared.Finding as declared

-- the finding that a value of the type Finding of src/ stands for
abbrev pub finding_of : declared.Finding → Finding
finding_of x = finding x.check x.a x.b x.c x.d

-- t is an axiom of the check
abbrev pub Axiom : CheckKind → Triple → Type 0
Axiom CaxDw t = t.p ≡ disjointWith
Axiom PrpIrp t = (t.p ≡ type) × (t.o ≡ IrreflexiveProperty)
Axiom PrpAsyp t = (t.p ≡ type) × (t.o ≡ AsymmetricProperty)
Axiom PrpPdw t = t.p ≡ propertyDisjointWith
Axiom ClsNothing2 t = (t.p ≡ type) × (t.o ≡ Nothing)

-- the check whose axiom t is, if any
unfoldable pub check_of : Triple → Option CheckKind
check_of t =
    if (eqb t.p disjointWith) (λ _. Some CaxDw)
    (λ _. if (eqb t.p propertyDisjointWith) (λ _. Some PrpPdw)
    (λ _. if (eqb t.p type)
    (λ _. if (eqb t.o IrreflexiveProperty) (λ _. Some PrpIrp)
    (λ _. if (eqb t.o AsymmetricProperty) (λ _. Some PrpAsyp)
    (λ _. if (eqb t.o Nothing) (λ _. Some ClsNothing2) (λ _. None))))
    (λ _. None)))

-- k is the check whose axiom t is, if any
pub record KindOf (t : Triple) (k : Option CheckKind) : Type 0 where
  pub is : k ≡ check_of t
  pub stated : (c : CheckKind) → k ≡ Some c → Axiom c t

-- Assertions u that violate an axiom t. Check 1: i type c, i type d, c disjointWith d, i not 0
pub record TypedByBoth (R : Graph) (t u : Triple) : Type 0 where
  pub typed : u.p ≡ type
  pub class : u.o ≡ t.s
  pub other : R u.s type t.o
  pub nonzero : u.s ≢ 0

-- check 2: p irreflexive, s p s, s not 0
pub record Reflexive (t u : Triple) : Type 0 where
  pub property : u.p ≡ t.s
  pub same : u.s ≡ u.o
  pub nonzero : u.s ≢ 0

-- check 3: p asymmetric, a p b, b p a, none 0
pub record BothWays (R : Graph) (t u : Triple) : Type 0 where
  pub property : u.p ≡ t.s
  pub back : R u.o t.s u.s
  pub nonzero_p : t.s ≢ 0
  pub nonzero_a : u.s ≢ 0
  pub nonzero_b : u.o ≢ 0

-- check 4: p propertyDisjointWith q, a p b, a q b, none 0
pub record RelatedByBoth (R : Graph) (t u : Triple) : Type 0 where
  pub property : u.p ≡ t.s
  pub other : R u.s t.o u.o
  pub nonzero_a : u.s ≢ 0
  pub nonzero_b : u.o ≢ 0
  pub nonzero_p : t.s ≢ 0
  pub nonzero_q : t.o ≢ 0

-- check 5: i type Nothing, i not 0
pub record OfNothing (t u : Triple) : Type 0 where
  pub instance : u.s ≡ t.s
  pub typed : u.p ≡ type
  pub class : u.o ≡ Nothing
  pub nonzero : t.s ≢ 0

-- the assertion u violates the axiom t of a check
abbrev pub Violates : CheckKind → Graph → Triple → Triple → Type 0
Violates CaxDw R t u = TypedByBoth R t u
Violates PrpIrp R t u = Reflexive t u
Violates PrpAsyp R t u = BothWays R t u
Violates PrpPdw R t u = RelatedByBoth R t u
Violates ClsNothing2 R t u = OfNothing t u

-- the record of the finding, which starts with the check's number
abbrev pub finding_by : CheckKind → Triple → Triple → Finding
finding_by CaxDw t u = finding 1 u.s t.s t.o 0
finding_by PrpIrp t u = finding 2 t.s u.s 0 0
finding_by PrpAsyp t u = finding 3 t.s u.s u.o 0
finding_by PrpPdw t u = finding 4 u.s u.o t.s t.o
finding_by ClsNothing2 t u = finding 5 t.s 0 0 0

-- assertions that can violate t have t's subject as their object, predicate or subject: the block of the index with these chains
abbrev pub assertions_block : CheckKind → ℕ
assertions_block CaxDw = objects_at
assertions_block PrpIrp = predicates_at
assertions_block PrpAsyp = predicates_at
assertions_block PrpPdw = predicates_at
assertions_block ClsNothing2 = subjects_at

abbrev pub key_by : CheckKind → Triple → ℕ
key_by CaxDw u = u.o
key_by PrpIrp u = u.p
key_by PrpAsyp u = u.p
key_by PrpPdw u = u.p
key_by ClsNothing2 u = u.s

-- what the rows t and u give
pub record Gives (k : CheckKind) (R : Graph) (t u : Triple) (x : Finding) : Type 0 where
  pub violated : Violates k R t u
  pub is : x ≡ finding_by k t u

-- what t gives with one of the first n rows
pub record GivesWith (k : CheckKind) (l : List ℕ) (n : ℕ) (t : Triple) (x : Finding) : Type 0 where
  pub at : ℕ
  pub below : at < n
  pub gives : Gives k (row_graph l n) t (row_at l at) x

-- what row i gives, as an axiom of its check, with one of the first n rows
pub record GivenByRow (l : List ℕ) (n i : ℕ) (x : Finding) : Type 0 where
  pub kind : CheckKind
  pub stated : Axiom kind (row_at l i)
  pub gives : GivesWith kind l n (row_at l i) x

-- what the first n rows give
pub record GivenByRows (l : List ℕ) (n : ℕ) (x : Finding) : Type 0 where
  pub at : ℕ
  pub below : at < n
  pub gives : GivenByRow l n at x
