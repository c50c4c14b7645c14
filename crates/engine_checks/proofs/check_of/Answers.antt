-- `engine_checks::check_of` meets its contract. Assumes nothing.
use Rattle.std.proofs.Common.{◌≡◌, rules}
use Rattle.common.specs.Values.{triple_of}
use Rattle.common.specs.Vocabulary.{type, Nothing, IrreflexiveProperty, AsymmetricProperty, disjointWith, propertyDisjointWith}
use Rattle.engine_checks.specs.declared.CheckKind.TheVariants.{CaxDw, PrpIrp, PrpAsyp, PrpPdw, ClsNothing2}
use Rattle.engine_checks.proofs.Pairing.{kind_some, kind_typed, kind_other}
use Rattle.engine_checks.proofs.check_of.Goals as goal

pub returns-in-OWL_DISJOINT_WITH-default : goal.returns-in-OWL_DISJOINT_WITH-default
returns-in-OWL_DISJOINT_WITH-default c =
    let p : c.args.t.p.0 ≡ disjointWith = search rules in
    kind_some CaxDw (triple_of c.args.t) p

pub returns-in-OWL_PROPERTY_DISJOINT_WITH-default : goal.returns-in-OWL_PROPERTY_DISJOINT_WITH-default
returns-in-OWL_PROPERTY_DISJOINT_WITH-default c =
    let p : c.args.t.p.0 ≡ propertyDisjointWith = search rules in
    kind_some PrpPdw (triple_of c.args.t) p

pub returns-in-RDF_TYPE-OWL_IRREFLEXIVE_PROPERTY : goal.returns-in-RDF_TYPE-OWL_IRREFLEXIVE_PROPERTY
returns-in-RDF_TYPE-OWL_IRREFLEXIVE_PROPERTY c =
    let p : c.args.t.p.0 ≡ type = search rules in
    let o : c.args.t.o.0 ≡ IrreflexiveProperty = search rules in
    kind_some PrpIrp (triple_of c.args.t) (p, o)

pub returns-in-RDF_TYPE-OWL_ASYMMETRIC_PROPERTY : goal.returns-in-RDF_TYPE-OWL_ASYMMETRIC_PROPERTY
returns-in-RDF_TYPE-OWL_ASYMMETRIC_PROPERTY c =
    let p : c.args.t.p.0 ≡ type = search rules in
    let o : c.args.t.o.0 ≡ AsymmetricProperty = search rules in
    kind_some PrpAsyp (triple_of c.args.t) (p, o)

pub returns-in-RDF_TYPE-OWL_NOTHING : goal.returns-in-RDF_TYPE-OWL_NOTHING
returns-in-RDF_TYPE-OWL_NOTHING c =
    let p : c.args.t.p.0 ≡ type = search rules in
    let o : c.args.t.o.0 ≡ Nothing = search rules in
    kind_some ClsNothing2 (triple_of c.args.t) (p, o)

pub returns-in_default : goal.returns-in_default
returns-in_default c =
    let p : c.args.t.p.0 ≡ type = search rules in
    let x : c.args.t.o.0 ≡ IrreflexiveProperty → ⊥ = search rules in
    let y : c.args.t.o.0 ≡ AsymmetricProperty → ⊥ = search rules in
    let z : c.args.t.o.0 ≡ Nothing → ⊥ = search rules in
    kind_typed (triple_of c.args.t) p x y z

pub returns-in_default-2 : goal.returns-in_default-2
returns-in_default-2 c =
    let x : c.args.t.p.0 ≡ disjointWith → ⊥ = search rules in
    let y : c.args.t.p.0 ≡ propertyDisjointWith → ⊥ = search rules in
    let z : c.args.t.p.0 ≡ type → ⊥ = search rules in
    kind_other (triple_of c.args.t) x y z
