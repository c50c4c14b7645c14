-- `quoted::iri` meets its contract. Assumes nothing.
use Rattle.std.proofs.Common.{rules}
use borrow.Author.Tests.{tests}
use Rattle.ntriples.specs.Characters.{iri_char}
use Rattle.std.proofs.lemmas.Iterator.{YieldsList-from_slice}
use Rattle.std.proofs.lemmas.Iterator.Search.{all_from_yields_List}
use Rattle.ntriples_tokens.proofs.Iris.{iri_none, iri_some}
use Rattle.ntriples_tokens.proofs.quoted.iri.Goals as goal

pub returns-then-contains : goal.returns-then-contains
returns-then-contains c =
    iri_some c.args.bytes.now c.contains.ensures.value c.if-contains.true
    (all_from_yields_List iri_char _ _ c.all.result c.all.ensures.ran (YieldsList-from_slice c.args.bytes.now cc)
    (λ x b q k. search (rules, tests)))

pub returns-else-contains : goal.returns-else-contains
returns-else-contains c = iri_none c.args.bytes.now c.contains.ensures.value c.if-contains.false
