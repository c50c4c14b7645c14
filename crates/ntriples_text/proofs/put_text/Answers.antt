-- `ntriples_text::put_text` meets its contract. Assumes nothing.
use mathlib.Core.Path.{subst}
use native.Mathlib.Omega.{arith}
use Prim.Native.Nat.{◌+◌}
use lib.ListN.{set, length-set}
use Rattle.dictionary_layout.specs.Terms.{term}
use Rattle.ntriples_canonical.specs.Writing.{term_text}
use Rattle.ntriples_text.specs.Promises.{TextFits}
use Rattle.ntriples_text.proofs.Texts.{named_fits, put_named, blank_fits, put_blank, third}
use Rattle.ntriples_text.proofs.put_text.Goals as goal

pub put_iri-requires : goal.put_iri-requires
put_iri-requires c = (named_fits c.args.kind c.args.bytes.now c.requires c.in-1.is).room

pub returns-in-1 : goal.returns-in-1
returns-in-1 c = put_named c.args.kind c.args.bytes.now c.requires c.in-1.is c.put_iri.ensures

pub bounds-page-at : goal.bounds-page-at
bounds-page-at c = omega (arith, (blank_fits c.args.kind c.args.bytes.now c.requires c.in-2.is).room)

pub bounds-page-at-in-2 : goal.bounds-page-at-in-2
bounds-page-at-in-2 c =
    let args = c.args in
    let fits = blank_fits args.kind args.bytes.now c.requires c.in-2.is in
    omega (arith, fits.room, length-set args.page.now args.at 95)

pub put_part-requires : goal.put_part-requires
put_part-requires c =
    let args = c.args in
    let page = args.page.now in
    let fits = blank_fits args.kind args.bytes.now c.requires c.in-2.is in
    omega (arith, fits.room, length-set page args.at 95, length-set (set page args.at 95) (args.at + 1) 58)

pub returns-in-2 : goal.returns-in-2
returns-in-2 c = put_blank c.args.kind c.args.bytes.now c.requires c.in-2.is c.put_part.ensures

pub put_literal-requires : goal.put_literal-requires
put_literal-requires c =
    let args = c.args in
    let e = third args.kind args.bytes.now c.requires (omega arith) (omega arith) in
    subst (λ k. TextFits (term_text (term k args.bytes.now)) args.at args.page.now) e c.requires

pub returns-in_default : goal.returns-in_default
returns-in_default c =
    let e = third c.args.kind c.args.bytes.now c.requires (omega arith) (omega arith) in
    rw e c.put_literal.ensures
