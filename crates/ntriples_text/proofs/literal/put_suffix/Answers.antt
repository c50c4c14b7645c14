-- `literal::put_suffix` meets its contract. Assumes nothing.
use mathlib.Core.Path.{sym, ◌∙◌}
use Prim.Native.Nat.{◌+◌}
use native.Mathlib.Omega.{arith}
use lib.ListN.{set, length-set}
use Rattle.ntriples.specs.Grammar.{xsd_string}
use Rattle.ntriples_text.proofs.Suffixes.{put_plain, datatype_room, put_datatype, tag_room, put_tag}
use Rattle.ntriples_text.proofs.literal.put_suffix.Goals as goal

pub returns-then-same_bytes : goal.returns-then-same_bytes
unfolding xsd_string
returns-then-same_bytes c =
    let args = c.args in
    let same = sym c.if-same_bytes.true ∙ c.same_bytes.ensures in
    put_plain args.d.now args.page.now args.at c.requires same

pub bounds-page-at : goal.bounds-page-at
unfolding xsd_string
bounds-page-at c =
    let args = c.args in
    let other = sym c.if-same_bytes.false ∙ c.same_bytes.ensures in
    let colon = sym c.if-has_colon.true ∙ c.has_colon.ensures in
    let room = datatype_room args.d.now args.page.now args.at c.requires other colon in
    omega (arith, room)

pub bounds-page-at-then-has_colon : goal.bounds-page-at-then-has_colon
unfolding xsd_string
bounds-page-at-then-has_colon c =
    let args = c.args in
    let other = sym c.if-same_bytes.false ∙ c.same_bytes.ensures in
    let colon = sym c.if-has_colon.true ∙ c.has_colon.ensures in
    let room = datatype_room args.d.now args.page.now args.at c.requires other colon in
    omega (arith, room, length-set args.page.now args.at 94)

pub put_iri-requires : goal.put_iri-requires
unfolding xsd_string
put_iri-requires c =
    let args = c.args in
    let other = sym c.if-same_bytes.false ∙ c.same_bytes.ensures in
    let colon = sym c.if-has_colon.true ∙ c.has_colon.ensures in
    let room = datatype_room args.d.now args.page.now args.at c.requires other colon in
    let page = args.page.now in
    omega (arith, room, length-set page args.at 94, length-set (set page args.at 94) (args.at + 1) 94)

pub returns-then-has_colon : goal.returns-then-has_colon
unfolding xsd_string
returns-then-has_colon c =
    let args = c.args in
    let other = sym c.if-same_bytes.false ∙ c.same_bytes.ensures in
    let colon = sym c.if-has_colon.true ∙ c.has_colon.ensures in
    put_datatype args.d.now args.page.now args.at c.requires other colon c.put_iri.ensures

pub shape_of-page-then-has_colon : goal.shape_of-page-then-has_colon
shape_of-page-then-has_colon c = (returns-then-has_colon c).same

pub bounds-page-at-2 : goal.bounds-page-at-2
unfolding xsd_string
bounds-page-at-2 c =
    let args = c.args in
    let other = sym c.if-same_bytes.false ∙ c.same_bytes.ensures in
    let tag = sym c.if-has_colon.false ∙ c.has_colon.ensures in
    let room = tag_room args.d.now args.page.now args.at c.requires other tag in
    omega (arith, room)

pub put_part-requires : goal.put_part-requires
unfolding xsd_string
put_part-requires c =
    let args = c.args in
    let other = sym c.if-same_bytes.false ∙ c.same_bytes.ensures in
    let tag = sym c.if-has_colon.false ∙ c.has_colon.ensures in
    let room = tag_room args.d.now args.page.now args.at c.requires other tag in
    omega (arith, room, length-set args.page.now args.at 64)

pub returns : goal.returns
unfolding xsd_string
returns c =
    let args = c.args in
    let other = sym c.if-same_bytes.false ∙ c.same_bytes.ensures in
    let tag = sym c.if-has_colon.false ∙ c.has_colon.ensures in
    put_tag args.d.now args.page.now args.at c.requires other tag c.put_part.ensures

pub shape_of-page : goal.shape_of-page
shape_of-page c = (returns c).same
