-- `literal::put_iri` meets its contract. Assumes nothing.
use native.Mathlib.Omega.{arith}
use lib.ListN.{length-set}
use Rattle.ntriples_text.proofs.Stores.{angles_length, angle_room, put_angles}
use Rattle.ntriples_text.proofs.literal.put_iri.Goals as goal

pub put_part-n-requires : goal.put_part-n-requires
put_part-n-requires c =
    let args = c.args in
    let pre = c.requires in
    omega (arith, angles_length args.bytes.now, length-set args.page.now args.at 60)

pub bounds-page-n : goal.bounds-page-n
bounds-page-n c =
    let args = c.args in
    angle_room args.bytes.now args.page.now args.at c.requires c.put_part-n.ensures

pub returns : goal.returns
returns c =
    let args = c.args in
    put_angles args.bytes.now args.page.now args.at c.requires c.put_part-n.ensures

pub shape_of-page : goal.shape_of-page
shape_of-page c = (returns c).same
