-- `edge_c::read::write_front` meets its contract. Assumes nothing.
use mathlib.Core.Path.{sym}
use Prim.Native.Nat.{◌*◌}
use native.Mathlib.Omega.{arith}
use lib.ListN.{length}
use lib.Seq.{length-take-le}
use Rattle.edge_c.proofs.Files.{front_zeros}
use Rattle.edge_c.proofs.read.write_front.Goals as goal

pub slice_bounds-write_numbers-end-2 : goal.slice_bounds-write_numbers-end-2
slice_bounds-write_numbers-end-2 c = sym (let n = 4 * length c.args.numbers.now in
    let cleared = c.clear_bytes in
    length-take-le n cleared.new.a (omega (arith, cleared.auto.a, c.requires)))

pub write_numbers-requires : goal.write_numbers-requires
write_numbers-requires c = (let n = 4 * length c.args.numbers.now in
    let cleared = c.clear_bytes in
    length-take-le n cleared.new.a (omega (arith, cleared.auto.a, c.requires)))

pub returns : goal.returns
returns c =
    front_zeros c.args.bytes.now c.args.numbers.now c.write_numbers.ensures
    c.clear_bytes.ensures
