-- `edge_c::read::read_in` meets its contract. Assumes nothing.
use Prim.Native.Nat.{◌/◌}
use lib.ListN.{length}
use Rattle.edge_c.proofs.Forwarding.{table_enough, full_enough, few_full, prefix, both_forwarded}
use Rattle.edge_c.proofs.read.read_in.Goals as goal

pub overflow_add-load : goal.overflow_add-load
overflow_add-load c = few_full (length c.args.load.now / 4)

pub slice_bounds-read_on-end : goal.slice_bounds-read_on-end
slice_bounds-read_on-end c = (let enough = table_enough c.args.t.now c.requires.table_room in
    prefix enough c.args.table.now c.how_many-k1.ensures).fits

pub slice_bounds-read_on-end-2 : goal.slice_bounds-read_on-end-2
slice_bounds-read_on-end-2 c = (let enough = table_enough c.args.t.now c.requires.table_room in
    prefix enough c.args.table.now c.how_many-k1.ensures).count

pub slice_bounds-read_on-end-3 : goal.slice_bounds-read_on-end-3
slice_bounds-read_on-end-3 c = (let enough = full_enough (length c.args.load.now / 4) c.args.l.now c.requires.load_room in
    prefix enough c.args.load.now c.how_many-k2.ensures).fits

pub slice_bounds-read_on-end-4 : goal.slice_bounds-read_on-end-4
slice_bounds-read_on-end-4 c = (let enough = full_enough (length c.args.load.now / 4) c.args.l.now c.requires.load_room in
    prefix enough c.args.load.now c.how_many-k2.ensures).count

pub read_on-requires : goal.read_on-requires
read_on-requires c =
    let args = c.args in
    both_forwarded c.requires args.table.now args.load.now c.how_many-k1.ensures c.how_many-k2.ensures

pub returns : goal.returns
returns c = c.read_on.ensures
