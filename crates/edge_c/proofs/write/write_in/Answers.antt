-- `edge_c::write::write_in` meets its contract. Assumes nothing.
use Rattle.edge_c.proofs.Forwarding.{table_enough, store_enough, prefix, store_forwarded_both}
use Rattle.edge_c.proofs.write.write_in.Goals as goal

pub slice_bounds-write_on-end : goal.slice_bounds-write_on-end
slice_bounds-write_on-end c = (let enough = table_enough c.args.t.now c.requires.table_room in
    prefix enough c.args.table.now c.how_many-k1.ensures).fits

pub slice_bounds-write_on-end-2 : goal.slice_bounds-write_on-end-2
slice_bounds-write_on-end-2 c = (let enough = table_enough c.args.t.now c.requires.table_room in
    prefix enough c.args.table.now c.how_many-k1.ensures).count

pub slice_bounds-write_on-end-3 : goal.slice_bounds-write_on-end-3
slice_bounds-write_on-end-3 c = (let enough = store_enough c.args.s.now c.requires.store_room in
    prefix enough c.args.store.now c.how_many-k2.ensures).fits

pub slice_bounds-write_on-end-4 : goal.slice_bounds-write_on-end-4
slice_bounds-write_on-end-4 c = (let enough = store_enough c.args.s.now c.requires.store_room in
    prefix enough c.args.store.now c.how_many-k2.ensures).count

pub write_on-requires : goal.write_on-requires
write_on-requires c =
    let args = c.args in
    store_forwarded_both c.requires args.table.now args.store.now c.how_many-k1.ensures c.how_many-k2.ensures

pub returns : goal.returns
returns c = c.write_on.ensures
