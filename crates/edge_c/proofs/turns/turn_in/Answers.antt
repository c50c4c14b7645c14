-- `edge_c::turns::turn_in` meets its contract. Assumes nothing.
use Prim.Native.Nat.{◌/◌}
use lib.ListN.{length}
use Rattle.driver_refusals.specs.Lent.{lent}
use Rattle.edge_c.proofs.Forwarding.{table_enough, load_enough, store_enough, findings_enough, work_enough, few_more, prefix}
use Rattle.edge_c.proofs.Forwarding.{all_forwarded}
use Rattle.edge_c.proofs.turns.turn_in.Goals as goal

pub overflow_add-load : goal.overflow_add-load
overflow_add-load c = few_more (length c.args.load.now / 4)

pub slice_bounds-turn_on-end : goal.slice_bounds-turn_on-end
slice_bounds-turn_on-end c = (let enough = table_enough c.args.t.now c.requires.table_room in
    prefix enough c.args.table.now c.how_many-k1.ensures).fits

pub slice_bounds-turn_on-end-2 : goal.slice_bounds-turn_on-end-2
slice_bounds-turn_on-end-2 c = (let enough = table_enough c.args.t.now c.requires.table_room in
    prefix enough c.args.table.now c.how_many-k1.ensures).count

pub slice_bounds-turn_on-end-3 : goal.slice_bounds-turn_on-end-3
slice_bounds-turn_on-end-3 c = (let enough = load_enough (length c.args.load.now / 4) c.args.l.now c.requires.load_room in
    prefix enough c.args.load.now c.how_many-k2.ensures).fits

pub slice_bounds-turn_on-end-4 : goal.slice_bounds-turn_on-end-4
slice_bounds-turn_on-end-4 c = (let enough = load_enough (length c.args.load.now / 4) c.args.l.now c.requires.load_room in
    prefix enough c.args.load.now c.how_many-k2.ensures).count

pub slice_bounds-turn_on-end-5 : goal.slice_bounds-turn_on-end-5
slice_bounds-turn_on-end-5 c = (let enough = store_enough c.args.s.now c.requires.store_room in
    prefix enough c.args.store.now c.how_many-k3.ensures).fits

pub slice_bounds-turn_on-end-6 : goal.slice_bounds-turn_on-end-6
slice_bounds-turn_on-end-6 c =
    (let enough = store_enough c.args.s.now c.requires.store_room in
    prefix enough c.args.store.now c.how_many-k3.ensures).count

pub slice_bounds-turn_on-end-7 : goal.slice_bounds-turn_on-end-7
slice_bounds-turn_on-end-7 c =
    (let enough = findings_enough c.args.f.now c.requires.findings_room in
    prefix enough c.args.findings.now c.how_many-k4.ensures).fits

pub slice_bounds-turn_on-end-8 : goal.slice_bounds-turn_on-end-8
slice_bounds-turn_on-end-8 c =
    (let enough = findings_enough c.args.f.now c.requires.findings_room in
    prefix enough c.args.findings.now c.how_many-k4.ensures).count

pub slice_bounds-turn_on-end-9 : goal.slice_bounds-turn_on-end-9
slice_bounds-turn_on-end-9 c =
    (let enough = work_enough c.args.w.now c.requires.work_room in
    prefix enough c.args.work.now c.how_many-k5.ensures).fits

pub slice_bounds-turn_on-end-10 : goal.slice_bounds-turn_on-end-10
slice_bounds-turn_on-end-10 c =
    (let enough = work_enough c.args.w.now c.requires.work_room in
    prefix enough c.args.work.now c.how_many-k5.ensures).count

pub turn_on-requires : goal.turn_on-requires
turn_on-requires c =
    let args = c.args in
    all_forwarded c.requires args.table.now
    (lent args.load.now args.store.now args.findings.now args.work.now)
    c.how_many-k1.ensures c.how_many-k2.ensures c.how_many-k3.ensures
    c.how_many-k4.ensures c.how_many-k5.ensures

pub returns : goal.returns
returns c = c.turn_on.ensures
