-- `edge_c::read::read_on` meets its contract. Assumes nothing.
use Rattle.dictionary_layout.specs.Values.{contents}
use Rattle.edge_c.proofs.Forwarding.{by_length, read_as}
use Rattle.edge_c.proofs.Files.{table_room, load_room, read_done}
use Rattle.edge_c.proofs.read.read_on.Goals as goal

pub write_back-requires : goal.write_back-requires
write_back-requires c =
    let r = c.read-next in
    table_room (contents c.args.table.now c.args.arena.now c.args.counters)
    (let p = c.read_numbers in read_as c.requires.table_numbers p.auto.numbers p.ensures) (c.args.load.now) (c.args.l.now)
    (by_length c.requires.load_numbers) (c.args.file.now) r.result r.ensures r.auto.table

pub write_load-requires : goal.write_load-requires
write_load-requires c =
    let r = c.read-next in
    load_room (contents c.args.table.now c.args.arena.now c.args.counters)
    (let p = c.read_numbers in read_as c.requires.table_numbers p.auto.numbers p.ensures) (c.args.load.now) (c.args.l.now)
    (by_length c.requires.load_numbers) (c.args.file.now) r.result r.ensures r.auto.load

pub returns : goal.returns
returns c =
    let r = c.read-next in
    read_done (contents c.args.table.now c.args.arena.now c.args.counters)
    (let p = c.read_numbers in read_as c.requires.table_numbers p.auto.numbers p.ensures) (c.args.load.now) (c.args.l.now)
    (by_length c.requires.load_numbers) (c.args.file.now) r.result r.ensures c.write_back.ensures
    c.write_load.ensures
