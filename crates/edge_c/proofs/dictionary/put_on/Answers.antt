-- `edge_c::dictionary::put_on` meets its contract. Assumes nothing.
use Rattle.dictionary_layout.specs.Terms.{term}
use Rattle.dictionary_layout.specs.Values.{contents}
use Rattle.edge_c.proofs.Forwarding.{read_as}
use Rattle.edge_c.proofs.Tables.{put_room, put_done}
use Rattle.edge_c.proofs.dictionary.put_on.Goals as goal

pub write_back-requires : goal.write_back-requires
write_back-requires c =
    let p = c.read_numbers in
    let next = c.put_by_value-next in
    rw c.number_of_answer.ensures
    (put_room (contents c.args.table.now c.args.arena.now c.args.counters) (read_as c.requires p.auto.numbers p.ensures)
    (term c.args.kind c.args.bytes.now) c.args.counters next.result next.new.table next.new.arena next.ensures next.auto.table)

pub returns : goal.returns
returns c =
    let p = c.read_numbers in
    let next = c.put_by_value-next in
    let w = rw c.number_of_answer.ensures at c.write_back.ensures in
    put_done (contents c.args.table.now c.args.arena.now c.args.counters) (read_as c.requires p.auto.numbers p.ensures)
    (term c.args.kind c.args.bytes.now) c.args.counters next.result next.new.table next.new.arena next.ensures w
