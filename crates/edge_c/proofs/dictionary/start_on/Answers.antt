-- `edge_c::dictionary::start_on` meets its contract. Assumes nothing.
use Rattle.edge_c.proofs.Forwarding.{by_length}
use Rattle.edge_c.proofs.Tables.{start_room, started}
use Rattle.edge_c.proofs.dictionary.start_on.Goals as goal

pub write_back-requires : goal.write_back-requires
write_back-requires c =
    let args = c.args in
    let s = c.start-started in
    rw c.number_of_answer.ensures
    (start_room args.table.now args.numbers.now args.arena.now (by_length c.requires) s.result s.new.table s.new.arena s.ensures
    s.auto.table)

pub returns : goal.returns
returns c =
    let args = c.args in
    let s = c.start-started in
    let w = rw c.number_of_answer.ensures at c.write_back.ensures in
    started args.table.now args.numbers.now args.arena.now (by_length c.requires) s.result s.new.table s.new.arena s.ensures w
