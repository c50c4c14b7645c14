-- `edge_c::turns::turn_on` meets its contract. Assumes nothing.
use Rattle.dictionary_layout.specs.Values.{contents}
use Rattle.edge_c.proofs.Forwarding.{all_read, read_as}
use Rattle.driver_turns.proofs.Turning.{part_number}
use Rattle.edge_c.proofs.Passes.{turn_rooms, turn_done}
use Rattle.edge_c.proofs.turns.turn_on.Goals as goal

pub write_all-requires : goal.write_all-requires
write_all-requires c =
    let p = c.read_numbers in
    let q = c.read_numbers-2 in
    let s = c.read_numbers-3 in
    let r = c.turn-next in
    let n = r.new in
    rw (c.number_of_answer.ensures, part_number r.result.answer)
    (turn_rooms c.args.passes (contents c.args.table.now c.args.arena.now c.args.counters)
    (all_read c.requires p.auto.numbers p.ensures q.auto.numbers q.ensures s.auto.numbers)
    (read_as c.requires.store_numbers s.auto.numbers s.ensures) r.result n.t n.arena n.s n.f n.w r.ensures
    r.auto.t r.auto.s r.auto.f)

pub returns : goal.returns
returns c =
    let p = c.read_numbers in
    let q = c.read_numbers-2 in
    let s = c.read_numbers-3 in
    let r = c.turn-next in
    let n = r.new in
    let w = rw (c.number_of_answer.ensures, part_number r.result.answer) at c.write_all.ensures in
    turn_done c.args.passes (contents c.args.table.now c.args.arena.now c.args.counters)
    (all_read c.requires p.auto.numbers p.ensures q.auto.numbers q.ensures s.auto.numbers)
    (read_as c.requires.store_numbers s.auto.numbers s.ensures) r.result n.t n.arena n.s n.f n.w r.ensures w.0 w.1 w.2 w.3
