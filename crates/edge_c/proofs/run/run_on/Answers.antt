-- `edge_c::run::run_on` meets its contract. Assumes nothing.
use mathlib.Core.Path.{refl}
use Rattle.dictionary_layout.specs.Values.{contents}
use Rattle.edge_c.proofs.Forwarding.{all_read}
use Rattle.edge_c.proofs.Runs.{rooms, run_done}
use Rattle.edge_c.proofs.run.run_on.Goals as goal

pub write_all-requires : goal.write_all-requires
write_all-requires c =
    let p = c.read_numbers in
    let q = c.read_numbers-2 in
    let r = c.run-next in
    let n = r.new in
    rw c.number_of_answer.ensures
    (rooms (contents c.args.table.now c.args.arena.now c.args.counters)
    (all_read c.requires p.auto.numbers p.ensures q.auto.numbers q.ensures refl) r.result n.table n.arena n.store n.findings n.work
    r.ensures r.auto.table r.auto.store r.auto.findings)

pub returns : goal.returns
returns c =
    let p = c.read_numbers in
    let q = c.read_numbers-2 in
    let r = c.run-next in
    let n = r.new in
    let w = rw c.number_of_answer.ensures at c.write_all.ensures in
    run_done (contents c.args.table.now c.args.arena.now c.args.counters)
    (all_read c.requires p.auto.numbers p.ensures q.auto.numbers q.ensures refl) r.result n.table n.arena n.store n.findings n.work
    r.ensures w.0 w.1 w.2 w.3
