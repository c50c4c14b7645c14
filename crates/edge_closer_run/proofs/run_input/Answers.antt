-- `run_input` meets its contract. Assumes nothing.
use Rattle.dictionary_layout.specs.Calls.{start_result}
use Rattle.dictionary_layout.specs.Values.{contents}
use Rattle.dictionary_index.proofs.Accepting.{start_accepted, start_next}
use Rattle.edge_closer_run.proofs.Printing.{ran_as}
use Rattle.edge_closer_run.proofs.Room.{start_zero}
use Rattle.edge_closer_run.proofs.run_input.Goals as goal

pub unwrap-started-requires : goal.unwrap-started-requires
unwrap-started-requires c =
    let start = c.start in start_accepted start.result start.new.table start.new.arena start.ensures start_zero

pub returns : goal.returns
returns c =
    let args = c.args in
    let start = c.start.new in
    let started = c.unwrap-started in
    let names = c.put_names-counters in
    ran_as args.count args.load.now args.store.now args.findings.now
    (start_result 0 (contents start.table start.arena started.result)) (contents names.new.table names.new.arena names.result)
    (start_next start.table start.arena started.ensures c.start.ensures) names.ensures c.run-next.ensures
