-- `print_run` meets its contract. Assumes nothing.
use native.Mathlib.Omega.{arith}
use Rattle.edge_closer_run.proofs.Printing.{ran_with, refusal_printed, run_counted, answer_fits, answer_printed, wrote_as}
use Rattle.edge_closer_run.proofs.print_run.Goals as goal

pub total-records-requires : goal.total-records-requires
total-records-requires c = run_counted c.args.count c.args.load.now (ran_with c.in-Ok.is c.run_input.ensures)

pub print_answer-requires : goal.print_answer-requires
print_answer-requires c =
    answer_fits c.args.count c.args.load.now (ran_with c.in-Ok.is c.run_input.ensures) c.total-records.ensures
    (omega arith) (omega arith) (omega arith)

pub returns-in-Ok : goal.returns-in-Ok
returns-in-Ok c =
    let run = ran_with c.in-Ok.is c.run_input.ensures in
    wrote_as (answer_printed c.args.count c.args.load.now run c.total-records.ensures) c.print_answer.ensures

pub returns-in-Err : goal.returns-in-Err
returns-in-Err c =
    let run = ran_with c.in-Err.is c.run_input.ensures in
    wrote_as (refusal_printed c.args.count c.args.load.now run (omega arith)) c.print_refusal.ensures
