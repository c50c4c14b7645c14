-- `close_input` meets its contract. Assumes nothing.
use Rattle.std.proofs.Common.{sym}
use Rattle.edge_closer_run.proofs.Printing.{output_bad, output_good, wrote_as}
use Rattle.edge_closer_run.proofs.close_input.Goals as goal

pub returns-in-Ok : goal.returns-in-Ok
returns-in-Ok c = wrote_as (output_good c.args.input.now (sym c.in-Ok.ensures.answer)) c.print_run.ensures

pub returns-in-Err : goal.returns-in-Err
returns-in-Err c = wrote_as (output_bad c.args.input.now (sym c.in-Err.ensures.answer)) c.print_bad_line.ensures
