-- `output::print_name` meets its contract. Assumes nothing.
use Rattle.edge_closer_text.proofs.Printing.{number_fits}
use Rattle.edge_closer_text.proofs.output.print_name.Goals as goal

pub put_number-requires : goal.put_number-requires
put_number-requires c =
    number_fits c.args.n c.ranges.n.fits c.put_bytes-start.ensures c.requires
