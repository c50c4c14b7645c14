-- `output::print_bad_line` meets its contract. Assumes nothing.
use native.Mathlib.Omega.{arith}
use Rattle.edge_decimal.proofs.Writing.{wrote_byte, wrote_then}
use Rattle.edge_closer_text.proofs.Printing.{number_fits, byte_fits}
use Rattle.edge_closer_text.proofs.output.print_bad_line.Goals as goal

pub put_number-end-requires : goal.put_number-end-requires
put_number-end-requires c =
    let p = c.requires in
    number_fits c.args.number c.ranges.number.fits c.put_bytes-start.ensures (omega arith)

pub bounds-out-end : goal.bounds-out-end
bounds-out-end c =
    byte_fits c.args.number c.ranges.number.fits c.put_bytes-start.ensures c.requires
    c.put_number-end.ensures

pub returns : goal.returns
returns c =
    let put-number = c.put_number-end in
    let h = byte_fits c.args.number c.ranges.number.fits c.put_bytes-start.ensures c.requires
    put-number.ensures in
    wrote_then (wrote_then c.put_bytes-start.ensures put-number.ensures)
    (wrote_byte put-number.new.out put-number.result 10 h)
