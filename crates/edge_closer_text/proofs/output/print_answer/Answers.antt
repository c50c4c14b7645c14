-- `output::print_answer` meets its contract. Assumes nothing.
use native.Mathlib.Omega.{arith}
use Rattle.edge_closer_text.proofs.Printing.{triples_fit, findings_fit, answer_whole}
use Rattle.edge_closer_text.proofs.output.print_answer.Goals as goal

pub put_table-next-requires : goal.put_table-next-requires
put_table-next-requires c =
    triples_fit c.requires c.ranges.triples.fits c.ranges.records.fits c.put_line-first.ensures

pub put_table-requires : goal.put_table-requires
put_table-requires c =
    findings_fit c.requires c.ranges.triples.fits c.ranges.records.fits c.put_line-first.ensures (omega arith)
    (λ k. (c.type_inv.store k).fits) c.put_table-next.ensures

pub returns : goal.returns
returns c =
    answer_whole c.requires c.ranges.triples.fits c.ranges.records.fits c.put_line-first.ensures
    c.put_table-next.ensures c.put_table.ensures
