-- `trial_buffers::reader::end_of_number` meets its contract. Assumes nothing.
use Rattle.std.proofs.Common.{sym, ◌∙◌, arith}
use Rattle.trial_buffers.proofs.Fields.{seek_more, seek_found, seek_end}
use Rattle.trial_buffers.proofs.reader.end_of_number.Goals as goal

pub returns-then-ends_number : goal.returns-then-ends_number
returns-then-ends_number c = (
  seek_found c.loop-end.invariant c.loop-end-test.true (sym c.if-ends_number.true ∙ c.ends_number.ensures),
  c.loop-end.invariant.from,
  c.loop-end.invariant.within,
)

pub loop-end-preserved : goal.loop-end-preserved
loop-end-preserved c =
    seek_more c.loop-end.invariant c.loop-end-test.true (sym c.if-ends_number.false ∙ c.ends_number.ensures)

pub returns : goal.returns
returns c = (omega (arith, seek_end c.loop-end.invariant c.loop-end-test.false), c.requires, omega arith)
