-- `trial_buffers::reader::read_number` meets its contract. Assumes nothing.
use Rattle.trial_buffers.proofs.Fields.{read_past, read_none, read_some}
use Rattle.trial_buffers.proofs.reader.read_number.Goals as goal

pub returns-then-text-at : goal.returns-then-text-at
returns-then-text-at c = read_past _ _ c.if-text-at.true

pub returns-in-None : goal.returns-in-None
returns-in-None c =
    read_none c.args.text.now c.args.at c.end_of_number-end.result c.if-text-at.false c.end_of_number-end.ensures.0 c.in-None.ensures

pub returns-in-Some : goal.returns-in-Some
returns-in-Some c =
    read_some c.args.text.now c.args.at c.end_of_number-end.result c.if-text-at.false c.end_of_number-end.ensures.0
    c.in-Some.ensures c.after.ensures
