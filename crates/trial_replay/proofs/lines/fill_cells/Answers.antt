-- `trial_replay::lines::fill_cells` meets its contract. Assumes nothing.
use Rattle.std.proofs.Common.{refl}
use Rattle.trial_replay.proofs.Reading.{and_yes, and_no, filled_is}
use Rattle.trial_replay.proofs.lines.fill_cells.Goals as goal

pub returns-then-s : goal.returns-then-s
returns-then-s c =
    let span = c.read_span-s.ensures in
    filled_is c.args.text.now c.args.at c.args.memory.now span.0 span.1 span.2 c.fill.new.row c.fill.auto.row
    c.read_number-number.ensures (and_yes refl c.if-s.true c.is_some.ensures) (rw c.unwrap_or.ensures at c.fill.ensures)

pub returns-else-s : goal.returns-else-s
returns-else-s c =
    let span = c.read_span-s.ensures in
    filled_is c.args.text.now c.args.at c.args.memory.now span.0 span.1 span.2 c.fill.new.row c.fill.auto.row
    c.read_number-number.ensures (and_no _ refl c.if-s.false refl) (rw c.unwrap_or.ensures at c.fill.ensures)
