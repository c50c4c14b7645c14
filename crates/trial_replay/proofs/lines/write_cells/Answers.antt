-- `trial_replay::lines::write_cells` meets its contract. Assumes nothing.
use Rattle.trial_replay.proofs.Reading.{written_is}
use Rattle.trial_replay.proofs.lines.write_cells.Goals as goal

pub returns : goal.returns
returns c =
    let read = c.read_row in
    let span = c.read_span-s.ensures in
    let args = c.args in
    written_is args.text.now args.at args.memory.now span.0 span.1 span.2 read.new.row
    read.auto.row read.ensures.0 read.ensures.1
