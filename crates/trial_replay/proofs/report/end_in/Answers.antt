-- `trial_replay::report::end_in` meets its contract. Assumes nothing.
use Rattle.trial_replay.proofs.Reading.{no_room, named}
use Rattle.trial_replay.proofs.report.end_in.Goals as goal

pub returns-then-room-n : goal.returns-then-room-n
returns-then-room-n g c =
    no_room c.args.text.now c.args.at c.args.room.now c.read_number-length.ensures (rw c.unwrap_or-n.ensures at c.if-room-n.true)

pub returns : goal.returns
returns g c =
    named c.args.text.now c.args.at c.args.room.now c.read_number-length.ensures (rw c.unwrap_or-n.ensures at c.if-room-n.false)
    (rw (c.is_some.ensures, c.unwrap_or-n.ensures) at c.end_named.ensures)
