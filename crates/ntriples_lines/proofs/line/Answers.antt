-- `ntriples_lines::line` meets its contract. Assumes nothing.
use mathlib.Core.Path.{sym}
use native.Mathlib.Omega.{arith}
use lib.ListN.{take}
use Rattle.ntriples_lines.proofs.Lines.{says_bad, line_undecoded, line_room, line_decoded}
use Rattle.ntriples_lines.proofs.line.Goals as goal

pub returns-in_err-n : goal.returns-in_err-n
returns-in_err-n c = rw c.from_residual.ensures (says_bad (line_undecoded c.in_err-n.ensures))

pub statement-requires : goal.statement-requires
statement-requires c =
    let d = c.in_ok-n.ensures in
    line_room c.in_ok-n.n c.decode.new.chars c.requires d.few (omega arith) (sym d.chars_are)

pub returns : goal.returns
returns c =
    let d = c.in_ok-n.ensures in
    rw (line_decoded c.args.bytes.now (take c.in_ok-n.n c.decode.new.chars) (sym d.chars_are)) c.statement.ensures
