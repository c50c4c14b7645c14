-- `input::ids_of_line` meets its contract. Assumes nothing.
use Rattle.std.proofs.Common.{sym}
use Rattle.edge_closer_text.proofs.IdLines.{first_bad, second_bad, third_bad, all_good}
use Rattle.edge_closer_text.proofs.input.ids_of_line.Goals as goal

pub returns-in_err-s : goal.returns-in_err-s
returns-in_err-s c = rw c.from_residual-in_err-s.ensures (sym (first_bad c.in_ok-a.ensures (sym c.in_err-s.ensures)))

pub returns-in_err-p : goal.returns-in_err-p
returns-in_err-p c =
    rw c.from_residual-in_err-p.ensures (sym (second_bad c.in_ok-a.ensures (sym c.in_ok-s.ensures) (sym c.in_err-p.ensures)))

pub returns-in_err-o : goal.returns-in_err-o
returns-in_err-o c =
    rw c.from_residual-in_err-o.ensures
    (sym (third_bad c.in_ok-a.ensures (sym c.in_ok-s.ensures) (sym c.in_ok-p.ensures) (sym c.in_err-o.ensures)))

pub returns : goal.returns
returns c = sym (all_good c.in_ok-a.ensures (sym c.in_ok-s.ensures) (sym c.in_ok-p.ensures) (sym c.in_ok-o.ensures))
