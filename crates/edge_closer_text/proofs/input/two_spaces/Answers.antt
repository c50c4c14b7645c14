-- `input::two_spaces` meets its contract. Assumes nothing.
use Rattle.edge_closer_text.proofs.IdLines.{no_space, one_space, three_spaces, two_spaces}
use Rattle.edge_closer_text.proofs.input.two_spaces.Goals as goal

pub returns-in_err-a : goal.returns-in_err-a
returns-in_err-a c = rw c.from_residual.ensures (no_space c.args.line.now c.in_err-a.ensures.place)

pub returns-in_err-b : goal.returns-in_err-b
returns-in_err-b c =
    let a = c.in_ok-a in
    rw c.from_residual-in_err-b.ensures (one_space c.args.line.now a.a a.ensures.place a.ensures.within c.in_err-b.ensures.place)

pub returns-in-Some : goal.returns-in-Some
returns-in-Some c =
    let a = c.in_ok-a in
    let b = c.in_ok-b in
    let d = c.in-Some in
    three_spaces c.args.line.now a.a a.ensures.place a.ensures.within b.b b.ensures.place b.ensures.within d.field-0 d.ensures.place
    d.ensures.within

pub returns-in-None : goal.returns-in-None
returns-in-None c =
    let a = c.in_ok-a in
    let b = c.in_ok-b in
    two_spaces c.args.line.now a.a a.ensures.place a.ensures.within b.b b.ensures.place b.ensures.within c.in-None.ensures.place
