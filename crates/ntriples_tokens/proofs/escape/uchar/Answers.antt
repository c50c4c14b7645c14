-- `escape::uchar` meets its contract. Assumes nothing.
use mathlib.Core.Path.{refl, ap, ◌∙◌}
use native.Mathlib.Omega.{arith}
use Rattle.std.proofs.Common.{◌<◌, inl, inr}
use lib.ListN.{drop, length}
use Rattle.ntriples_tokens.proofs.Parts.{part_all, part_front}
use Rattle.ntriples_tokens.proofs.Escapes.{uchar_few, uchar_none, uchar_some}
use Rattle.ntriples_tokens.proofs.escape.uchar.Goals as goal

pub returns-in_err-get : goal.returns-in_err-get
returns-in_err-get c =
    let cs = c.args.chars.now in
    let l = ap length (part_all cs c.args.at) in
    let h : length (drop c.args.at cs) < c.args.n =
    elim c.in_err-get.ensures.lookup.0 [ inl z ↦ absurd (omega arith) | inr k ↦ omega arith ] in
    rw c.from_residual.ensures (uchar_few c.args.n (drop c.args.at cs) h)

pub returns-in_err-v : goal.returns-in_err-v
returns-in_err-v c =
    let cs = c.args.chars.now in
    let h = c.in_ok-get.ensures.lookup.0 in
    rw c.from_residual-in_err-v.ensures
    (uchar_none c.args.n (drop c.args.at cs) (h.2 ∙ part_front cs c.args.at c.args.n) (omega arith) c.in_err-v.ensures refl)

pub returns : goal.returns
returns c =
    let cs = c.args.chars.now in
    let h = c.in_ok-get.ensures.lookup.0 in
    c.fit.ensures
    ∙ uchar_some c.args.n (drop c.args.at cs) (h.2 ∙ part_front cs c.args.at c.args.n) (omega arith) c.in_ok-v.ensures refl
