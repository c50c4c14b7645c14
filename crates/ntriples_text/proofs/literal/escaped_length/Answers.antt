-- `literal::escaped_length` meets its contract. Assumes nothing.
use mathlib.Core.Path.{ap}
use native.Mathlib.Omega.{arith}
use borrow.Author.Rules.{rules}
use lib.ListN.{length, get_or}
use Rattle.ntriples_text.proofs.Escapes.{measuring_step, measuring_end, as_it_is, in_two}
use Rattle.ntriples_text.proofs.literal.escaped_length.Goals as goal
use Rattle.ntriples_text.proofs.literal.escaped_length.Goals.{then-is_some, else-is_some}

pub loop-b-preserved : goal.loop-b-preserved
loop-b-preserved c =
    let letter = c.escape_letter in
    let b = get_or c.args.text.now c.loop-b.b-index 0 in
    measuring_step c.loop-b.invariant c.loop-b-test.true
    (elim c.if-is_some.branch [
      | then-is_some w ↦ omega (arith, ap length (in_two letter.result b letter.ensures (search rules)))
      | else-is_some w ↦ omega (arith, ap length (as_it_is letter.result b letter.ensures (search rules)))
    ])

pub returns : goal.returns
returns c = measuring_end c.loop-b.invariant c.loop-b-test.false
