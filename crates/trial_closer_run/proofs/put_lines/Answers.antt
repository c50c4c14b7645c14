use Rattle.std.proofs.Common.{arith, ◌+◌}
use Rattle.edge_closer_text.proofs.Printing.{three_short}
use Rattle.trial_closer_run.proofs.put_lines.Goals as goal

-- a line of three ids has at most three_width bytes
pub loop-s-preserved : goal.loop-s-preserved
loop-s-preserved c =
    let s = c.loop-s.s in
    let small = c.requires.0 in
    let fits = c.ranges.p.fits in
    let short = three_short s c.args.p (s + 1) (omega arith) (omega arith) (omega arith) in
    let end = c.put_line-to.ensures.end in
    omega arith
