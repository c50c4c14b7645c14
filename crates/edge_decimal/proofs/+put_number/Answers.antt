-- `edge_decimal::put_number` meets its contract. Assumes nothing.
use native.Mathlib.Omega.{arith}
use Rattle.edge_decimal.proofs.Writing.{length_one, length_more, wrote_one, last_fits, wrote_more}
use Rattle.edge_decimal.proofs.+put_number.Goals as goal

pub bounds-out-at : goal.bounds-out-at
bounds-out-at t c = omega (arith, length_one c.args.n c.if-n-lt10.true, c.requires)

pub returns-then-n-lt10 : goal.returns-then-n-lt10
returns-then-n-lt10 t c = wrote_one c.args.n c.args.out.now c.args.at c.if-n-lt10.true c.requires

pub put_number-last-requires : goal.put_number-last-requires
put_number-last-requires t c =
    let e = length_more c.args.n c.if-n-lt10.false in
    (omega arith, omega arith)

pub bounds-out-last : goal.bounds-out-last
bounds-out-last t c =
    omega (arith, last_fits c.args.n c.if-n-lt10.false c.requires c.put_number-last.ensures, c.put_number-last.ensures.end)

pub returns : goal.returns
returns t c = wrote_more c.args.n c.if-n-lt10.false c.requires c.put_number-last.ensures
