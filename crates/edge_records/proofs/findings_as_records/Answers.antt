-- `edge_records::findings_as_records` meets its contract. Assumes nothing.
use Rattle.std.proofs.Common.{◌≡◌, None, Some, arith}
use Rattle.edge_records.proofs.Filling.{filled_more, filled_none, gives}
use Rattle.edge_records.proofs.findings_as_records.Goals as goal

pub returns-in_default : goal.returns-in_default
returns-in_default c = gives c.args.numbers.now c.args.records.now None c.in_default.ensures

pub loop-i-init : goal.loop-i-init
loop-i-init c = filled_none c.args.numbers.now c.args.records.now

pub loop-i-preserved : goal.loop-i-preserved
loop-i-preserved c =
    rw c.loop-i.invariant (filled_more c.args.numbers.now c.loop-i.i c.args.records.now c.record_at.result c.record_at.ensures)

pub returns : goal.returns
returns c =
    let count = c.in-Some.count in
    let all : c.loop-i.i ≡ count = omega arith in
    rw (c.loop-i.invariant, all) (gives c.args.numbers.now c.args.records.now (Some count) c.in-Some.ensures)
