-- `edge_decimal::number` meets its contract. Assumes nothing.
use Rattle.std.proofs.Common.{◌≡◌, ◌<◌, sym, length, get_or, arith, rules}
use Rattle.edge_decimal.proofs.Numerals.{number_empty, zero_led, leads, leads_not}
use Rattle.edge_decimal.proofs.Reading.{counted_bad, counted_over, counted_step, counted_end}
use Rattle.edge_decimal.proofs.number.Goals as goal
use Rattle.edge_decimal.proofs.number.Goals.{then-is_empty-via-then-is_empty, then-is_empty-via-else-is_empty+then-bytes-eq48}
use Rattle.edge_decimal.proofs.number.Goals.{then-bytes-gt1, else-bytes-gt1}

pub returns-then-is_empty : goal.returns-then-is_empty
returns-then-is_empty c =
    let bs = c.args.bytes.now in
    elim c.then-is_empty.branch [
      | then-is_empty-via-then-is_empty w ↦ sym (number_empty c.args.most bs (search rules))
      | then-is_empty-via-else-is_empty+then-bytes-eq48 w ↦ elim w.if-bytes-gt1.branch [
        | then-bytes-gt1 v ↦ sym (zero_led c.args.most bs (leads bs (search rules) v.if-bytes-gt1.true))
        | else-bytes-gt1 v ↦ search rules
      ]
    ]

pub returns-then-not-is_ascii_digit : goal.returns-then-not-is_ascii_digit
returns-then-not-is_ascii_digit c =
    sym (counted_bad c.loop-b.invariant c.loop-b-test.true (c.if-not-is_ascii_digit.ensures.cases))

pub returns-then-from-value : goal.returns-then-from-value
returns-then-from-value c = sym (counted_over c.loop-b.invariant c.loop-b-test.true (omega arith))

pub loop-b-preserved : goal.loop-b-preserved
loop-b-preserved c =
    let d = c.if-not-is_ascii_digit.ensures.cases in
    rw c.from.ensures (counted_step c.loop-b.invariant c.loop-b-test.true (omega arith) (omega arith) (omega arith))

pub returns : goal.returns
returns c =
    let none_led : 1 < length c.args.bytes.now → get_or c.args.bytes.now 0 0 ≡ 48 → ⊥ = search rules in
    sym (counted_end c.loop-b.invariant c.loop-b-test.false (leads_not c.args.bytes.now none_led (search rules)))
