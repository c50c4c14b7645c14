-- `trial_replay::lines::call` meets its contract. Assumes nothing.
use Rattle.std.proofs.Common.{◌≡◌, ◌∙◌, ◌&&◌, ◌↔◌, true, ltb, rules}
use Rattle.std.specs.Option.{is_some}
use Rattle.trial_replay.specs.Text.{one_if}
use Rattle.trial_replay.proofs.Reading.{and_yes, and_no, same_row_test, call_is}
use Rattle.trial_replay.proofs.lines.call.Goals as goal
use Rattle.trial_replay.proofs.lines.call.Goals.{then-is_some, else-is_some}

pub returns : goal.returns
returns c =
    let args = c.args in
    let number = c.read_number-number.result.value in
    let differs = c.read_number-differs.result.value in
    let ok : c.if-is_some.ok ≡ is_some number && is_some differs = elim c.if-is_some.branch [
      | then-is_some w ↦ and_yes c.is_some.ensures w.if-is_some.true (w.ok-is ∙ w.is_some-ok.ensures)
      | else-is_some w ↦ and_no _ c.is_some.ensures w.if-is_some.false w.ok-is
    ] in
    let same : c.eq-agrees.result ≡ true ↔ (c.make.new.memory ≡ args.expected.now) = search rules in
    let calls : c.from.result ≡ one_if (ltb c.unwrap_or-which.result 8) = search rules in
    let differences : c.from-2.result ≡ one_if c.is_difference-difference.result = search rules in
    let made = rw c.unwrap_or-which.ensures at c.make.ensures in
    let said = rw c.unwrap_or.ensures at c.is_difference-difference.ensures in
    let called = rw c.unwrap_or-which.ensures at calls in
    call_is args.text.now args.at args.memory.now args.expected.now c.read_number-number.ensures c.read_number-differs.ensures made
    (same_row_test _ same) ok called said differences
