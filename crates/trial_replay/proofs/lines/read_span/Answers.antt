-- `trial_replay::lines::read_span` meets its contract. Assumes nothing.
use Rattle.std.proofs.Common.{◌≡◌, ◌∙◌, ◌&&◌}
use Rattle.std.specs.Option.{is_some}
use Rattle.trial_replay.proofs.Reading.{and_yes, and_no, span_is}
use Rattle.trial_replay.proofs.lines.read_span.Goals as goal
use Rattle.trial_replay.proofs.lines.read_span.Goals.{then-is_some, else-is_some}

pub returns : goal.returns
returns c =
    let args = c.args in
    let first = c.read_number-first.result.value in
    let n = c.read_number-n.result.value in
    let ok : c.if-is_some.ok ≡ is_some first && is_some n = elim c.if-is_some.branch [
      | then-is_some w ↦ and_yes c.is_some.ensures w.if-is_some.true (w.ok-is ∙ w.is_some-ok.ensures)
      | else-is_some w ↦ and_no _ c.is_some.ensures w.if-is_some.false w.ok-is
    ] in
    let cells = rw (c.unwrap_or-a.ensures, c.unwrap_or-count.ensures) at c.cells_from.ensures.0 in (
      span_is args.text.now args.at args.cells c.read_number-first.ensures c.read_number-n.ensures ok cells,
      c.cells_from.ensures.1,
      c.cells_from.ensures.2,
    )
