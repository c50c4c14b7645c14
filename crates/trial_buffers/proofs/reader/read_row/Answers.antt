-- `trial_buffers::reader::read_row` meets its contract. Assumes nothing.
use Rattle.std.proofs.Common.{◌≡◌, ◌∙◌, arith}
use Rattle.std.proofs.lemmas.Grind.{common_steps}
use Rattle.trial_buffers.specs.Reading.{any, number_after, read_of}
use Rattle.trial_buffers.proofs.Fields.{cursor_none, cursor_good, cursor_bad, value_next, and-true}
use Rattle.trial_buffers.proofs.reader.read_row.Goals as goal
use Rattle.trial_buffers.proofs.reader.read_row.Goals.{then-end, else-end}

pub loop-number-init : goal.loop-number-init
loop-number-init c = (cursor_none any c.args.text.now c.args.from, λ k h. absurd (omega arith))

pub loop-number-preserved : goal.loop-number-preserved
loop-number-preserved c =
    let text = c.args.text.now in
    let loop = c.loop-number in
    let i = loop.number-index in
    let read = read_of c.read_number-read.result in
    let value : c.unwrap_or.result ≡ number_after any text c.args.from i =
    c.unwrap_or.ensures ∙ value_next any text c.args.from loop.end i loop.invariant.0 read c.read_number-read.ensures in (
      elim c.if-end.branch [
        | then-end w ↦
            w.end-is
            ∙ cursor_good any text c.args.from loop.end i loop.invariant.0 read c.read_number-read.ensures w.if-end.true
            (w.is_some.ensures ∙ and-true _)
        | else-end w ↦
            w.end-is ∙ cursor_bad any text c.args.from loop.end i loop.invariant.0 read c.read_number-read.ensures w.if-end.false
      ],
      grind (arith, common_steps),
    )
