-- `trial_buffers::reader::read_bytes` meets its contract. Assumes nothing.
use Rattle.std.proofs.Common.{◌≡◌, ◌∙◌, ap, arith, rules}
use Rattle.std.proofs.lemmas.Grind.{common_steps}
use Rattle.trial_buffers.specs.Reading.{is_byte, byte_of, number_after, read_of}
use Rattle.trial_buffers.proofs.Fields.{cursor_none, cursor_good, cursor_bad, value_next, Byte, byte_read}
use Rattle.trial_buffers.proofs.reader.read_bytes.Goals as goal
use Rattle.trial_buffers.proofs.reader.read_bytes.Goals.{then-end, else-end}

pub loop-byte-init : goal.loop-byte-init
loop-byte-init c = (cursor_none is_byte c.args.text.now c.args.from, λ k h. absurd (omega arith))

pub loop-byte-preserved : goal.loop-byte-preserved
loop-byte-preserved c =
    let text = c.args.text.now in
    let loop = c.loop-byte in
    let i = loop.byte-index in
    let read = read_of c.read_number-read.result in
    let byte : Byte c.read_number-read.result.value c.and_then-value.result = search rules in
    let b = byte_read _ _ byte in
    let number = value_next is_byte text c.args.from loop.end i loop.invariant.0 read c.read_number-read.ensures in
    let value : c.unwrap_or.result ≡ byte_of (number_after is_byte text c.args.from i) = c.unwrap_or.ensures ∙ b.1 ∙ ap byte_of number in (
      elim c.if-end.branch [
        | then-end w ↦
            w.end-is
            ∙ cursor_good is_byte text c.args.from loop.end i loop.invariant.0 read c.read_number-read.ensures w.if-end.true
            (w.is_some.ensures ∙ b.0)
        | else-end w ↦
            w.end-is ∙ cursor_bad is_byte text c.args.from loop.end i loop.invariant.0 read c.read_number-read.ensures w.if-end.false
      ],
      grind (arith, common_steps),
    )
