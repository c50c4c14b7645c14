-- `driver_write::terms::term_lengths` meets its contract. Assumes nothing.
use mathlib.Core.Path.{◌∙◌}
use native.Mathlib.Omega.{arith}
use Rattle.dictionary_layout.specs.Layout.{decode}
use Rattle.dictionary_layout.specs.Dictionary.{term_of}
use Rattle.dictionary_layout.specs.Values.{contents}
use Rattle.dictionary_entries.proofs.Reading.{count}
use Rattle.driver_write.proofs.Entries.{length_short, lengths_written, noted_as}
use Rattle.driver_write.proofs.terms.term_lengths.Goals as goal

pub overflow_cast-lengths : goal.overflow_cast-lengths
overflow_cast-lengths c =
    let d = contents c.args.table.now c.args.arena.now c.args.counters in
    let short = length_short d c.requires.unbroken c.loop-i.i c.loop-i-test.true in
    omega (arith, short, c.unwrap_or.ensures ∙ noted_as (term_of (decode d) c.loop-i.i) c.term_length-length.ensures)

pub bounds-lengths-i : goal.bounds-lengths-i
bounds-lengths-i c =
    let d = contents c.args.table.now c.args.arena.now c.args.counters in
    omega (arith, c.loop-i.invariant.long, c.requires.lengths, count d c.requires.unbroken, c.loop-i-test.true)

pub returns : goal.returns
returns c =
    let d = contents c.args.table.now c.args.arena.now c.args.counters in
    lengths_written {d = d} c.requires c.loop-i.invariant (omega (arith, c.loop-i-test.false))
