-- `driver_write::terms::term_length` meets its contract. Assumes nothing.
use native.Mathlib.Omega.{arith}
use Rattle.dictionary_layout.specs.Values.{contents}
use Rattle.dictionary_entries.proofs.Reading.{entry_fits}
use Rattle.driver_write.proofs.Entries.{entry_measurable, entry_length}
use Rattle.driver_write.proofs.terms.term_length.Goals as goal

pub bounds-table-at : goal.bounds-table-at
bounds-table-at c =
    let d = contents c.args.table.now c.args.arena.now c.args.counters in
    omega (arith, (entry_fits d c.requires.0 c.args.id c.requires.1).entry)

pub bounds-table-at-2 : goal.bounds-table-at-2
bounds-table-at-2 c =
    let d = contents c.args.table.now c.args.arena.now c.args.counters in
    omega (arith, (entry_fits d c.requires.0 c.args.id c.requires.1).entry)

pub bounds-table-at-3 : goal.bounds-table-at-3
bounds-table-at-3 c =
    let d = contents c.args.table.now c.args.arena.now c.args.counters in
    omega (arith, (entry_fits d c.requires.0 c.args.id c.requires.1).entry)

pub slice_bounds-text_length-end : goal.slice_bounds-text_length-end
slice_bounds-text_length-end c =
    let d = contents c.args.table.now c.args.arena.now c.args.counters in
    (entry_fits d c.requires.0 c.args.id c.requires.1).part

pub text_length-requires : goal.text_length-requires
text_length-requires c =
    let d = contents c.args.table.now c.args.arena.now c.args.counters in
    entry_measurable d c.requires.0 c.args.id c.requires.1 c.requires.2

pub returns : goal.returns
returns c =
    let d = contents c.args.table.now c.args.arena.now c.args.counters in
    entry_length d c.requires.0 c.args.id c.requires.1 c.text_length.ensures
