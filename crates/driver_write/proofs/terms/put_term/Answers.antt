-- `driver_write::terms::put_term` meets its contract. Assumes nothing.
use native.Mathlib.Omega.{arith}
use Rattle.dictionary_layout.specs.Values.{contents}
use Rattle.dictionary_entries.proofs.Reading.{entry_fits}
use Rattle.driver_write.proofs.Entries.{entry_fits_page, entry_wrote}
use Rattle.driver_write.proofs.terms.put_term.Goals as goal

pub bounds-table-e : goal.bounds-table-e
bounds-table-e c =
    let d = contents c.args.table.now c.args.arena.now c.args.counters in
    omega (arith, (entry_fits d c.requires.0 c.args.id.0 c.requires.1).entry)

pub bounds-table-e-2 : goal.bounds-table-e-2
bounds-table-e-2 c =
    let d = contents c.args.table.now c.args.arena.now c.args.counters in
    omega (arith, (entry_fits d c.requires.0 c.args.id.0 c.requires.1).entry)

pub bounds-table-e-3 : goal.bounds-table-e-3
bounds-table-e-3 c =
    let d = contents c.args.table.now c.args.arena.now c.args.counters in
    omega (arith, (entry_fits d c.requires.0 c.args.id.0 c.requires.1).entry)

pub slice_bounds-put_text-end : goal.slice_bounds-put_text-end
slice_bounds-put_text-end c =
    let d = contents c.args.table.now c.args.arena.now c.args.counters in
    (entry_fits d c.requires.0 c.args.id.0 c.requires.1).part

pub put_text-requires : goal.put_text-requires
put_text-requires c =
    let d = contents c.args.table.now c.args.arena.now c.args.counters in
    entry_fits_page d c.requires.0 c.args.id.0 c.requires.1 c.requires.2

pub returns : goal.returns
returns c =
    let d = contents c.args.table.now c.args.arena.now c.args.counters in
    entry_wrote d c.requires.0 c.args.id.0 c.requires.1 c.put_text.ensures
