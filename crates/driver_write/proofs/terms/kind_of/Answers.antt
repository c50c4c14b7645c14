-- `driver_write::terms::kind_of` meets its contract. Assumes nothing.
use native.Mathlib.Omega.{arith}
use Rattle.dictionary_layout.specs.Values.{contents}
use Rattle.dictionary_entries.proofs.Reading.{entry_fits}
use Rattle.driver_write.proofs.Entries.{entry_kind}
use Rattle.driver_write.proofs.terms.kind_of.Goals as goal

pub bounds-table-id : goal.bounds-table-id
bounds-table-id c =
    let d = contents c.args.table.now c.args.arena.now c.args.counters in
    omega (arith, (entry_fits d c.requires.0 c.args.id.0 c.requires.1).entry)

pub returns : goal.returns
returns c =
    let d = contents c.args.table.now c.args.arena.now c.args.counters in
    entry_kind d c.requires.0 c.args.id.0 c.requires.1
