-- `dictionary_entries::append::write_entry` meets its contract. Assumes nothing.
use native.Mathlib.Omega.{arith}
use lib.ListN.{length-set}
use Rattle.dictionary_layout.specs.Layout.{entry_at}
use Rattle.dictionary_entries.proofs.Appending.{four_stores}
use Rattle.dictionary_entries.proofs.append.write_entry.Goals as goal

pub bounds-table-at-2 : goal.bounds-table-at-2
bounds-table-at-2 c = simp length-set (omega arith)

pub bounds-table-at-3 : goal.bounds-table-at-3
bounds-table-at-3 c = simp length-set (omega arith)

pub bounds-table-at-4 : goal.bounds-table-at-4
bounds-table-at-4 c = simp length-set (omega arith)

pub returns : goal.returns
returns c =
    four_stores c.args.table.now (entry_at c.args.id) c.args.start c.args.len c.args.kind c.args.next
