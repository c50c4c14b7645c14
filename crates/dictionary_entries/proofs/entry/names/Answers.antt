-- `dictionary_entries::entry::names` meets its contract. Assumes nothing.
use Rattle.dictionary_entries.proofs.Searching.{other_kind, same_kind}
use Rattle.dictionary_entries.proofs.entry.names.Goals as goal

pub returns-then-table-at : goal.returns-then-table-at
returns-then-table-at c =
    let args = c.args in
    other_kind args.table.now args.arena.now args.id args.kind args.bytes.now c.if-table-at.true

pub returns : goal.returns
returns c =
    let args = c.args in
    same_kind args.table.now args.arena.now args.id args.kind args.bytes.now c.eq.result
    c.if-table-at.false c.eq.ensures
