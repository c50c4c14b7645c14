-- `dictionary_index::inner::put_found` meets its contract. Assumes nothing.
use Rattle.dictionary_index.proofs.Refusals.{found_held, found_full_table, found_full_arena, found_appendable, found_new}
use Rattle.dictionary_index.proofs.inner.put_found.Goals as goal
use Rattle.dictionary_index.proofs.inner.put_found.Goals.{then-table-counters-via-then-table-counters}
use Rattle.dictionary_index.proofs.inner.put_found.Goals.{then-table-counters-via-else-table-counters+then-arena-counters}

pub returns-in-Some : goal.returns-in-Some
returns-in-Some c = found_held c.requires c.in-Some.is

pub returns-then-table-counters : goal.returns-then-table-counters
returns-then-table-counters c =
    let none = c.in_default.is in
    elim c.then-table-counters.branch [
      | then-table-counters-via-then-table-counters w ↦ found_full_table c.requires none w.if-table-counters.true
      | then-table-counters-via-else-table-counters+then-arena-counters w ↦ found_full_arena c.requires none w.if-arena-counters.true
    ]

pub append-next-requires : goal.append-next-requires
append-next-requires c =
    found_appendable c.requires c.in_default.is c.if-table-counters.false c.if-arena-counters.false

pub returns : goal.returns
returns c =
    found_new c.requires c.in_default.is c.if-table-counters.false c.if-arena-counters.false c.append-next.ensures
