-- `dictionary_index::inner::locate` meets its contract. Assumes nothing.
use native.Mathlib.Omega.{arith}
use Rattle.dictionary_layout.specs.Values.{contents}
use Rattle.dictionary_entries.proofs.Reading.{entry_fits}
use Rattle.dictionary_index.proofs.Looking.{look_12, look_known}
use Rattle.dictionary_index.proofs.inner.locate.Goals as goal

pub returns-then-counters-id : goal.returns-then-counters-id
returns-then-counters-id c =
    let d = contents c.args.table.now c.args.arena.now c.args.counters in
    let i = c.args.id.0 in
    look_12 d c.requires i c.if-counters-id.true

pub bounds-table-at : goal.bounds-table-at
bounds-table-at c =
    let d = contents c.args.table.now c.args.arena.now c.args.counters in
    let i = c.args.id.0 in
    omega (arith, (entry_fits d c.requires i c.if-counters-id.false).entry)

pub bounds-table-at-2 : goal.bounds-table-at-2
bounds-table-at-2 c =
    let d = contents c.args.table.now c.args.arena.now c.args.counters in
    let i = c.args.id.0 in
    omega (arith, (entry_fits d c.requires i c.if-counters-id.false).entry)

pub overflow_add-end-2 : goal.overflow_add-end-2
overflow_add-end-2 c =
    let d = contents c.args.table.now c.args.arena.now c.args.counters in
    let i = c.args.id.0 in
    omega (arith, (entry_fits d c.requires i c.if-counters-id.false).part)

pub bounds-table-at-3 : goal.bounds-table-at-3
bounds-table-at-3 c =
    let d = contents c.args.table.now c.args.arena.now c.args.counters in
    let i = c.args.id.0 in
    omega (arith, (entry_fits d c.requires i c.if-counters-id.false).entry)

pub returns : goal.returns
returns c =
    let d = contents c.args.table.now c.args.arena.now c.args.counters in
    let i = c.args.id.0 in
    look_known d c.requires i c.if-counters-id.false
