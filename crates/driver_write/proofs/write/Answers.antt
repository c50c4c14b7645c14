-- `write` meets its contract. Assumes nothing.
use mathlib.Core.Path.{sym, ◌∙◌, refl}
use Prim.Native.Nat.{◌*◌}
use lib.ListN.{length, take}
use Rattle.common.specs.Sizes.{store_width}
use Rattle.common.specs.Triples.{all}
use Rattle.dictionary_layout.specs.Dictionary.{valid}
use Rattle.dictionary_layout.specs.Values.{contents}
use Rattle.dictionary_layout.proofs.Choice.{true→T, false→not_T}
use Rattle.ntriples_canonical.specs.Calls.{lengths_hold, known}
use Rattle.driver_write.specs.Lines.{row_triples}
use Rattle.driver_write.proofs.Outcomes.{lent_long, lent_whole, lent_known, write_1, write_4, write_6, write_rows}
use Rattle.driver_write.proofs.write.Goals as goal

pub returns-then-not-is_valid : goal.returns-then-not-is_valid
returns-then-not-is_valid c =
    let d = contents c.args.table.now c.args.arena.now c.args.counters in
    write_1 d c.args.store.now c.args.count c.args.page.now refl (false→not_T (valid d) c.if-not-is_valid.ensures)

pub returns-then-not-holds : goal.returns-then-not-holds
returns-then-not-holds c =
    let d = contents c.args.table.now c.args.arena.now c.args.counters in
    let store = c.args.store.now in
    let v = true→T (valid d) c.if-not-is_valid.ensures in
    write_4 d store c.args.count c.args.page.now v refl
    (false→not_T (lengths_hold (length store) c.args.count) c.if-not-holds.ensures)

pub slice_bounds-all_known-end : goal.slice_bounds-all_known-end
slice_bounds-all_known-end c =
    let store = c.args.store.now in
    sym (lent_long store c.args.count (true→T (lengths_hold (length store) c.args.count) c.if-not-holds.ensures))

pub all_known-requires : goal.all_known-requires
all_known-requires c =
    let store = c.args.store.now in
    lent_whole store c.args.count (true→T (lengths_hold (length store) c.args.count) c.if-not-holds.ensures)

pub returns-then-not-all_known : goal.returns-then-not-all_known
returns-then-not-all_known c =
    let d = contents c.args.table.now c.args.arena.now c.args.counters in
    let store = c.args.store.now in
    let v = true→T (valid d) c.if-not-is_valid.ensures in
    let h = true→T (lengths_hold (length store) c.args.count) c.if-not-holds.ensures in
    let lent = take (store_width * c.args.count) store in
    write_6 d store c.args.count c.args.page.now v h refl
    (false→not_T (all (known c.args.counters.terms) (row_triples lent)) c.if-not-all_known.ensures)

pub slice_bounds-write_rows-end : goal.slice_bounds-write_rows-end
slice_bounds-write_rows-end c =
    let store = c.args.store.now in
    sym (lent_long store c.args.count (true→T (lengths_hold (length store) c.args.count) c.if-not-holds.ensures))

pub write_rows-requires : goal.write_rows-requires
write_rows-requires c =
    let d = contents c.args.table.now c.args.arena.now c.args.counters in
    let store = c.args.store.now in
    let h = true→T (lengths_hold (length store) c.args.count) c.if-not-holds.ensures in
    let lent = take (store_width * c.args.count) store in
    let k = true→T (all (known c.args.counters.terms) (row_triples lent)) c.if-not-all_known.ensures in
    (true→T (valid d) c.if-not-is_valid.ensures, lent_known store c.args.count h d k)

pub returns : goal.returns
returns c =
    let d = contents c.args.table.now c.args.arena.now c.args.counters in
    let store = c.args.store.now in
    let v = true→T (valid d) c.if-not-is_valid.ensures in
    let h = true→T (lengths_hold (length store) c.args.count) c.if-not-holds.ensures in
    let lent = take (store_width * c.args.count) store in
    let k = true→T (all (known c.args.counters.terms) (row_triples lent)) c.if-not-all_known.ensures in
    c.write_rows.ensures ∙ write_rows d store c.args.count c.args.page.now v h k
