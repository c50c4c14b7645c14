-- `dictionary_puts::retract_last` meets its contract. Assumes nothing.
use mathlib.Core.Path.{◌∙◌}
use Prim.Native.Nat.{◌-◌}
use native.Mathlib.Omega.{arith}
use lib.ListN.{length-set}
use Rattle.dictionary_layout.specs.Values.{contents}
use Rattle.dictionary_entries.specs.Entries.{start_of, next_of}
use Rattle.dictionary_layout.proofs.Digests.{chain_below}
use Rattle.dictionary_hash.proofs.Hashing.{read_term}
use Rattle.dictionary_puts.proofs.Retracting.{last_fits, last_short, retract_leaves}
use Rattle.dictionary_puts.proofs.retract_last.Goals as goal

pub bounds-table-entry : goal.bounds-table-entry
bounds-table-entry c =
    let d = contents c.args.table.now c.args.arena.now c.args.counters in
    omega (arith, (last_fits d c.requires.0 c.requires.1).entry)

pub bounds-table-entry-2 : goal.bounds-table-entry-2
bounds-table-entry-2 c =
    let d = contents c.args.table.now c.args.arena.now c.args.counters in
    omega (arith, (last_fits d c.requires.0 c.requires.1).entry)

pub bounds-table-entry-3 : goal.bounds-table-entry-3
bounds-table-entry-3 c =
    let d = contents c.args.table.now c.args.arena.now c.args.counters in
    omega (arith, (last_fits d c.requires.0 c.requires.1).entry)

pub slice_bounds-digest-end : goal.slice_bounds-digest-end
slice_bounds-digest-end c =
    let d = contents c.args.table.now c.args.arena.now c.args.counters in
    (last_fits d c.requires.0 c.requires.1).part

pub digest-chain-requires : goal.digest-chain-requires
digest-chain-requires c =
    let d = contents c.args.table.now c.args.arena.now c.args.counters in
    last_short d c.requires.0 c.requires.1

pub bounds-table-entry-4 : goal.bounds-table-entry-4
bounds-table-entry-4 c =
    let d = contents c.args.table.now c.args.arena.now c.args.counters in
    omega (arith, (last_fits d c.requires.0 c.requires.1).entry)

pub offset_bounds-table-chain : goal.offset_bounds-table-chain
offset_bounds-table-chain c =
    let d = contents c.args.table.now c.args.arena.now c.args.counters in
    let k = d.terms - 1 in
    omega (arith, chain_below (read_term d.table d.arena k (start_of d.table k)) c.digest-chain.ensures)

pub bounds-table-chain : goal.bounds-table-chain
bounds-table-chain c =
    let d = contents c.args.table.now c.args.arena.now c.args.counters in
    let k = d.terms - 1 in
    let small = chain_below (read_term d.table d.arena k (start_of d.table k)) c.digest-chain.ensures in
    omega (arith, small, (last_fits d c.requires.0 c.requires.1).entry)

pub write_entry-requires : goal.write_entry-requires
write_entry-requires c =
    let d = contents c.args.table.now c.args.arena.now c.args.counters in
    let table = c.args.table.now in
    omega (
      arith,
      (last_fits d c.requires.0 c.requires.1).entry,
      length-set table c.digest-chain.result.chain (next_of table (d.terms - 1)),
    )

pub slice_bounds-fill-end : goal.slice_bounds-fill-end
slice_bounds-fill-end c =
    let d = contents c.args.table.now c.args.arena.now c.args.counters in
    (last_fits d c.requires.0 c.requires.1).part

pub shape_of-table : goal.shape_of-table
shape_of-table c =
    let table = c.args.table.now in
    c.write_entry.auto.table
    ∙ length-set table c.digest-chain.result.chain (next_of table (c.args.counters.terms - 1))

pub returns : goal.returns
returns c =
    let d = contents c.args.table.now c.args.arena.now c.args.counters in
    retract_leaves d c.requires.0 c.requires.1 c.digest-chain.ensures c.write_entry.ensures
    (c.fill.ensures.after (λ y e. e))
