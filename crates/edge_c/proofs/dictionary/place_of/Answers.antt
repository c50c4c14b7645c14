-- `edge_c::dictionary::place_of` meets its contract. Assumes nothing.
use native.Mathlib.Omega.{arith}
use Rattle.dictionary_layout.specs.Values.{contents}
use Rattle.dictionary_entries.proofs.Reading.{entry_fits}
use Rattle.edge_c.proofs.Places.{place_12, place_known}
use Rattle.edge_c.proofs.dictionary.place_of.Goals as goal

pub returns-then-counters-id : goal.returns-then-counters-id
returns-then-counters-id c =
    let d = contents c.args.numbers.now c.args.arena.now c.args.counters in
    place_12 d c.requires c.args.id c.if-counters-id.true

pub bounds-numbers-at : goal.bounds-numbers-at
bounds-numbers-at c =
    let d = contents c.args.numbers.now c.args.arena.now c.args.counters in
    omega (arith, (entry_fits d c.requires c.args.id c.if-counters-id.false).entry)

pub bounds-numbers-at-2 : goal.bounds-numbers-at-2
bounds-numbers-at-2 c =
    let d = contents c.args.numbers.now c.args.arena.now c.args.counters in
    omega (arith, (entry_fits d c.requires c.args.id c.if-counters-id.false).entry)

pub bounds-numbers-at-3 : goal.bounds-numbers-at-3
bounds-numbers-at-3 c =
    let d = contents c.args.numbers.now c.args.arena.now c.args.counters in
    omega (arith, (entry_fits d c.requires c.args.id c.if-counters-id.false).entry)

pub returns : goal.returns
returns c =
    let d = contents c.args.numbers.now c.args.arena.now c.args.counters in
    place_known d c.requires c.args.id c.if-counters-id.false
