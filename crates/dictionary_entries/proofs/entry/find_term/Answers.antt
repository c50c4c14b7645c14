-- `dictionary_entries::entry::find_term` meets its contract. Assumes nothing.
use native.Mathlib.Omega.{arith}
use Rattle.dictionary_entries.proofs.Searching.{head_within, find_start, walked_below, walked_fits, some_term, first_fits}
use Rattle.dictionary_entries.proofs.Searching.{find_next, find_hit, find_miss}
use Rattle.dictionary_entries.proofs.entry.find_term.Goals as goal

pub bounds-table-chain : goal.bounds-table-chain
bounds-table-chain c =
    head_within c.requires

pub loop-id-init : goal.loop-id-init
loop-id-init c =
    find_start c.requires

pub names-requires : goal.names-requires
names-requires c =
    walked_fits c.requires c.loop-id.invariant

pub returns-then-names : goal.returns-then-names
returns-then-names c =
    find_hit c.requires c.loop-id.id (walked_below c.requires c.loop-id.invariant)
    c.names.ensures c.if-names.true

pub bounds-table-at : goal.bounds-table-at
bounds-table-at c =
    omega (arith, (walked_fits c.requires c.loop-id.invariant).entry)

pub loop-id-smaller : goal.loop-id-smaller
loop-id-smaller c =
    (find_next c.requires c.loop-id.invariant c.loop-id-test.true c.names.ensures
    c.if-names.false).1

pub loop-id-preserved : goal.loop-id-preserved
loop-id-preserved c =
    (find_next c.requires c.loop-id.invariant c.loop-id-test.true c.names.ensures
    c.if-names.false).0

pub names-requires-2 : goal.names-requires-2
names-requires-2 c =
    first_fits c.requires

pub returns-then-names-2 : goal.returns-then-names-2
returns-then-names-2 c =
    find_hit c.requires 0 (some_term c.requires) c.names-2.ensures c.if-names-2.true

pub returns-else-names-2 : goal.returns-else-names-2
returns-else-names-2 c =
    find_miss c.requires c.loop-id.invariant c.loop-id-test.false c.names-2.ensures c.if-names-2.false
