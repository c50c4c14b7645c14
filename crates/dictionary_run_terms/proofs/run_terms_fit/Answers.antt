-- `dictionary_run_terms::run_terms_fit` meets its contract. Assumes nothing.
use native.Mathlib.Omega.{arith}
use lib.Dec.{lit≤}
use Rattle.dictionary_layout.specs.Terms.{property_term, membership_term, member_term}
use Rattle.dictionary_layout.specs.Layout.{decode}
use Rattle.dictionary_layout.specs.Values.{contents}
use Rattle.dictionary_run_terms.proofs.Counting.{countable, counted_one, counted_two, counted_three}
use Rattle.dictionary_run_terms.proofs.Fitting.{run_no_entry, run_by_bytes}
use Rattle.dictionary_run_terms.proofs.run_terms_fit.Goals as goal

pub count_new-c-requires : goal.count_new-c-requires
count_new-c-requires c =
    let d = contents c.args.table.now c.args.arena.now c.args.counters in
    countable d c.requires property_term.bytes c.args.counters (lit≤ tt) (omega arith) (omega arith)

pub count_new-c-requires-2 : goal.count_new-c-requires-2
count_new-c-requires-2 c =
    let d = contents c.args.table.now c.args.arena.now
    c.args.counters in let b = counted_one d property_term c.count_new-c.ensures (lit≤ tt) in
    countable d c.requires membership_term.bytes c.count_new-c.result (lit≤ tt) b.0 b.1

pub count_new-c-requires-3 : goal.count_new-c-requires-3
count_new-c-requires-3 c =
    let d = contents c.args.table.now c.args.arena.now c.args.counters in
    let b = counted_two d property_term c.count_new-c.ensures membership_term
    c.count_new-c-2.ensures (lit≤ tt) (lit≤ tt) in
    countable d c.requires member_term.bytes c.count_new-c-2.result (lit≤ tt) b.0 b.1

pub returns-else-c-table : goal.returns-else-c-table
returns-else-c-table c =
    let d = contents c.args.table.now c.args.arena.now c.args.counters in
    run_no_entry d c.requires c.count_new-c-3.result
    (counted_three (decode d) c.args.counters c.count_new-c.ensures c.count_new-c-2.ensures
    c.count_new-c-3.ensures) c.if-c-table.false

pub returns-then-c-table : goal.returns-then-c-table
returns-then-c-table c =
    let d = contents c.args.table.now c.args.arena.now c.args.counters in
    run_by_bytes d c.requires c.count_new-c-3.result
    (counted_three (decode d) c.args.counters c.count_new-c.ensures c.count_new-c-2.ensures
    c.count_new-c-3.ensures) c.if-c-table.true
