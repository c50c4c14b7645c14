-- `driver_write::rows::measure` meets its contract. Assumes nothing.
use Prim.Native.Nat.{◌/◌}
use native.Mathlib.Omega.{arith}
use lib.ListN.{length}
use Rattle.common.specs.Sizes.{store_width}
use Rattle.common.specs.Values.{triple_of}
use Rattle.dictionary_layout.specs.Values.{contents}
use Rattle.driver_write.proofs.Measuring.{line_short, its_length, measures_none, measures_more, measures_left, measures_all}
use Rattle.driver_write.proofs.Texts.{row_ids}
use Rattle.driver_write.proofs.rows.measure.Goals as goal
use Rattle.driver_write.proofs.rows.measure.Goals.{in-Some, in-None}

pub loop-j-init : goal.loop-j-init
loop-j-init c =
    let d = contents c.args.table.now c.args.arena.now c.args.counters in
    measures_none d c.args.store.now (length c.args.store.now / store_width)

pub line_length-requires : goal.line_length-requires
line_length-requires c =
    let n = c.args.counters.terms in
    let l = c.args.store.now in
    (c.requires.0, row_ids n l c.requires.1.whole c.requires.1.ids c.loop-j-test.true c.row.ensures)

pub overflow_add-used : goal.overflow_add-used
overflow_add-used c =
    let d = contents c.args.table.now c.args.arena.now c.args.counters in
    let n = c.args.counters.terms in
    let l = c.args.store.now in
    let m = c.loop-j.invariant in
    let ids = row_ids n l c.requires.1.whole c.requires.1.ids c.loop-j-test.true c.row.ensures in
    let short = line_short d c.requires.0.unbroken (triple_of c.row.result) ids in
    let its = its_length m c.loop-j-test.true c.row.ensures c.in-Some.ensures in
    omega (arith, short, its, m.short, c.loop-j-test.true, c.requires.1.few)

pub loop-j-preserved : goal.loop-j-preserved
loop-j-preserved c =
    let d = contents c.args.table.now c.args.arena.now c.args.counters in
    let n = c.args.counters.terms in
    let l = c.args.store.now in
    let m = c.loop-j.invariant in
    let h = c.loop-j-test.true in
    let e = c.row.ensures in
    let ids = row_ids n l c.requires.1.whole c.requires.1.ids h e in
    let short = line_short d c.requires.0.unbroken (triple_of c.row.result) ids in
    elim c.match-line_length.branch [
      | in-Some w ↦
          let f = w.in-Some.ensures in
          rw (w.used-is, w.left-is) (measures_more m h e f (omega (arith, short, its_length m h e f)))
      | in-None w ↦ rw (w.used-is, w.left-is) (measures_left m h e w.in-None.ensures)
    ]

pub returns : goal.returns
returns c =
    let d = contents c.args.table.now c.args.arena.now c.args.counters in
    let all = measures_all {d = d} c.loop-j.invariant c.loop-j-test.false c.requires.1.whole in
    λ i. record { used = all.0 i; left = all.1 i }
