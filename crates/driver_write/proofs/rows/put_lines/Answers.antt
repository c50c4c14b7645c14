-- `rows::put_lines` meets its contract. Assumes nothing.
use Rattle.common.specs.Values.{triple_of}
use Rattle.dictionary_layout.specs.Values.{contents}
use Rattle.driver_write.specs.Lines.{terms_of}
use Rattle.driver_write.proofs.Measuring.{some_bytes, no_bytes}
use Rattle.driver_write.proofs.Texts.{lining_start, lining_as, row_known, line_fits, lining_line, lining_none, lining_end}
use Rattle.driver_write.proofs.rows.put_lines.Goals as goal
use Rattle.driver_write.proofs.rows.put_lines.Goals.{then-is_some, else-is_some}

pub loop-j-init : goal.loop-j-init
loop-j-init c =
    let a = c.args in
    lining_start (contents a.table.now a.arena.now a.counters) a.store.now a.page.now

pub line_length-requires : goal.line_length-requires
line_length-requires c =
    let f = c.requires in
    (f.lengths, row_known f c.loop-j.invariant c.loop-j-test.true c.row-t.ensures)

pub put_line-at-requires : goal.put_line-at-requires
put_line-at-requires c =
    let d = contents c.args.table.now c.args.arena.now c.args.counters in
    let t = terms_of d (triple_of c.row-t.result) in
    line_fits c.requires c.loop-j.invariant c.loop-j-test.true c.row-t.ensures
    (some_bytes t c.line_length.ensures c.if-is_some.ensures)

pub loop-j-preserved : goal.loop-j-preserved
loop-j-preserved c =
    let d = contents c.args.table.now c.args.arena.now c.args.counters in
    let t = terms_of d (triple_of c.row-t.result) in
    let f = c.requires in
    let l = c.loop-j.invariant in
    let h = c.loop-j-test.true in
    let e = c.row-t.ensures in
    elim c.if-is_some.branch [
      | then-is_some w ↦ lining_as w.page-is w.at-is (lining_line f l h e w.put_line-at.ensures)
      | else-is_some w
          ↦ lining_as w.page-is w.at-is (lining_none f l h e (no_bytes t c.line_length.ensures w.if-is_some.ensures))
    ]

pub returns : goal.returns
returns c = lining_end c.requires c.loop-j.invariant c.loop-j-test.false
