-- `store_rows::remove_zero_rows` meets its contract. Assumes nothing.
use Rattle.std.proofs.Common.{sym, ◌∙◌}
use Rattle.common.specs.Values.{row_of}
use Rattle.store_rows.proofs.Removing.{removing_start, removing_skip, removing_keep}
use Rattle.store_rows.proofs.zeros.remove_zero_rows.Goals as goal
use Rattle.store_rows.proofs.zeros.remove_zero_rows.Goals.{then-no_zero, else-no_zero}

pub loop-i-init : goal.loop-i-init
loop-i-init c = removing_start c.args.store.now c.args.n

pub loop-i-preserved : goal.loop-i-preserved
loop-i-preserved c =
    let r = row_of c.whole_row-r.result in
    elim c.if-no_zero.branch [
      | then-no_zero w ↦ rw (w.store-is, w.kept-is)
          (removing_keep c.loop-i.invariant c.loop-i-test.true r c.whole_row-r.ensures c.requires
          (sym c.no_zero.ensures ∙ w.if-no_zero.true) w.put_row.ensures)
      | else-no_zero w ↦ rw (w.store-is, w.kept-is)
          (removing_skip c.loop-i.invariant c.loop-i-test.true r c.whole_row-r.ensures
          (sym c.no_zero.ensures ∙ w.if-no_zero.false))
    ]
