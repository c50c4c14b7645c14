-- `trial_replay::calls::run_lent` meets its contract. Assumes nothing.
use mathlib.Core.Path.{sym}
use native.Mathlib.Omega.{arith}
use lib.Seq.{length-take-le}
use Rattle.driver_refusals.specs.Lent.{lent}
use Rattle.trial_replay.specs.Made.{held}
use Rattle.trial_replay.proofs.Making.{run_lent_is}
use Rattle.trial_replay.proofs.calls.run_lent.Goals as goal

pub slice_bounds-run_load-end : goal.slice_bounds-run_load-end
slice_bounds-run_load-end c = sym (length-take-le _ _ (omega arith))

pub slice_bounds-run_load-end-3 : goal.slice_bounds-run_load-end-3
slice_bounds-run_load-end-3 c = sym (length-take-le _ _ (omega arith))

pub slice_bounds-run_load-end-5 : goal.slice_bounds-run_load-end-5
slice_bounds-run_load-end-5 c = sym (length-take-le _ _ (omega arith))

pub slice_bounds-run_load-end-7 : goal.slice_bounds-run_load-end-7
slice_bounds-run_load-end-7 c = sym (length-take-le _ _ (omega arith))

pub returns : goal.returns
returns c =
    let args = c.args in
    run_lent_is args.call (held args.memory.now args.table.now args.arena.now)
    (lent args.load.now args.store.now args.findings.now args.work.now) c.length_in-l.ensures.0
    c.length_in-s.ensures.0 c.length_in-f.ensures.0
    c.length_in-w.ensures.0 c.run_load.ensures
