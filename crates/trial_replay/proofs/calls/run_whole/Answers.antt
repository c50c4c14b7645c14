-- `trial_replay::calls::run_whole` meets its contract. Assumes nothing.
use Rattle.driver_refusals.specs.Lent.{lent}
use Rattle.trial_replay.proofs.Making.{whole_is}
use Rattle.trial_replay.proofs.calls.run_whole.Goals as goal

pub returns : goal.returns
returns c =
    let args = c.args in
    whole_is args.memory.now args.table.now args.arena.now c.counters_in-counters.ensures
    (lent args.load.now args.store.now args.findings.now args.work.now) c.run-next.ensures
    c.answer_run.ensures
