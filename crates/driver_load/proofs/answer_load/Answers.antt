-- `driver_load::answer_load` meets its contract. Assumes nothing.
use mathlib.Core.Path.{refl}
use native.Mathlib.Omega.{arith}
use Rattle.driver_load.proofs.Answering.{outcome_8, outcome_9, outcome_0, distinct_rows, count_fits}
use Rattle.driver_load.proofs.answer_load.Goals as goal

pub returns-in_default : goal.returns-in_default
returns-in_default c =
    outcome_8 c.args.store.now c.args.findings.now c.close_load.auto.store c.in_default.ensures refl refl

pub returns-in_default-check : goal.returns-in_default-check
returns-in_default-check c =
    outcome_9 c.args.store.now c.args.findings.now c.close_load.auto.store c.in-Ok.ensures refl
    c.in_default-check.ensures refl refl

pub leave_answer-count-requires : goal.leave_answer-count-requires
leave_answer-count-requires c = distinct_rows (c.in-Ok.ensures.good refl)

pub overflow_cast-result : goal.overflow_cast-result
overflow_cast-result c =
    record {
      fits = count_fits c.leave_answer-count.ensures c.leave_answer-count.auto.store
          (omega (arith, c.close_load.auto.store, c.requires.1.few));
    }

pub returns : goal.returns
returns c =
    outcome_0 c.args.store.now c.args.findings.now c.close_load.auto.store c.in-Ok.ensures refl
    c.in-Ok-check.ensures refl c.leave_answer-count.ensures refl
