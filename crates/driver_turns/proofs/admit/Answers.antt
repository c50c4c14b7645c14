-- `driver_turns::admit` meets its contract. Assumes nothing.
use mathlib.Core.Path.{ap, ◌∙◌}
use mathlib.Core.Bool.{not}
use Rattle.std.proofs.lemmas.Result.{err_from_is_err_and}
use Rattle.common.proofs.Refusals.{numbered}
use Rattle.dictionary_layout.specs.Values.{contents}
use Rattle.driver_refusals.specs.Lent.{lent}
use Rattle.driver_run.proofs.Running.{valid_by, broken_by}
use Rattle.driver_turns.proofs.Turning.{admission_broken, admission_refused, admission_put}
use Rattle.driver_turns.proofs.admit.Goals as goal

pub returns-then-not-is_valid : goal.returns-then-not-is_valid
returns-then-not-is_valid c =
    let d = contents c.args.table.now c.args.arena.now c.args.counters in
    admission_broken d (lent c.args.load.now c.args.store.now c.args.findings.now c.args.work.now)
    (broken_by d (ap not c.if-not-is_valid.true) c.is_valid.ensures)

pub returns-in_err-run_refusal : goal.returns-in_err-run_refusal
returns-in_err-run_refusal c =
    let d = contents c.args.table.now c.args.arena.now c.args.counters in
    let p = err_from_is_err_and c.from_residual.result c.from_residual.ensures.1 in
    rw (p.1, p.2)
    (admission_refused d (lent c.args.load.now c.args.store.now c.args.findings.now c.args.work.now)
    (valid_by d (ap not c.if-not-is_valid.false) c.is_valid.ensures) c.in_err-run_refusal.ensures (numbered _))

pub put_run_terms-requires : goal.put_run_terms-requires
put_run_terms-requires c =
    valid_by (contents c.args.table.now c.args.arena.now c.args.counters) (ap not c.if-not-is_valid.false) c.is_valid.ensures

pub returns : goal.returns
returns c =
    let d = contents c.args.table.now c.args.arena.now c.args.counters in
    c.put_run_terms.ensures
    ∙ admission_put d (lent c.args.load.now c.args.store.now c.args.findings.now c.args.work.now)
    (valid_by d (ap not c.if-not-is_valid.false) c.is_valid.ensures) c.in_ok-run_refusal.ensures
