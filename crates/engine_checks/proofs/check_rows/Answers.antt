-- `engine_checks::check_rows` meets its contract. Assumes nothing.
use Rattle.std.proofs.Common.{◌≡◌, ◌-◌, rules}
use Rattle.std.proofs.lemmas.Result.{err_from_is_err_and}
use Rattle.common.specs.Values.{triple_of}
use Rattle.engine_checks.proofs.Scanning.{scanning_start, scanning_skip, scanning_step, scanning_full}
use Rattle.engine_checks.proofs.Giving.{every_row, once_axiom, appended_row, row_none, appended_rows}
use Rattle.engine_checks.proofs.Whole.{ready_start}
use Rattle.engine_checks.proofs.check_rows.Goals as goal

pub loop-i-init : goal.loop-i-init
loop-i-init c = scanning_start (ready_start _ c.requires.1) (every_row _)

pub returns-in_err-done : goal.returns-in_err-done
returns-in_err-done c =
    let loop = c.loop-i in
    let args = c.args in
    let some : loop.i ≡ 0 → ⊥ = search rules in
    let p = err_from_is_err_and c.from_residual.result c.from_residual.ensures.1 in
    rw (p.1, p.2) (appended_rows args.store.now args.n
    (scanning_full loop.invariant some (once_axiom args.store.now args.n c.requires.0.good)
    (appended_row args.store.now args.n (triple_of c.row-t.result) c.in-Some.k (loop.i - 1)
    c.in-Some.ensures c.row-t.ensures c.in_err-done.ensures) (every_row (loop.i - 1))))

pub loop-i-preserved-in-Some : goal.loop-i-preserved-in-Some
loop-i-preserved-in-Some c =
    let loop = c.loop-i in
    let args = c.args in
    let some : loop.i ≡ 0 → ⊥ = search rules in
    scanning_step loop.invariant some (once_axiom args.store.now args.n c.requires.0.good)
    (appended_row args.store.now args.n (triple_of c.row-t.result) c.in-Some.k (loop.i - 1)
    c.in-Some.ensures c.row-t.ensures c.in_ok-done.ensures) (every_row (loop.i - 1))

pub loop-i-preserved : goal.loop-i-preserved
loop-i-preserved c =
    let loop = c.loop-i in
    let some : loop.i ≡ 0 → ⊥ = search rules in
    scanning_skip loop.invariant some (every_row (loop.i - 1))
    (row_none c.args.store.now c.args.n (triple_of c.row-t.result) (loop.i - 1) c.in_default.ensures c.row-t.ensures)
