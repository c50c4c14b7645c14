-- `engine_checks::check_row` meets its contract. Assumes nothing.
use Rattle.std.proofs.Common.{◌-◌, arith}
use Rattle.std.proofs.lemmas.Result.{err_from_is_err_and}
use Rattle.common.specs.Values.{triple_of}
use Rattle.store_rows.proofs.Chain.{chain_head, chain_link}
use Rattle.engine_checks.specs.Pairs.{finding_of}
use Rattle.engine_checks.proofs.Pairing.{chain_by}
use Rattle.engine_checks.proofs.Scanning.{scanning_start, scanning_below, scanning_skip, scanning_step, scanning_full}
use Rattle.engine_checks.proofs.Giving.{once_assertion, appended_gives, gives_none, appended_with}
use Rattle.engine_checks.proofs.check_row.Goals as goal

pub loop-cur-init : goal.loop-cur-init
loop-cur-init c =
    let pre = c.requires in
    scanning_start pre.1 (chain_head (chain_by pre.0.indexed c.args.k _ c.assertions_block-block.ensures) _ _
    (omega (arith, c.wide-key.ensures, pre.2.s)) c.head-cur.ensures)

pub returns-in_err-done : goal.returns-in_err-done
returns-in_err-done c =
    let loop = c.loop-cur in
    let args = c.args in
    let p = err_from_is_err_and c.from_residual.result c.from_residual.ensures.1 in
    rw (p.1, p.2) (appended_with args.k args.store.now args.n (triple_of args.t) _ c.wide-key.ensures
    (scanning_full loop.invariant c.loop-cur-test.true
    (once_assertion args.k args.store.now args.n (triple_of args.t) c.requires.0.good)
    (appended_gives args.k args.store.now args.n (triple_of args.t) (triple_of c.row-u.result) (loop.cur - 1)
    c.row-u.ensures (c.violates.ensures.yes c.if-violates.true)
    (finding_of c.finding_by.result) c.finding_by.ensures c.in_err-done.ensures)
    (chain_link (chain_by c.requires.0.indexed args.k _ c.assertions_block-block.ensures) (loop.cur - 1) _
    (scanning_below loop.invariant c.loop-cur-test.true) c.link-next.ensures)))

pub loop-cur-smaller-in_ok-done : goal.loop-cur-smaller-in_ok-done
loop-cur-smaller-in_ok-done c =
    let loop = c.loop-cur in
    let args = c.args in
    omega (
      arith,
      (chain_link (chain_by c.requires.0.indexed args.k _ c.assertions_block-block.ensures) (loop.cur - 1) _
          (scanning_below loop.invariant c.loop-cur-test.true) c.link-next.ensures).below,
    )

pub loop-cur-preserved-in_ok-done : goal.loop-cur-preserved-in_ok-done
loop-cur-preserved-in_ok-done c =
    let loop = c.loop-cur in
    let args = c.args in
    scanning_step loop.invariant c.loop-cur-test.true
    (once_assertion args.k args.store.now args.n (triple_of args.t) c.requires.0.good)
    (appended_gives args.k args.store.now args.n (triple_of args.t) (triple_of c.row-u.result) (loop.cur - 1)
    c.row-u.ensures (c.violates.ensures.yes c.if-violates.true)
    (finding_of c.finding_by.result) c.finding_by.ensures c.in_ok-done.ensures)
    (chain_link (chain_by c.requires.0.indexed args.k _ c.assertions_block-block.ensures) (loop.cur - 1) _
    (scanning_below loop.invariant c.loop-cur-test.true) c.link-next.ensures)

pub loop-cur-preserved : goal.loop-cur-preserved
loop-cur-preserved c =
    let loop = c.loop-cur in
    let args = c.args in
    scanning_skip loop.invariant c.loop-cur-test.true
    (chain_link (chain_by c.requires.0.indexed args.k _ c.assertions_block-block.ensures) (loop.cur - 1) _
    (scanning_below loop.invariant c.loop-cur-test.true) c.link-next.ensures)
    (gives_none args.k args.store.now args.n (triple_of args.t) (triple_of c.row-u.result)
    (loop.cur - 1) c.row-u.ensures (c.violates.ensures.no c.if-violates.false))
