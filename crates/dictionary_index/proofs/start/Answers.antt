-- `dictionary_index::start` meets its contract. Assumes nothing.
use mathlib.Core.Path.{sym}
use lib.ListN.{length}
use Rattle.std.proofs.lemmas.Result.{err_from_is_err_and}
use Rattle.common.proofs.Refusals.{numbered}
use Rattle.dictionary_layout.proofs.Reachable.{start_refuses}
use Rattle.dictionary_entries.proofs.Starting.{blank_cleared, start_done}
use Rattle.dictionary_index.proofs.start.Goals as goal

pub returns-in_err-start_refusal : goal.returns-in_err-start_refusal
returns-in_err-start_refusal c =
    let p = err_from_is_err_and c.from_residual.result c.from_residual.ensures.1 in
    rw (p.1, p.2)
    (start_refuses c.args.table.now c.args.arena.now _ c.in_err-start_refusal.ensures (numbered _))

pub enter_all-requires : goal.enter_all-requires
enter_all-requires c =
    blank_cleared (length c.args.table.now) (length c.args.arena.now) (sym c.in_ok-start_refusal.ensures)
    (c.fill.ensures.after (λ y e. e)) (c.fill-2.ensures.after (λ y e. e))

pub returns : goal.returns
returns c =
    start_done c.args.table.now c.args.arena.now (sym c.in_ok-start_refusal.ensures) c.fill.ensures.len
    c.fill-2.ensures.len c.enter_all.ensures
