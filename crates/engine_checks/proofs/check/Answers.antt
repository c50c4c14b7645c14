-- `engine_checks::check` meets its contract. Assumes nothing.
use Rattle.std.proofs.Common.{refl, rules}
use Rattle.std.proofs.lemmas.Result.{err_from_is_err_and}
use Rattle.engine_checks.proofs.Whole.{whole_over, whole_fits}
use Rattle.engine_checks.proofs.check.Goals as goal

pub returns-in_err-found : goal.returns-in_err-found
returns-in_err-found c =
    let p = err_from_is_err_and c.from_residual.result c.from_residual.ensures.1 in
    rw (p.1, p.2) (whole_over c.in_err-found.ensures refl)

pub returns : goal.returns
returns c =
    whole_fits c.in_ok-found.ensures refl c.sort_rows.ensures c.clear_from.ensures (search rules)
