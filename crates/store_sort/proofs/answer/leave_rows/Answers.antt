-- `store_sort::leave_rows` meets its contract. Assumes nothing.
use Rattle.std.proofs.Common.{◌∙◌}
use Rattle.store_sort.proofs.Filled.{rows_left}
use Rattle.store_sort.proofs.answer.leave_rows.Goals as goal

pub returns : goal.returns
returns c =
    c.clear_from.ensures ∙ rows_left c.requires c.sort_rows.ensures
