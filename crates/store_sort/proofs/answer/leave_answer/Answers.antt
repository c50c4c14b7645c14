-- `sort::leave_answer` meets its contract. Assumes nothing.
use Rattle.store_sort.proofs.Filled.{answer_left}
use Rattle.store_sort.proofs.answer.leave_answer.Goals as goal

pub returns : goal.returns
returns c =
    answer_left c.requires c.sort_rows.ensures c.remove_zero_rows-kept.ensures
    c.clear_from.ensures
