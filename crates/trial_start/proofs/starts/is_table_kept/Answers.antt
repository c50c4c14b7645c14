-- `trial_start::starts::is_table_kept` meets its contract. Assumes nothing.
use Rattle.std.proofs.Common.{◌≡◌, true, ◌↔◌, EachIndex, get_or, rules}
use Rattle.trial_start.specs.Starts.{mark}
use Rattle.trial_start.proofs.Marks.{kept_each}
use Rattle.trial_start.proofs.starts.is_table_kept.Goals as goal

pub returns : goal.returns
returns c =
    let table = c.args.table.now in
    let each : c.all.result ≡ true ↔ EachIndex table (λ k. get_or table k 0 ≡ mark) = search rules in
    kept_each table _ each
