-- `trial_rows_bench::rows_bench_append` meets its contract. Assumes nothing.
use Rattle.std.proofs.Common.{rules, ◌≡◌, MatchResult}
use Rattle.store_rows.proofs.Walking.{extended_is}
use Rattle.trial_rows_bench.proofs.Appending.{appended_none, appended_more, rows_unwrapped}
use Rattle.trial_rows_bench.proofs.rows_bench_append.Goals as goal

pub loop-k-init : goal.loop-k-init
loop-k-init c = appended_none _ c.requires.0

pub loop-k-preserved : goal.loop-k-preserved
loop-k-preserved c =
    let n = c.unwrap_or_else-n.result in
    let each : MatchResult c.add-added.result (λ m. n ≡ m) (λ f. n ≡ f.rows) = search rules in
    rw (rows_unwrapped c.add-added.result n each)
    (appended_more _ c.loop-k.invariant (search rules) (extended_is c.load_row.ensures c.add-added.ensures))
