use Rattle.common.specs.Values.{triple_of}
use Rattle.store_rows.specs.Rows.{row_at, row_graph}
use Rattle.engine_checks.specs.Pairs.{key_by, Gives}
use Rattle.engine_checks.proofs.Scanning.{Scanning}
use Rattle.engine_checks.proofs.check_row.Given as goal

abbrev pub invariant-loop-cur : goal.invariant-loop-cur
invariant-loop-cur l =
    Scanning (λ j. key_by l.k (row_at l.store j)) l.key l.n (λ j. Gives l.k (row_graph l.store l.n) (triple_of l.t) (row_at l.store j))
    l.initial.findings
    l.initial.done l.findings l.done l.cur

abbrev pub decreases-loop-cur : goal.decreases-loop-cur
decreases-loop-cur l = l.cur
