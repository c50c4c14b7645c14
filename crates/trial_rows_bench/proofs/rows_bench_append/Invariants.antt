-- The loop of `trial_rows_bench::rows_bench_append`: the first k triples are appended. Assumes nothing.
use Rattle.trial_rows_bench.specs.Load.{Appended}
use Rattle.trial_rows_bench.proofs.rows_bench_append.Given as goal

abbrev pub invariant-loop-k : goal.invariant-loop-k
invariant-loop-k l = Appended l.load l.k l.initial.store l.store l.hash l.n
