use Rattle.engine_checks.specs.Pairs.{GivenByRow}
use Rattle.engine_checks.specs.Findings.{nothing_yet}
use Rattle.engine_checks.proofs.Scanning.{Scanning}
use Rattle.engine_checks.proofs.check_rows.Given as goal

abbrev pub invariant-loop-i : goal.invariant-loop-i
invariant-loop-i l =
    Scanning (λ _. 0) 0 l.n (GivenByRow l.store l.n) l.initial.findings nothing_yet l.findings l.done l.i
