-- `ntriples_lines::triple_line` meets its contract. Assumes nothing.
use lib.ListN.{drop}
use Rattle.ntriples_lines.proofs.Answers.{case_term, case_no_term}
use Rattle.ntriples_lines.proofs.Lines.{says_bad, subject_bad, predicate_bad, object_bad, unstopped, triple_said}
use Rattle.ntriples_lines.proofs.triple_line.Goals as goal

pub returns-in_err-s : goal.returns-in_err-s
returns-in_err-s c =
    let e = case_no_term c.in_err-s.ensures in
    rw c.from_residual.ensures (says_bad (subject_bad (drop c.args.at c.args.chars.now) e))

pub returns-in_err-p : goal.returns-in_err-p
returns-in_err-p c =
    let e = case_no_term c.in_err-p.ensures in
    rw c.from_residual-in_err-p.ensures (says_bad (predicate_bad (case_term c.in_ok-s.ensures) c.skip_space-at.ensures e))

pub returns-in_err-o : goal.returns-in_err-o
returns-in_err-o c =
    let e = case_no_term c.in_err-o.ensures in
    rw c.from_residual-in_err-o.ensures
    (says_bad (object_bad (case_term c.in_ok-s.ensures) c.skip_space-at.ensures (case_term c.in_ok-p.ensures) c.skip_space-at-2.ensures e))

pub returns-then-not-stopped : goal.returns-then-not-stopped
returns-then-not-stopped c =
    says_bad (unstopped (case_term c.in_ok-s.ensures) c.skip_space-at.ensures (case_term c.in_ok-p.ensures) c.skip_space-at-2.ensures
    (case_term c.in_ok-o.ensures) c.skip_space-at-3.ensures c.if-not-stopped.ensures)

pub returns : goal.returns
returns c =
    triple_said (case_term c.in_ok-s.ensures) c.skip_space-at.ensures (case_term c.in_ok-p.ensures) c.skip_space-at-2.ensures
    (case_term c.in_ok-o.ensures) c.skip_space-at-3.ensures c.requires c.if-not-stopped.ensures
