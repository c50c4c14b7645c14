-- `terms::literal` meets its contract. Assumes nothing.
use native.Mathlib.Omega.{arith}
use lib.ListN.{drop}
use Rattle.ntriples_lines.proofs.Answers.{case_token, case_no_token, no_term}
use Rattle.ntriples_lines.proofs.ByFirst.{literal_bad, literal_found}
use Rattle.ntriples_lines.proofs.terms.literal.Goals as goal

pub returns-in_err-text : goal.returns-in_err-text
returns-in_err-text c =
    let e = case_no_token c.in_err-text.ensures in
    rw c.from_residual.ensures (no_term (literal_bad (drop c.args.at c.args.chars.now) e) c.string_literal_quote.ensures.same)

pub returns : goal.returns
returns c =
    let g = case_token c.in_ok-text.ensures in
    let b = g.bounded in
    let p = c.requires in
    literal_found g c.skip_space-next.ensures (omega arith) c.suffix.ensures c.as_term.ensures
