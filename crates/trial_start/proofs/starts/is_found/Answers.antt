-- `trial_start::starts::is_found` meets its contract. Assumes nothing.
use Rattle.std.proofs.Common.{◌≡◌, true, ◌↔◌, rules}
use borrow.Author.Tests.{eq-eqb}
use Rattle.trial_start.specs.Starts.{b0}
use Rattle.trial_start.proofs.Saying.{found}
use Rattle.trial_start.proofs.starts.is_found.Goals as goal

pub returns-then-kind-eq2 : goal.returns-then-kind-eq2
returns-then-kind-eq2 c =
    let same : c.eq.result ≡ true ↔ (c.lookup-part.result.now ≡ b0) = search rules in
    let number = eq-eqb c.lookup-part.new.number 0 c.if-kind-eq2.true.0 in
    let kind = eq-eqb c.lookup-part.new.kind 2 c.if-kind-eq2.true.1 in
    rw (number, kind) at (found c.lookup-part.ensures.answers same)
