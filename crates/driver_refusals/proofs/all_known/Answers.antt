-- `driver_refusals::all_known` meets its contract. Assumes nothing.
use Rattle.std.proofs.Common.{rules, ◌≡◌, true, ℕ, ltb, ◌↔◌}
use Rattle.std.specs.List.{AllPass}
use Rattle.driver_refusals.proofs.Refusing.{all_pass}
use Rattle.driver_refusals.proofs.all_known.Goals as goal

pub returns : goal.returns
returns c =
    let passes = λ (i : ℕ). ltb i c.args.terms in
    let each : c.all.result ≡ true ↔ AllPass passes c.args.load.now = search rules in
    all_pass passes _ _ each
