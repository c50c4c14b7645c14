-- `driver_refusals::no_blank` meets its contract. Assumes nothing.
use Rattle.std.proofs.Common.{rules, ◌≡◌, true, ℕ, eqb, not, ◌↔◌}
use Rattle.std.specs.List.{AllPass}
use Rattle.driver_refusals.proofs.Refusing.{all_pass}
use Rattle.driver_refusals.proofs.no_blank.Goals as goal

pub returns : goal.returns
returns c =
    let passes = λ (i : ℕ). not (eqb i 0) in
    let each : c.all.result ≡ true ↔ AllPass passes c.args.load.now = search rules in
    all_pass passes _ _ each
