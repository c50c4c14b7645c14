-- `input::find_byte` meets its contract. Assumes nothing.
use Rattle.std.proofs.Common.{◌≡◌, ◌∙◌, drop, length, length-drop, unwrap_or, rules, tests, arith}
use Rattle.std.proofs.lemmas.Iterator.{YieldsList-from_slice}
use Rattle.std.proofs.lemmas.Iterator.Search.{position_from_yields_List}
use Rattle.std.proofs.lemmas.List.{take_rest}
use Rattle.edge_closer_text.specs.Input.{before}
use Rattle.edge_closer_text.proofs.Parts.{found_place}
use Rattle.edge_closer_text.proofs.input.find_byte.Goals as goal
use Rattle.edge_closer_text.proofs.input.find_byte.Goals.{After-position}

place : (c : After-position) → unwrap_or c.position.result (length (drop c.args.at c.args.bytes.now))
    ≡ length (before c.args.byte (drop c.args.at c.args.bytes.now))
place c =
    let rest = drop c.args.at c.args.bytes.now in
    let is = c.iter.ensures.rest ∙ take_rest c.args.bytes.now c.args.at in
    found_place c.args.byte rest c.position.result
    (position_from_yields_List _ _ _ _ c.position.ensures.ran (YieldsList-from_slice rest is) (λ x b q k. search (rules, tests)))

pub returns-in_err-place-clause-place : goal.returns-in_err-place-clause-place
returns-in_err-place-clause-place c =
    let p = rw c.in_err-place.was at (place (goal.at.returns-in_err-place-clause-place c).After-position) in
    rw c.from_residual.ensures (omega (arith, length-drop c.args.at c.args.bytes.now))

pub returns-clause-place : goal.returns-clause-place
returns-clause-place c =
    let p = rw c.in_ok-place.was at (place (goal.at.returns-clause-place c).After-position) in
    omega arith
