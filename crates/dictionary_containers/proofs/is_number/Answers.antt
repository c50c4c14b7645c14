-- `dictionary_containers::is_number` meets its contract. Assumes nothing.
use mathlib.Core.Path.{sym, ◌∙◌, ap}
use mathlib.Core.Bool.{true, false}
use Rattle.dictionary_layout.proofs.Rows.{rest_part}
use Rattle.dictionary_containers.specs.ByDigits.{in_range}
use Rattle.dictionary_containers.proofs.ByDigits.{number_when}
use Rattle.dictionary_containers.proofs.is_number.Goals as goal

pub returns-then-not-all_digits : goal.returns-then-not-all_digits
returns-then-not-all_digits c =
    let not = c.if-not-all_digits.true in
    number_when false c.args.bytes.now (sym not ∙ c.all_digits.ensures)

pub returns : goal.returns
returns c =
    let bytes = c.args.bytes.now in
    c.in_range.ensures
    ∙ (ap in_range (rest_part c.leading_zeros-zeros.result bytes ∙ c.leading_zeros-zeros.ensures.1)
    ∙ number_when true bytes (sym c.if-not-all_digits.false ∙ c.all_digits.ensures))
