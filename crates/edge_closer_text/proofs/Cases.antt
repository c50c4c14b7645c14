-- The worked examples of specs/Cases.antt hold of the definitions: one theorem over the table. Assumes nothing.
use mathlib.Core.Path.{refl}
use Rattle.common.specs.Digits.{all_digits, value}
use Rattle.edge_decimal.specs.Decimal.{number, digits_within, digits}
use Rattle.edge_closer_text.specs.Input.{parts, id_line, id_lines, read, parse}
use Rattle.edge_closer_text.specs.Output.{line, table}
use Rattle.edge_closer_text.specs.Cases.{AllHold, cases}

-- every case of the table
pub cases_hold : AllHold cases
unfolding parse read id_lines id_line parts number all_digits value table line digits digits_within
cases_hold = (refl, (refl, (refl, (refl, (refl, (refl, (refl, (refl, tt))))))))
