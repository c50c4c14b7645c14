-- `dictionary_containers::not_above_largest` meets its contract. Assumes nothing.
use mathlib.Core.Path.{◌∙◌}
use Rattle.dictionary_containers.specs.ByDigits.{largest}
use Rattle.dictionary_containers.proofs.DigitLoops.{rows_compare}
use Rattle.dictionary_containers.proofs.not_above_largest.Goals as goal

pub returns : goal.returns
returns c = c.le.ensures ∙ rows_compare c.args.digits.now largest
