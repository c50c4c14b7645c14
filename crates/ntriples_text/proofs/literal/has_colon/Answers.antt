-- `literal::has_colon` meets its contract. Assumes nothing.
use mathlib.Core.Path.{◌∙◌}
use Rattle.ntriples_text.proofs.Suffixes.{colon_found}
use Rattle.ntriples_text.proofs.literal.has_colon.Goals as goal

pub returns : goal.returns
returns c = c.contains.ensures.value ∙ colon_found c.args.d.now
