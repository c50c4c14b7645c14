-- `language::tag_end` meets its contract. Assumes nothing.
use Rattle.std.proofs.Common.{arith, append_assoc}
use Rattle.std.proofs.lemmas.Grind.{common_steps}
use Rattle.ntriples.specs.Grammar.{tag_run}
use Rattle.ntriples_tokens.proofs.Parts.{part_suc}
use Rattle.ntriples_tokens.proofs.language.tag_end.Goals as goal

pub loop-i-preserved : goal.loop-i-preserved
unfolding tag_run
loop-i-preserved c = grind (arith, common_steps, append_assoc, part_suc)
