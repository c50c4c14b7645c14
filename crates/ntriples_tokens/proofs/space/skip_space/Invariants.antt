use Rattle.std.proofs.Common.{◌≡◌, drop}
use Rattle.ntriples.specs.Grammar.{ws}
use Rattle.ntriples_tokens.proofs.space.skip_space.Given as goal

abbrev pub invariant-loop-i : goal.invariant-loop-i
invariant-loop-i l = ws (drop l.at l.chars) ≡ ws (drop l.i l.chars)
