use Rattle.ntriples_tokens.proofs.Escapes.{Reading}
use Rattle.ntriples_tokens.proofs.escape.hexes.Given as goal

abbrev pub invariant-loop-c : goal.invariant-loop-c
invariant-loop-c l = Reading l.digits l.c-index l.v
