use Rattle.std.proofs.Common.{take}
use Rattle.ntriples.specs.Utf8.{encode}
use Rattle.ntriples_utf8.specs.Promises.{Wrote}
use Rattle.ntriples_tokens.proofs.values.put_part.Given as goal

abbrev pub invariant-loop-c : goal.invariant-loop-c
invariant-loop-c l = Wrote l.initial.out l.used (encode (take l.c-index l.c-items)) l.out l.n
