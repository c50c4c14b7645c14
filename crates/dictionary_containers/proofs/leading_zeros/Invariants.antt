use Rattle.dictionary_containers.specs.ByDigits.{after_zeros}
use Rattle.dictionary_containers.proofs.DigitLoops.{Left}
use Rattle.dictionary_containers.proofs.leading_zeros.Given as goal

abbrev pub invariant-loop-i : goal.invariant-loop-i
invariant-loop-i l = Left after_zeros l.digits l.i
