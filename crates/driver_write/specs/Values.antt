-- The answer that a value of the type of src/ stands for, with the bytes as they are left. Assumes nothing.
use Rattle.std.specs.Prelude.{Result, Ok, Err, List, ℕ}
use Rattle.common.specs.declared.refusal.Refusal.{Refusal}
use Rattle.common.specs.Refusals.{number_of}
use Rattle.ntriples_canonical.specs.Calls.{WriteAnswer, write_answer}
use Rattle.driver_write.specs.declared.values.WriteNext.{WriteNext}

-- the answer of a write that leaves these bytes; a refusal has no length, and leaves nothing out
abbrev pub write_left : Result WriteNext Refusal → List ℕ → WriteAnswer
write_left (Ok r) page = write_answer 0 r.used r.left page
write_left (Err e) page = write_answer (number_of e) 0 0 page
