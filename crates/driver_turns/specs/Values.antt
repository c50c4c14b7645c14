-- The answers that values of the types of src/ stand for, with the buffers as they are left. Assumes nothing.
use Rattle.std.specs.Prelude.{List, [], ℕ}
use Rattle.dictionary_layout.specs.Values.{contents}
use Rattle.driver_refusals.specs.Lent.{Lent, lent}
use Rattle.driver_step.specs.Values.{turn_answered}
use Rattle.driver_turns.specs.declared.values.TurnNext.{TurnNext}
use Rattle.driver_turns.specs.Turns.{TurnResult}

-- the answer of a call that leaves this table and arena, and the buffers b
abbrev pub turn_leaves : TurnNext → List ℕ → List ℕ → Lent → TurnResult
turn_leaves r t a b = record { answer = turn_answered r.answer b; contents = contents t a r.counters }

-- the same, from the store, the findings and the list work buffer
abbrev pub turn_left : TurnNext → List ℕ → List ℕ → List ℕ → List ℕ → List ℕ → TurnResult
turn_left r t a s f w = turn_leaves r t a (lent [] s f w)
