-- What the functions promise: a definition for an answer, and a record for a contract of several parts. `sets l i vs`, of
-- the library, is l with vs stored from place i on. Assumes nothing.
use Rattle.std.specs.Prelude.{◌≡◌, List, ℕ, ◌+◌, ◌≤◌, length, take, Option, Some, None}
use Rattle.std.proofs.Math.Option.{Option as Math·Option, some, none}
use Rattle.std.proofs.lemmas.List.Edits.{sets}

-- the answer of `number`, as the definition has it
abbrev pub number_of : Option ℕ → Math·Option ℕ
number_of (Some n) = some n
number_of None = none

-- the bytes stand in the buffer from place `at` on, and the rest is as it was; `next` is the place after them
pub record Wrote (old : List ℕ) (at : ℕ) (bytes new : List ℕ) (next : ℕ) : Type 0 where
  pub out : new ≡ sets old at bytes
  pub end : next ≡ at + length bytes
  pub within : next ≤ length new
  -- follows from `within`, and is stated so that a program that prints `&out[..next]` finds it
  pub front : next ≡ length (take next new)
