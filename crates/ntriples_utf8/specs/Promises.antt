-- What the functions promise: a definition for an answer that is an enum, and a record for a contract of several parts. Assumes nothing.
use Rattle.std.specs.Prelude.{◌≡◌, List, ◌++◌, ℕ, ◌+◌, ◌≤◌, length, take, Option as Maybe, Some, None}
use Rattle.std.proofs.Math.Option.{Option, some, none}
use Rattle.ntriples.specs.Utf8.{Taken, taken, decode}
use Rattle.ntriples_utf8.specs.declared.Scalar.{Scalar}

-- the largest scalar value
abbrev pub top : ℕ
top = 1114111

-- a scalar value that was read, none where there is none
abbrev pub scalar_of : Maybe Scalar → Option Taken
scalar_of (Some s) = some (taken s.value s.extra)
scalar_of None = none

-- the scalar values that were decoded, none where the bytes are not UTF-8
abbrev pub decoded_of : Maybe ℕ → List ℕ → Option (List ℕ)
decoded_of (Some n) chars = some (take n chars)
decoded_of None chars = none

abbrev pub count_of : Maybe ℕ → ℕ
count_of (Some n) = n
count_of None = 0

-- `decode`: the scalar values at the front of the buffer, no more of them than bytes
pub record Decodes (bytes : List ℕ) (r : Maybe ℕ) (chars : List ℕ) : Type 0 where
  pub chars_are : decoded_of r chars ≡ decode bytes
  pub few : count_of r ≤ length bytes

-- the bytes stand behind the first `at` of the buffer, which are as they were; `next` is the place after them
pub record Wrote (old : List ℕ) (at : ℕ) (bytes new : List ℕ) (next : ℕ) : Type 0 where
  pub front : take next new ≡ take at old ++ bytes
  pub end : next ≡ at + length bytes
  pub same : length new ≡ length old
