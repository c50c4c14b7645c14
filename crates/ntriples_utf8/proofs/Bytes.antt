-- Tests, by their outcome. Assumes nothing.
use mathlib.Core.Path.{◌≡◌, refl}
use mathlib.Core.Option.{some}
use mathlib.Core.List.{List}
use Prim.Native.Nat.{ℕ, ◌<◌}
use borrow.Author.Tests.{lt-ltb}
use Rattle.ntriples.specs.Utf8.{taken, first}

-- a lead byte that is the value itself
pub first_one : (a : ℕ) (bs : List ℕ) → a < 128 → some (taken a 0) ≡ first a bs
unfolding first
first_one a bs h = rw (lt-ltb a 128 h) refl
