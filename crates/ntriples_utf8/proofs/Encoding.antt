-- A scalar value written in bytes. Assumes nothing.
use mathlib.Core.Path.{◌≡◌, refl, ap, ◌∙◌}
use mathlib.Core.List.{List, [], ◌∷◌, ◌++◌}
use Prim.Native.Nat.{ℕ, suc, ◌+◌, ◌/◌, ◌%◌, ◌≤◌, ◌<◌}
use native.Mathlib.Numerals.{add-one}
use native.Mathlib.Omega.{arith}
use lib.ListN.{length, take, drop, set, length-append}
use lib.Seq.{sets, sets-eq, length-sets, length-take-le, take_at}
use borrow.Author.Tests.{lt-ltb, le-ltb}
use Rattle.ntriples.specs.Utf8.{encode_one}
use Rattle.ntriples_utf8.specs.Promises.{Wrote}

-- bytes stored one after the other
pub wrote : (old : List ℕ) (at : ℕ) (bytes : List ℕ) → at + length bytes ≤ length old
    → Wrote old at bytes (sets old at bytes) (at + length bytes)
wrote old at bytes h =
    let e = length-append (take at old) bytes in
    let l = length-take-le at old (omega arith) in
    record {
      front =
          ap (λ x. take (at + length bytes) x) (sets-eq bytes old at h)
          ∙ take_at (take at old ++ bytes) (drop (at + length bytes) old) (at + length bytes) (omega arith);
      end = refl;
      same = length-sets old at bytes;
    }

-- A SCALAR VALUE'S BYTES
module _ (c : ℕ) (old : List ℕ) (at : ℕ) (room : at + 4 ≤ length old) where
  -- one,
  pub wrote_one : c < 128 → Wrote old at (encode_one c) (set old at c) (at + 1)
  unfolding encode_one
  wrote_one h = rw (lt-ltb c 128 h) (wrote old at (c ∷ []) (omega arith))

  -- two,
  pub wrote_two : 128 ≤ c → c < 2048
      → Wrote old at (encode_one c) (set (set old at (192 + c / 64)) (at + 1) (128 + c % 64)) (at + 2)
  unfolding encode_one
  wrote_two l u =
      rw (le-ltb c 128 l, lt-ltb c 2048 u, add-one at) (wrote old at ((192 + c / 64) ∷ (128 + c % 64) ∷ []) (omega arith))

  -- three
  pub wrote_three : 2048 ≤ c → c < 65536
      → Wrote old at (encode_one c) (set (set (set old at (224 + c / 4096)) (at + 1) (128 + c / 64 % 64)) (at + 2) (128 + c % 64)) (at + 3)
  unfolding encode_one
  wrote_three l u =
      let e : at + 2 ≡ suc (suc at) = omega arith in
      rw (le-ltb c 128 (omega arith), le-ltb c 2048 l, lt-ltb c 65536 u, add-one at, e)
      (wrote old at ((224 + c / 4096) ∷ (128 + c / 64 % 64) ∷ (128 + c % 64) ∷ []) (omega arith))

  -- and four
  pub wrote_four : 65536 ≤ c
      → Wrote old at (encode_one c)
      (set (set (set (set old at (240 + c / 262144)) (at + 1) (128 + c / 4096 % 64)) (at + 2) (128 + c / 64 % 64)) (at + 3) (128 + c % 64))
      (at + 4)
  unfolding encode_one
  wrote_four l =
      let e : at + 2 ≡ suc (suc at) = omega arith in
      let f : at + 3 ≡ suc (suc (suc at)) = omega arith in
      rw (le-ltb c 128 (omega arith), le-ltb c 2048 (omega arith), le-ltb c 65536 l, add-one at, e, f)
      (wrote old at ((240 + c / 262144) ∷ (128 + c / 4096 % 64) ∷ (128 + c / 64 % 64) ∷ (128 + c % 64) ∷ []) (omega arith))
