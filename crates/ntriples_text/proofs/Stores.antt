-- Bytes written: one by one, copied, behind others, and in angle brackets. Assumes nothing.
use mathlib.Core.Path.{◌≡◌, refl, ap, ◌∙◌}
use mathlib.Core.List.{List, [], ◌∷◌, ◌++◌}
use Prim.Native.Nat.{ℕ, ◌+◌, ◌≤◌, ◌<◌}
use native.Mathlib.Numerals.{add-one}
use native.Mathlib.Omega.{arith}
use lib.ListN.{length, take, set, length-append, length-set}
use lib.Seq.{paste, take-paste, length-paste, take-length}
use Rattle.ntriples_utf8.specs.Promises.{Wrote}
use Rattle.ntriples_utf8.proofs.Encoding.{wrote}
use Rattle.ntriples_tokens.proofs.Writing.{wrote_then}
use Rattle.ntriples_text.specs.Promises.{in_angles}

-- one byte
pub stored : (old : List ℕ) (at b : ℕ) → at < length old → Wrote old at (b ∷ []) (set old at b) (at + 1)
stored old at b h = wrote old at (b ∷ []) (omega arith)

-- two
pub stored_two : (old : List ℕ) (at a b : ℕ) → at + 1 < length old → Wrote old at (a ∷ b ∷ []) (set (set old at a) (at + 1) b) (at + 2)
stored_two old at a b h = rw (add-one at) (wrote old at (a ∷ b ∷ []) (omega arith))

-- a copy
pub copied : {old : List ℕ} {at : ℕ} {new : List ℕ} (bytes : List ℕ) → at + length bytes ≤ length old
    → new ≡ paste old at bytes (length bytes) → Wrote old at bytes new (at + length bytes)
copied {old} {at} {new} bytes h e =
    let l : length bytes ≤ length bytes = omega arith in
    record {
      front = ap (take (at + length bytes)) e
          ∙ (take-paste old at bytes (length bytes) (omega arith) l ∙ ap (λ b. take at old ++ b) (take-length bytes));
      end = refl;
      same = ap length e ∙ length-paste old at bytes (length bytes) h l;
    }

-- one byte, and others behind it
pub behind_one : {page : List ℕ} {at a : ℕ} {bytes new : List ℕ} {n : ℕ} → at < length page → Wrote (set page at a) (at + 1) bytes new n
    → Wrote page at (a ∷ bytes) new n
behind_one {page} {at} {a} h w = wrote_then (stored page at a h) w

-- two
pub behind_two : {page : List ℕ} {at a b : ℕ} {bytes new : List ℕ} {n : ℕ} → at + 1 < length page
    → Wrote (set (set page at a) (at + 1) b) (at + 2) bytes new n → Wrote page at (a ∷ b ∷ bytes) new n
behind_two {page} {at} {a} {b} h w = wrote_then (stored_two page at a b h) w

-- AN IRI IN ANGLE BRACKETS: its length,
pub angles_length : (bs : List ℕ) → length (in_angles bs) ≡ length bs + 2
angles_length bs = omega (arith, length-append bs (62 ∷ []))

-- and it is written
module _ (bytes page : List ℕ) (at : ℕ) (room : at + length (in_angles bytes) ≤ length page) {new : List ℕ} {n : ℕ}
    (w : Wrote (set page at 60) (at + 1) bytes new n) where
  pub angle_room : n < length new
  angle_room =
      let e = w.end in
      let s = w.same in
      omega (arith, angles_length bytes, length-set page at 60)

  pub put_angles : Wrote page at (in_angles bytes) (set new n 62) (n + 1)
  put_angles = behind_one (omega (arith, angles_length bytes)) (wrote_then w (stored new n 62 angle_room))
