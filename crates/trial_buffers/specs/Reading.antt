-- Decimal numbers in a text, each ended by a space or a line feed. Assumes nothing.
use Rattle.std.specs.Prelude.{ℕ, zero, suc, ◌+◌, Bool, true, false, ◌&&◌, ◌||◌, List, [], ◌∷◌, length, drop, ◌==◌, nat_le, nat_lt}
use Rattle.std.specs.Option.{is_some, unwrap_or}
use Rattle.std.proofs.Math.Option.{Option, some, none}
use Rattle.common.specs.Triples.{if}
use Rattle.edge_decimal.specs.Decimal.{number}
use Rattle.trial_buffers.specs.declared.reader.Read.{Read as Answer}
use Rattle.trial_buffers.specs.declared.reader.Cursor.{Cursor}

-- a space or a line feed
abbrev pub ends : ℕ → Bool
ends b = b == 32 || b == 10

-- the bytes before the first that ends a number
unfoldable pub field : List ℕ → List ℕ
field [] = []
field (b ∷ bs) = if (ends b) (λ _. []) (λ _. b ∷ field bs)

-- where the number that begins at a place ends
abbrev pub end_from : List ℕ → ℕ → ℕ
end_from text at = at + length (field (drop at text))

-- a number, the place after the byte that ends it, and whether it could be read: one that could not is read as 0
pub record Read : Type 0 where
  pub value : ℕ
  pub at : ℕ
  pub ok : Bool

-- the same of what the code answers
abbrev pub read_of : Answer → Read
read_of r = record { value = unwrap_or r.value 0; at = r.at; ok = is_some r.value }

-- the number of a field, and the place after the byte that ends it; a field that is none is not passed over
abbrev pub read_field : List ℕ → ℕ → ℕ → Option ℕ → Read
read_field text at end none = record { value = 0; at = at; ok = false }
read_field text at end (some n) = record { value = n; at = if (nat_lt end (length text)) (λ _. end + 1) (λ _. end); ok = true }

-- the number that begins at a place
unfoldable pub read_from : List ℕ → ℕ → Read
read_from text at =
    if (nat_lt (length text) at)
    (λ _. record { value = 0; at = at; ok = false })
    (λ _. read_field text at (end_from text at) (number 4294967295 (field (drop at text))))

-- the cursor after so many numbers, each of which must be good
unfoldable pub cursor_after : (ℕ → Bool) → List ℕ → Cursor → ℕ → Cursor
cursor_after good text c zero = c
cursor_after good text c (suc n) =
    let d = cursor_after good text c n in
    let r = read_from text d.at in
    record { at = r.at; ok = d.ok && (r.ok && good r.value) }

-- the number after so many
abbrev pub number_after : (ℕ → Bool) → List ℕ → Cursor → ℕ → ℕ
number_after good text c k = (read_from text (cursor_after good text c k).at).value

-- every number is good, and every byte
abbrev pub any : ℕ → Bool
any n = true

abbrev pub is_byte : ℕ → Bool
is_byte n = nat_le n 255

-- a number that is no byte is read as 0
abbrev pub byte_of : ℕ → ℕ
byte_of n = if (is_byte n) (λ _. n) (λ _. 0)
