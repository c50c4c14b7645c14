-- Scalar values written in UTF-8, one after the other. Assumes nothing.
use mathlib.Core.Path.{◌≡◌, refl, sym, ap, subst, ◌∙◌}
use mathlib.Core.List.{List, [], ◌∷◌, ◌++◌, append_assoc, append-nil}
use Prim.Native.Nat.{ℕ, ◌+◌, ◌-◌, ◌*◌, ◌≤◌, ◌<◌}
use native.Mathlib.Nat.{add-zero}
use native.Mathlib.Omega.{arith}
use lib.Dec.{ltb}
use lib.Seq.{get_or-take, get_or-drop, length-take-le}
use Rattle.std.proofs.lemmas.List.{take_more}
use lib.ListN.{length, get_or, take, drop, length-append}
use Rattle.ntriples.specs.Utf8.{encode_one, encode}
use Rattle.ntriples.proofs.Tests.{if_ind}
use Rattle.ntriples.proofs.Utf8.{encode_append}
use Rattle.ntriples_utf8.specs.Promises.{top, Wrote}
use Rattle.ntriples_tokens.specs.Promises.{part, Room}
use Rattle.ntriples_tokens.proofs.Parts.{part_length}

-- four bytes at most for each
pub one_few : (c : ℕ) → length (encode_one c) ≤ 4
unfolding encode_one
one_few c =
    if_ind (λ (l : List ℕ). length l ≤ 4) (ltb c 128) _ _ (λ _. omega arith) λ _.
    if_ind (λ (l : List ℕ). length l ≤ 4) (ltb c 2048) _ _ (λ _. omega arith) λ _.
    if_ind (λ (l : List ℕ). length l ≤ 4) (ltb c 65536) _ _ (λ _. omega arith) (λ _. omega arith)

-- so for all
pub encode_few : (cs : List ℕ) → length (encode cs) ≤ 4 * length cs
unfolding encode
encode_few [] = omega arith
encode_few (c ∷ cs) = omega (arith, length-append (encode_one c) (encode cs), one_few c, encode_few cs)

-- one scalar value more
encode_last : (cs : List ℕ) (c : ℕ) → encode (cs ++ (c ∷ [])) ≡ encode cs ++ encode_one c
unfolding encode
encode_last cs c = encode_append cs (c ∷ []) ∙ ap (λ l. encode cs ++ l) (append-nil (encode_one c))

-- nothing written
pub wrote_none : (old : List ℕ) (at : ℕ) → Wrote old at [] old at
wrote_none old at = record { front = sym (append-nil (take at old)); end = sym (add-zero at); same = refl }

-- bytes, then others where the first end
pub wrote_then : {a : List ℕ} {at : ℕ} {xs b : List ℕ} {m : ℕ} {ys c : List ℕ} {n : ℕ} → Wrote a at xs b m → Wrote b m ys c n
    → Wrote a at (xs ++ ys) c n
wrote_then {a} {at} {xs} {b} {m} {ys} {c} {n} v w = record {
  front = w.front ∙ (ap (λ l. l ++ ys) v.front ∙ append_assoc (take at a) xs ys);
  end = omega (arith, v.end, w.end, length-append xs ys);
  same = w.same ∙ v.same;
}

-- THE LOOP that writes a part: its first k scalar values are written. There is room for the next,
pub putting_room : {chars : List ℕ} {at : ℕ} {old : List ℕ} {used : ℕ} (end k : ℕ) {out : List ℕ} {n : ℕ} → Room 0 chars at old used
    → end ≤ length chars → Wrote old used (encode (take k (part chars at end))) out n → k < length (part chars at end)
    → (get_or (part chars at end) k 0 ≤ top) × (n + 4 ≤ length out)
putting_room {chars} {at} {old} {used} end k {out} {n} r l w h =
    let xs = part chars at end in
    let m = r.room in
    let e = w.end in
    let s = w.same in
    let f : k < end - at = omega (arith, part_length chars at end l) in
    let g : get_or xs k 0 ≡ get_or chars (at + k) 0 = get_or-take (end - at) (drop at chars) k 0 f ∙ get_or-drop at chars k 0 in (
      subst (λ c. c ≤ top) (sym g) (r.scalars (at + k) (omega arith)),
      omega (arith, encode_few (take k xs), length-take-le k xs (omega arith)),
    )

-- which is written,
pub putting_step : {old : List ℕ} {used : ℕ} (xs : List ℕ) (k : ℕ) {out : List ℕ} {n : ℕ} {new : List ℕ} {m : ℕ}
    → Wrote old used (encode (take k xs)) out n → k < length xs → Wrote out n (encode_one (get_or xs k 0)) new m
    → Wrote old used (encode (take (k + 1) xs)) new m
putting_step {old} {used} xs k {new = new} {m = m} w h v =
    subst (λ l. Wrote old used l new m) (sym (ap encode (take_more xs k 0 h) ∙ encode_last (take k xs) (get_or xs k 0))) (wrote_then w v)
