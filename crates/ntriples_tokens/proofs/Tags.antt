-- LANGTAG. Assumes nothing.
use mathlib.Core.Path.{◌≡◌, sym, ap, ◌∙◌}
use mathlib.Core.Bool.{Bool}
use mathlib.Core.Option.{some}
use mathlib.Core.List.{List}
use Prim.Native.Nat.{ℕ}
use native.Mathlib.Omega.{arith}
use lib.ListN.{drop}
use Rattle.ntriples.specs.Utf8.{encode}
use Rattle.ntriples.specs.Characters.{tag}
use Rattle.ntriples.specs.Grammar.{Token, token, when, tag_run, langtag}
use Rattle.ntriples.proofs.Bytes.{tag_bytes}
use Rattle.ntriples_utf8.specs.Promises.{Wrote}
use Rattle.ntriples_tokens.specs.Promises.{part, Room, TagEnds}
use Rattle.ntriples_tokens.proofs.Parts.{part_behind}

-- LANGTAG: the characters that a tag may have, if their bytes are one
pub langtag_is : {chars : List ℕ} {at end : ℕ} {old : List ℕ} {used : ℕ} {new : List ℕ} {n : ℕ} {b : Bool} → Room 0 chars at old used
    → TagEnds chars at end → Wrote old used (encode (part chars at end)) new n → b ≡ tag (part new used n)
    → langtag (drop at chars) ≡ when b (λ _. some (token (part chars at end) (drop end chars)))
unfolding langtag
langtag_is {chars} {at} {end} {old} {used} {new} {n} r t w e =
    let run : tag_run (drop at chars) ≡ token (part chars at end) (drop end chars) = λ i. token (t.chars_are i) (t.rest_is i) in
    let s = w.same in
    let m = w.end in
    let k = r.room in
    let bytes = part_behind old new (encode (part chars at end)) used n (omega arith) (omega arith) (omega arith) w.front in
    let same = e ∙ (ap tag bytes ∙ tag_bytes (part chars at end)) in
    ap (λ (u : Token). when (tag u.chars) (λ _. some u)) run
    ∙ ap (λ (x : Bool). when x (λ _. some (token (part chars at end) (drop end chars)))) (sym same)
