-- A term's text by the tests of its bytes, for the functions that measure and write it. Assumes nothing.
use mathlib.Core.Path.{◌≡◌, refl, sym, ap, subst, ◌∙◌}
use mathlib.Core.Logic.{◌⊎◌, inl, inr}
use mathlib.Core.Bool.{Bool, true, false}
use mathlib.Core.Option.{Option, some, none}
use mathlib.Core.List.{List, ◌∷◌}
use Prim.Native.Nat.{ℕ, ◌+◌, ◌-◌, ◌*◌, ◌≤◌, ◌<◌}
use native.Mathlib.Omega.{arith}
use native.Mathlib.Numerals.{add-one}
use Rattle.std.specs.Bool.{then_some}
use Rattle.std.specs.Prelude.{Option as Maybe, Some, None, IsSome}
use lib.Dec.{T, eqb, eqb→eq, eqb_refl}
use lib.ListN.{length, take, drop, set, length-append, length-drop, length-set}
use lib.Seq.{take_all, length-take-le}
use Rattle.dictionary_layout.specs.Terms.{term}
use Rattle.dictionary_layout.proofs.Choice.{decide_bool}
use Rattle.ntriples.specs.Utf8.{on, decode}
use Rattle.ntriples.specs.Characters.{iri}
use Rattle.ntriples.specs.Grammar.{Token, token, when, label}
use Rattle.ntriples.specs.Nodes.{whole}
use Rattle.ntriples.proofs.Tests.{no_some, same_some, when→}
use Rattle.ntriples_utf8.specs.Promises.{Wrote}
use Rattle.ntriples_tokens.proofs.Writing.{wrote_then}
use Rattle.ntriples_canonical.specs.Writing.{last_zero, escape_all, suffix_text, literal_text, term_text}
use Rattle.ntriples_canonical.proofs.Bytes.{named_bytes, blank_bytes, literal_bytes, other_kind, text_decodes}
use Rattle.ntriples_text.specs.Promises.{or_nothing, text_size, TextFits, in_angles, LastZero, no_zero, zero_at, is_suffix}
use Rattle.ntriples_text.proofs.Stores.{behind_one, behind_two}
use Rattle.ntriples_text.proofs.Escapes.{escape_few}
use Rattle.ntriples_text.proofs.Suffixes.{suffix_few}

-- what the code lends from place z on, which is all that is there
abbrev pub rest : List ℕ → ℕ → List ℕ
rest l z = take (length l - z) (drop z l)

rest_of : (l : List ℕ) (z : ℕ) → rest l z ≡ drop z l
rest_of l z = take_all (length l - z) (drop z l) (simp length-drop (omega arith))

-- A LITERAL'S BYTES, split at the last zero, which is at z
pub record Split (bytes : List ℕ) (z : ℕ) : Type 0 where
  pub is : last_zero bytes ≡ some (token (take z bytes) (drop (z + 1) bytes))
  pub within : z < length bytes

pub split : {bytes : List ℕ} {r : Maybe ℕ} {z : ℕ} → r ≡ Some z → LastZero bytes r → Split bytes z
split e (no_zero n) = cc
split {bytes} {r} {z} e (zero_at y h i) =
    let same : y ≡ z = cc in
    rw (← same) (record { is = rw (add-one y) i; within = h })

-- its parts' lengths
module _ {bytes : List ℕ} {z : ℕ} (s : Split bytes z) where
  pub front_length : z ≡ length (take z bytes)
  front_length = let w = s.within in sym (length-take-le z bytes (omega arith))

  pub rest_length : length (rest bytes (z + 1)) ≡ length bytes - (z + 1)
  rest_length = length-take-le (length bytes - (z + 1)) (drop (z + 1) bytes) (simp length-drop (omega arith))

-- there is none
pub unsplit : {bytes : List ℕ} → LastZero bytes None → last_zero bytes ≡ none
unsplit (no_zero e) = e

-- the text of what is split, under its test
abbrev if_suffix : Token → Option (List ℕ)
if_suffix t = when (is_suffix t.rest) (λ _. some (literal_text t.chars t.rest))

module _ (bytes cs : List ℕ) (d : decode bytes ≡ some cs) where
  -- no literal has no zero
  pub literal_none : last_zero bytes ≡ none → term_text (term 3 bytes) ≡ none
  literal_none e = literal_bytes bytes cs d ∙ ap (λ (o : Option Token). on o if_suffix) e

  -- where there is one
  pub literal_is : {z : ℕ} {b : Bool} → Split bytes z → b ≡ is_suffix (drop (z + 1) bytes)
      → term_text (term 3 bytes) ≡ when b (λ _. some (literal_text (take z bytes) (drop (z + 1) bytes)))
  literal_is {z} s e =
      let x = some (literal_text (take z bytes) (drop (z + 1) bytes)) in
      literal_bytes bytes cs d
      ∙ (ap (λ (o : Option Token). on o if_suffix) s.is ∙ ap (λ (b : Bool). when b (λ _. x)) (sym e))

-- ITS LENGTH, by its parts
literal_size : (t d : List ℕ) → length (literal_text t d) ≡ length (escape_all t) + length (suffix_text d) + 2
unfolding literal_text
literal_size t d = omega (arith, length-append (escape_all t) (34 ∷ suffix_text d))

-- the length of a text that is known
pub measured : {o : Option (List ℕ)} {x : List ℕ} {n : ℕ} → o ≡ some x → n ≡ length x → Some n ≡ text_size o
measured e l = rw (l, e) refl

-- of one that is there where a test holds
pub measured_if : {o : Option (List ℕ)} {n : ℕ} {r : Maybe ℕ} (b : Bool) (x : List ℕ) → o ≡ when b (λ _. some x) → r ≡ then_some b n
    → n ≡ length x → r ≡ text_size o
measured_if true x e f l = f ∙ measured e l
measured_if false x e f l = f ∙ ap text_size (sym e)

-- a literal measured in parts
module _ {bytes : List ℕ} {z t d : ℕ} (s : Split bytes z) (e : t ≡ length (escape_all (take z bytes)))
    (f : d ≡ length (suffix_text (rest bytes (z + 1)))) where
  -- two bytes at most for each of the term's, and four more
  pub literal_few : t + d ≤ 2 * length bytes + 4
  literal_few =
      let w = s.within in
      omega (arith, front_length s, rest_length s, escape_few (take z bytes), suffix_few (rest bytes (z + 1)))

  -- where what follows the text is a datatype or a language tag
  pub literal_measured : {cs : List ℕ} {b : Bool} → decode bytes ≡ some cs → b ≡ is_suffix (rest bytes (z + 1)) → b ≡ true
      → Some (t + d + 2) ≡ text_size (term_text (term 3 bytes))
  literal_measured {cs} u q y =
      let r = rest_of bytes (z + 1) in
      measured (literal_is bytes cs u s (sym y ∙ (q ∙ ap is_suffix r)))
      (omega (arith, literal_size (take z bytes) (drop (z + 1) bytes), ap (λ l. length (suffix_text l)) r))

-- and where it is neither
pub literal_unmeasured : {bytes cs : List ℕ} {z : ℕ} {b : Bool} → Split bytes z → decode bytes ≡ some cs
    → b ≡ is_suffix (rest bytes (z + 1)) → b ≡ false → None ≡ text_size (term_text (term 3 bytes))
literal_unmeasured {bytes} {cs} {z} s u q y =
    ap text_size (sym (literal_is bytes cs u s (sym y ∙ (q ∙ ap is_suffix (rest_of bytes (z + 1))))))

-- A NAMED NODE,
pub named_is : (k : ℕ) (bytes cs : List ℕ) {b : Bool} → k ≡ 1 → decode bytes ≡ some cs → b ≡ iri bytes
    → term_text (term k bytes) ≡ when b (λ _. some (in_angles bytes))
named_is k bytes cs e d q =
    ap (λ n. term_text (term n bytes)) e
    ∙ (named_bytes bytes cs d ∙ ap (λ (x : Bool). when x (λ _. some (in_angles bytes))) (sym q))

-- a blank node
pub blank_is : (k : ℕ) (bytes cs : List ℕ) {b : Bool} → k ≡ 2 → decode bytes ≡ some cs → b ≡ whole (label cs)
    → term_text (term k bytes) ≡ when b (λ _. some (95 ∷ 58 ∷ bytes))
blank_is k bytes cs e d q =
    ap (λ n. term_text (term n bytes)) e
    ∙ (blank_bytes bytes cs d ∙ ap (λ (x : Bool). when x (λ _. some (95 ∷ 58 ∷ bytes))) (sym q))

-- THE ROOM for a text that is known
pub record FitsAs (o : Option (List ℕ)) (x : List ℕ) (at : ℕ) (page : List ℕ) : Type 0 where
  pub text_is : or_nothing o ≡ x
  pub room : at + length x ≤ length page

-- under the test that tells whether there is one
fits_as : {o : Option (List ℕ)} {x : List ℕ} {at : ℕ} {page : List ℕ} (b : Bool) → o ≡ when b (λ _. some x) → TextFits o at page
    → FitsAs o x at page
fits_as {o} {x} {at} {page} b e f =
    let same = same_some (when→ b (λ _. some x) (sym e ∙ f.is)).1 in
    let r = f.room in
    record { text_is = ap or_nothing f.is ∙ sym same; room = omega (arith, ap length same) }

module _ (k : ℕ) (bytes : List ℕ) {at : ℕ} {page : List ℕ} (f : TextFits (term_text (term k bytes)) at page) where
  -- of a named node
  pub named_fits : k ≡ 1 → FitsAs (term_text (term k bytes)) (in_angles bytes) at page
  named_fits e =
      let (cs, d) = text_decodes (term k bytes) f.text f.is in
      fits_as (iri bytes) (named_is k bytes cs e d refl) f

  -- which is written,
  pub put_named : k ≡ 1 → {new : List ℕ} {n : ℕ} → Wrote page at (in_angles bytes) new n
      → Wrote page at (or_nothing (term_text (term k bytes))) new n
  put_named e w = rw (named_fits e).text_is w

  -- of a blank node
  pub blank_fits : k ≡ 2 → FitsAs (term_text (term k bytes)) (95 ∷ 58 ∷ bytes) at page
  blank_fits e =
      let (cs, d) = text_decodes (term k bytes) f.text f.is in
      fits_as (whole (label cs)) (blank_is k bytes cs e d refl) f

  -- which is written,
  pub put_blank : k ≡ 2 → {new : List ℕ} {n : ℕ} → Wrote (set (set page at 95) (at + 1) 58) (at + 2) bytes new n
      → Wrote page at (or_nothing (term_text (term k bytes))) new n
  put_blank e w = let r = (blank_fits e).room in rw (blank_fits e).text_is (behind_two (omega arith) w)

  -- and else it is a literal
  pub third : (k ≡ 1 → ⊥) → (k ≡ 2 → ⊥) → k ≡ 3
  third a b = go (decide_bool (eqb k 3))
    where
      go : T (eqb k 3) ⊎ (T (eqb k 3) → ⊥) → k ≡ 3
      go (inl t) = eqb→eq k 3 t
      go (inr n) =
          let other : k ≡ 3 → ⊥ = λ e. n (subst (λ m. T (eqb k m)) e (eqb_refl k)) in
          no_some (sym (other_kind (term k bytes) a b other) ∙ f.is)

-- of a literal, one of whose bytes is a zero
pub literal_zero : {bytes : List ℕ} {r : Maybe ℕ} {at : ℕ} {page : List ℕ} → TextFits (term_text (term 3 bytes)) at page → LastZero bytes r
    → IsSome r
literal_zero {bytes} f (no_zero e) =
    let (cs, d) = text_decodes (term 3 bytes) f.text f.is in
    no_some (sym (literal_none bytes cs d e) ∙ f.is)
literal_zero f (zero_at z h e) = refl

module _ {bytes : List ℕ} {z at : ℕ} {page : List ℕ} (f : TextFits (term_text (term 3 bytes)) at page) (s : Split bytes z) where
  -- its text
  literal_fits : FitsAs (term_text (term 3 bytes)) (literal_text (take z bytes) (drop (z + 1) bytes)) at page
  literal_fits =
      let (cs, d) = text_decodes (term 3 bytes) f.text f.is in
      fits_as (is_suffix (drop (z + 1) bytes)) (literal_is bytes cs d s refl) f

  -- with a quotation mark on both sides,
  pub literal_room : at + 2 + length (escape_all (take z bytes)) + length (suffix_text (rest bytes (z + 1))) ≤ length page
  literal_room =
      let r = literal_fits.room in
      omega (arith, literal_size (take z bytes) (drop (z + 1) bytes), ap (λ l. length (suffix_text l)) (rest_of bytes (z + 1)))

  module _ {mid : List ℕ} {n : ℕ} (w : Wrote (set page at 34) (at + 1) (escape_all (take z bytes)) mid n) where
    -- the room for what follows,
    pub suffix_room : n + 1 + length (suffix_text (rest bytes (z + 1))) ≤ length mid
    suffix_room =
        let e = w.end in
        let s = w.same in
        omega (arith, literal_room, length-set page at 34)

    -- and it is written
    pub put_quoted : {new : List ℕ} {r : ℕ} → Wrote (set mid n 34) (n + 1) (suffix_text (rest bytes (z + 1))) new r
        → Wrote page at (or_nothing (term_text (term 3 bytes))) new r
    unfolding literal_text
    put_quoted {new} {r} v =
        let u = subst (λ l. Wrote (set mid n 34) (n + 1) (suffix_text l) new r) (rest_of bytes (z + 1)) v in
        rw literal_fits.text_is
        (behind_one (omega (arith, literal_room)) (wrote_then w (behind_one (omega (arith, suffix_room)) u)))
