-- The loop that reads characters, raw and escaped, up to the one that ends IRIREF or STRING_LITERAL_QUOTE. Assumes nothing.
use mathlib.Core.Path.{◌≡◌, refl, sym, ap, ◌∙◌}
use mathlib.Core.Bool.{Bool, true, false}
use mathlib.Core.Option.{Option, some, none}
use mathlib.Core.List.{List, [], ◌∷◌, ◌++◌, append_assoc, append-nil}
use Prim.Native.Nat.{ℕ, suc, ◌+◌, ◌*◌, ◌≤◌, ◌<◌}
use native.Mathlib.Numerals.{add-one}
use native.Mathlib.Omega.{arith}
use lib.Dec.{eqb}
use lib.ListN.{length, get_or, take, drop, length-drop, drop_of_length-le}
use lib.Seq.{drop-cons, drop-drop}
use borrow.Author.Tests.{eq-eqb, ne_eqb}
use Rattle.common.specs.Triples.{if}
use Rattle.std.specs.Prelude.{Some, None}
use Rattle.ntriples.specs.Utf8.{Taken, taken, on, encode_one, encode}
use Rattle.ntriples.specs.Grammar.{Token, token, push, when, escape, quoted}
use Rattle.ntriples.proofs.Bytes.{quoted_drop}
use Rattle.ntriples_utf8.specs.Promises.{top, Wrote}
use Rattle.ntriples_tokens.specs.Promises.{stop, raw, letters, character, quoted_in, output, behind, Room, Parses}
use Rattle.ntriples_tokens.proofs.Writing.{one_few}
use Rattle.ntriples_tokens.proofs.Sound.{Sound, character_sound}

-- what is left after a character
abbrev pub rest_of : Bool → List ℕ → Taken → Option Token
rest_of b cs t = on (quoted_in b (drop t.extra cs)) (push t.value)

-- a character that does not end it
quoted_next : (b : Bool) (c : ℕ) (cs : List ℕ) → (c ≡ stop b → ⊥) → quoted_in b (c ∷ cs) ≡ on (character b c cs) (rest_of b cs)
unfolding quoted
quoted_next b c cs n = rw (ne_eqb c (stop b) n) (go (eqb c 92) (raw b c))
  where
    go : (x y : Bool)
        → if x (λ _. on (escape (letters b) cs) (λ t. on (quoted (stop b) (raw b) (letters b) t.extra cs) (push t.value)))
        (λ _. when y (λ _. on (quoted_in b cs) (push c)))
        ≡ on (if x (λ _. escape (letters b) cs) (λ _. when y (λ _. some (taken c 0)))) (rest_of b cs)
    go true y = λ i. on (escape (letters b) cs) (λ t. on (quoted_drop (stop b) (raw b) (letters b) t.extra cs i) (push t.value))
    go false true = refl
    go false false = refl

-- the character that ends it
quoted_stop : (b : Bool) (c : ℕ) (cs : List ℕ) → c ≡ stop b → quoted_in b (c ∷ cs) ≡ some (token [] cs)
unfolding quoted
quoted_stop b c cs e = rw (eq-eqb c (stop b) e) refl

-- a character in front of a token, or behind the bytes before it
behind_push : (front : List ℕ) (v : ℕ) (o : Option Token) → behind front (on o (push v)) ≡ behind (front ++ encode_one v) o
unfolding encode
behind_push front v none = refl
behind_push front v (some t) = ap (λ l. some (output l t.rest)) (sym (append_assoc front (encode_one v) (encode t.chars)))

-- what is left from place i on, behind what is written, gives the same as the whole
pub record Quoting (b : Bool) (chars : List ℕ) (at : ℕ) (old : List ℕ) (used s : ℕ) (out : List ℕ) (i n : ℕ) : Type 0 where
  pub stop_is : s ≡ stop b
  pub output_is : behind (take used old) (quoted_in b (drop at chars)) ≡ behind (take n out) (quoted_in b (drop i chars))
  pub after : at ≤ i
  pub within : i ≤ length chars
  pub more : used ≤ n
  pub few : n + 4 * at ≤ used + 4 * i
  pub same : length out ≡ length old

-- a character that was read at place i, with k more: there is room for its bytes
pub record Fits (v k : ℕ) (chars : List ℕ) (i : ℕ) (out : List ℕ) (n : ℕ) : Type 0 where
  pub scalar : v ≤ top
  pub room : n + 4 ≤ length out
  pub within : i + (1 + k) ≤ length chars

module _ {b : Bool} {chars : List ℕ} {at : ℕ} {old : List ℕ} {used s : ℕ} {out : List ℕ} {i n : ℕ}
    (q : Quoting b chars at old used s out i n) where
  -- no character is left
  pub quoting_end : length chars ≤ i → Parses 0 chars at old used (quoted_in b (drop at chars)) None out
  unfolding quoted
  quoting_end h = record {
    output_is = sym (q.output_is ∙ ap (λ l. behind (take n out) (quoted_in b l)) (drop_of_length-le chars h));
    bounded = tt;
    same = q.same;
  }

  module _ (h : i < length chars) where
    -- the character at i, and what follows it
    at_next : (o : Option Token) → quoted_in b (get_or chars i 0 ∷ drop (suc i) chars) ≡ o
        → behind (take used old) (quoted_in b (drop at chars)) ≡ behind (take n out) o
    at_next o e = q.output_is ∙ ap (behind (take n out)) (ap (quoted_in b) (drop-cons chars i 0 h) ∙ e)

    -- the one that ends the token
    pub quoting_stop : get_or chars i 0 ≡ s
        → Parses 0 chars at old used (quoted_in b (drop at chars)) (Some (record { next = i + 1; end = n })) out
    unfolding encode
    quoting_stop e =
        let c = get_or chars i 0 in
        let cs = drop (suc i) chars in
        let f = q.few in
        record {
          output_is = rw add-one (sym (at_next (some (token [] cs)) (quoted_stop b c cs (e ∙ q.stop_is))
              ∙ ap (λ l. some (output l cs)) (append-nil (take n out))));
          bounded = (omega (arith, q.after), omega arith, q.more, omega arith);
          same = q.same;
        }

    module _ (ne : get_or chars i 0 ≡ s → ⊥) where
      -- none that may stand there
      pub quoting_bad : none ≡ character b (get_or chars i 0) (drop (suc i) chars)
          → Parses 0 chars at old used (quoted_in b (drop at chars)) None out
      quoting_bad e =
          let c = get_or chars i 0 in
          let cs = drop (suc i) chars in
          record {
            output_is = sym (at_next none (quoted_next b c cs (λ x. ne (x ∙ sym q.stop_is))
                ∙ ap (λ (o : Option Taken). on o (rest_of b cs)) (sym e)));
            bounded = tt;
            same = q.same;
          }

      module _ {v k : ℕ} (e : some (taken v k) ≡ character b (get_or chars i 0) (drop (suc i) chars)) (r : Room 0 chars at old used) where
        -- what is known of another
        sound : Sound v k (drop (suc i) chars)
        sound = character_sound b (get_or chars i 0) (drop (suc i) chars) (r.scalars i h) e

        -- it can be written,
        pub quoting_fits : Fits v k chars i out n
        quoting_fits =
            let f = q.few in
            let m = r.room in
            let l = q.same in
            let a = q.after in
            record {
              scalar = sound.small;
              room = omega arith;
              within = omega (arith, sound.few, length-drop (suc i) chars);
            }

        -- and then what is left gives the same as the whole
        pub quoting_step : {new : List ℕ} {m : ℕ} → Wrote out n (encode_one v) new m
            → Quoting b chars at old used s new (i + (1 + k)) m
        quoting_step {new} {m} w =
            let c = get_or chars i 0 in
            let cs = drop (suc i) chars in
            let o = quoted_in b (drop k cs) in
            let x : suc i + k ≡ i + (1 + k) = omega arith in
            let f = q.few in
            let l = w.end in
            let g = one_few v in
            record {
              stop_is = q.stop_is;
              output_is = at_next (on o (push v)) (quoted_next b c cs (λ y. ne (y ∙ sym q.stop_is))
                  ∙ ap (λ (p : Option Taken). on p (rest_of b cs)) (sym e))
                  ∙ (behind_push (take n out) v o
                  ∙ (ap (λ p. behind p o) (sym w.front)
                  ∙ ap (λ p. behind (take m new) (quoted_in b p)) (drop-drop k (suc i) chars ∙ ap (λ p. drop p chars) x)));
              after = omega (arith, q.after);
              within = quoting_fits.within;
              more = omega (arith, q.more);
              few = omega arith;
              same = w.same
                  ∙ q.same;
            }
