-- A token's contract, for the functions that read one: where it opens with a certain character, where its characters are a part of the
-- line's, where there is none. Assumes nothing.
use mathlib.Core.Path.{◌≡◌, refl, sym, ap, ◌∙◌}
use mathlib.Core.Bool.{Bool, true, false}
use mathlib.Core.Option.{Option, some, none}
use mathlib.Core.List.{List, [], ◌∷◌}
use Prim.Native.Nat.{ℕ, suc, ◌+◌, ◌≤◌, ◌<◌}
use native.Mathlib.Numerals.{add-one}
use native.Mathlib.Omega.{arith}
use lib.Dec.{eqb}
use lib.ListN.{length, get_or, take, drop, drop_of_length-le}
use lib.Seq.{drop-cons}
use borrow.Author.Tests.{eq-eqb, ne_eqb}
use Rattle.std.specs.Prelude.{Option as Maybe, Some, None}
use Rattle.ntriples.specs.Utf8.{encode}
use Rattle.ntriples.specs.Grammar.{Token, token, when, string_literal_quote}
use Rattle.ntriples_utf8.specs.Promises.{Wrote}
use Rattle.ntriples_tokens.specs.Promises.{quoted_in, part, output, behind, Bounded, Parses}
use Rattle.ntriples_tokens.specs.declared.values.Token.{Token as Ends}
use Rattle.ntriples_tokens.proofs.Parts.{part_length}
use Rattle.ntriples_tokens.proofs.Writing.{encode_few}

-- no token
pub parses_none : {chars : List ℕ} {at : ℕ} {old : List ℕ} {used : ℕ} {o : Option Token} {new : List ℕ} → o ≡ none → length new ≡ length
    old
    → Parses 0 chars at old used o None new
parses_none {chars} {at} {old} {used} {o} e l =
    record { output_is = sym (ap (behind (take used old)) e); bounded = tt; same = l }

-- a token that another begins with
bounded_from : (chars : List ℕ) (at i used : ℕ) (r : Maybe Ends) → at ≤ i → Bounded 0 chars i used r → Bounded 0 chars at used r
bounded_from chars at i used (Some t) h (a, b, c, d) = (omega arith, b, c, omega arith)
bounded_from chars at i used None h b = tt

pub parses_from : {chars : List ℕ} {at i : ℕ} {old : List ℕ} {used : ℕ} {o p : Option Token} {r : Maybe Ends} {new : List ℕ} → at ≤ i
    → o ≡ p → Parses 0 chars i old used p r new → Parses 0 chars at old used o r new
parses_from {chars} {at} {i} {old} {used} {o} {p} {r} h e q = record {
  output_is = q.output_is ∙ ap (behind (take used old)) (sym e);
  bounded = bounded_from chars at i used r h q.bounded;
  same = q.same;
}

-- a token whose characters are a part of the line's
pub parses_part : {chars : List ℕ} {at i end : ℕ} {old : List ℕ} {used : ℕ} {o : Option Token} {new : List ℕ} {n : ℕ} → at ≤ i → i ≤ end
    → end ≤ length chars → o ≡ some (token (part chars i end) (drop end chars)) → Wrote old used (encode (part chars i end)) new n
    → Parses 0 chars at old used o (Some (record { next = end; end = n })) new
parses_part {chars} {at} {i} {end} {old} {used} {o} {new} {n} h k l e w =
    let f = encode_few (part chars i end) in
    let g = part_length chars i end l in
    let q = w.end in
    record {
      output_is = ap (λ b. some (output b (drop end chars))) w.front
          ∙ ap (behind (take used old)) (sym e);
      bounded = (omega arith, l, omega arith, omega arith);
      same = w.same;
    }

-- A CHARACTER THAT OPENS A TOKEN: g is f after x
pub record Opens (g f : List ℕ → Option Token) (x : ℕ) : Type 0 where
  pub empty : g [] ≡ none
  pub full : (c : ℕ) (cs : List ℕ) → g (c ∷ cs) ≡ when (eqb c x) (λ _. f cs)

module _ {g f : List ℕ → Option Token} {x : ℕ} (o : Opens g f x) (chars : List ℕ) (at : ℕ) where
  -- no character is left
  pub opens_none : length chars ≤ at → g (drop at chars) ≡ none
  opens_none h = ap g (drop_of_length-le chars h) ∙ o.empty

  opens_test : (b : Bool) → at < length chars → eqb (get_or chars at 0) x ≡ b → g (drop at chars) ≡ when b (λ _. f (drop (at + 1) chars))
  opens_test b h e =
      ap g (drop-cons chars at 0 h)
      ∙ (o.full (get_or chars at 0) (drop (suc at) chars)
      ∙ (ap (λ (y : Bool). when y (λ _. f (drop (suc at) chars))) e ∙ ap (λ n. when b (λ _. f (drop n chars))) (sym (add-one at))))

  -- another character,
  pub opens_not : at < length chars → (get_or chars at 0 ≡ x → ⊥) → g (drop at chars) ≡ none
  opens_not h n = opens_test false h (ne_eqb (get_or chars at 0) x n)

  -- or the one that opens it
  pub opens_with : at < length chars → get_or chars at 0 ≡ x → g (drop at chars) ≡ f (drop (at + 1) chars)
  opens_with h e = opens_test true h (eq-eqb (get_or chars at 0) x e)

-- STRING_LITERAL_QUOTE
pub string_opens : Opens string_literal_quote (quoted_in false) 34
unfolding string_literal_quote
string_opens = record { empty = refl; full = λ c cs. refl }
