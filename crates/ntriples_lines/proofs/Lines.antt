-- Lines: what three terms, or the want of one, say of the whole line. Assumes nothing.
use mathlib.Core.Path.{◌≡◌, refl, sym, ap, ap₂, ◌∙◌}
use mathlib.Core.Bool.{true, false}
use mathlib.Core.Option.{Option, some, none}
use mathlib.Core.List.{List, [], ◌∷◌, ◌++◌, append_cancel_left}
use Prim.Native.Nat.{ℕ, zero, suc, ◌+◌, ◌-◌, ◌≤◌, ◌<◌}
use native.Mathlib.Omega.{arith}
use lib.Dec.{T, eqb}
use lib.ListN.{length, get_or, take, drop}
use lib.Seq.{take-append-le, take-take, take-add, length-take-le}
use borrow.Author.Tests.{eq-eqb, ne_eqb}
use Rattle.common.specs.Triples.{if}
use Rattle.common.proofs.Lists.{and→}
use Rattle.dictionary_layout.specs.Terms.{Term, term}
use Rattle.ntriples.specs.Utf8.{scalar, on, decode, encode}
use Rattle.ntriples.specs.Characters.{all}
use Rattle.ntriples.specs.Grammar.{Token, Found, as_term, Terms, terms, Line, says, bad, ws, iriref, named, subject, object, ended}
use Rattle.ntriples.specs.Grammar.{stopped, triple_line, statement, line}
use Rattle.ntriples.proofs.Tests.{no_some}
use Rattle.ntriples.proofs.Utf8.{scalar_top, decoded_scalars}
use Rattle.ntriples_utf8.specs.Promises.{top, Decodes}
use Rattle.ntriples_tokens.specs.Promises.{part, Room, SpaceEnds}
use Rattle.std.specs.Prelude.{Some, None}
use Rattle.ntriples_lines.specs.Promises.{plain_width, finish, Says, LineFits, terms_at}
use Rattle.ntriples_lines.specs.declared.terms.FoundTerm.{FoundTerm}
use Rattle.ntriples_lines.specs.declared.LineTerms.{LineTerms}
use Rattle.ntriples_lines.specs.declared.Said.TheVariants.{Nothing, Triple}
use Rattle.ntriples_lines.proofs.Answers.{Got}
use Rattle.ntriples_lines.proofs.ByFirst.{at_end, at_char}

module _ (chars : List ℕ) (at : ℕ) where
  -- THE END OF A LINE: nothing is left,
  pub ended_end : length chars ≤ at → true ≡ ended (drop at chars)
  unfolding ended
  ended_end h = rw (at_end chars at h) refl

  -- or a comment, or something else
  pub ended_char : at < length chars → eqb (get_or chars at 0) 35 ≡ ended (drop at chars)
  unfolding ended
  ended_char h = rw (at_char chars at h) refl

  -- no dot at the end,
  pub finish_end : length chars ≤ at → false ≡ finish (drop at chars)
  unfolding finish
  finish_end h = rw (at_end chars at h) refl

  -- nor where another character stands,
  pub finish_other : at < length chars → (get_or chars at 0 ≡ 46 → ⊥) → false ≡ finish (drop at chars)
  unfolding finish
  finish_other h n = rw (at_char chars at h, ne_eqb (get_or chars at 0) 46 n) refl

  -- and a dot that nothing but a comment follows
  pub finish_dot : {next : ℕ} → at < length chars → get_or chars at 0 ≡ 46 → SpaceEnds chars (at + 1) next
      → ended (drop next chars) ≡ finish (drop at chars)
  unfolding finish
  finish_dot h e s = rw (at_char chars at h, eq-eqb (get_or chars at 0) 46 e, s.rest_is) refl

-- three terms, by what follows them
stopped_is : (t : Terms) (cs : List ℕ) → stopped t cs ≡ if (finish cs) (λ _. says t) (λ _. bad)
unfolding stopped finish
stopped_is t [] = refl
stopped_is t (c ∷ cs) = refl

-- a line that is none of the grammar's
pub says_bad : {l : Line} {out : List ℕ} → l ≡ bad → Says l None out
says_bad e = record { said_is = sym e; ordered = tt }

-- a predicate is a named node
named_kind : (cs : List ℕ) (f : Found) → named cs ≡ some f → f.found.kind ≡ 1
unfolding named
named_kind cs f e = go (iriref cs) e
  where
    go : (o : Option Token) → on o (λ t. as_term 1 t.chars t.rest) ≡ some f → f.found.kind ≡ 1
    go none q = no_some q
    go (some t) q =
        let r : record { found = term 1 (encode t.chars); rest = t.rest } ≡ f = cc in ap (λ (x : Found). x.found.kind) (sym r)

-- BYTES ONE BEHIND THE OTHER: those between two ends
part_is : (a b : ℕ) (out xs : List ℕ) → a ≤ b → take b out ≡ take a out ++ xs → part out a b ≡ xs
part_is a b out xs h e =
    let k : a + (b - a) ≡ b = omega arith in
    append_cancel_left (take a out) (part out a b) xs (sym (take-add a (b - a) out) ∙ (ap (λ n. take n out) k ∙ e))

-- what stands in front is as it was
stays : {more : ℕ} {chars : List ℕ} {at : ℕ} {old : List ℕ} {used : ℕ} {o : Option Found} {t : FoundTerm} {new : List ℕ} (a : ℕ)
    → Got more chars at old used o t new → a ≤ used → used ≤ length old → take a new ≡ take a old
stays {old = old} {used = used} {t = t} {new = new} a g h i =
    let b = g.bounded in
    let l = length-take-le used old i in
    sym (take-take a t.end new (omega arith))
    ∙ (ap (take a) g.front ∙ (take-append-le a (take used old) g.got.found.bytes (omega arith) ∙ take-take a used old h))

-- a term by its kind and its bytes
term_is : {k : ℕ} {bs : List ℕ} (t : Term) → t.kind ≡ k → bs ≡ t.bytes → term k bs ≡ t
term_is t e f = ap₂ term (sym e) f

-- A LINE WITHOUT A SUBJECT
pub subject_bad : (cs : List ℕ) → subject cs ≡ none → triple_line cs ≡ bad
unfolding triple_line
subject_bad cs e = rw e refl

module _ {chars : List ℕ} {at : ℕ} {out₀ : List ℕ} {st : FoundTerm} {out₁ : List ℕ} {p : ℕ}
    (s : Got 0 chars at out₀ 0 (subject (drop at chars)) st out₁) (w : SpaceEnds chars st.next p) where
  -- the predicate is read from p on
  predicate_from : ws s.got.rest ≡ drop p chars
  predicate_from = ap ws s.rest ∙ w.rest_is

  -- WITHOUT A PREDICATE
  pub predicate_bad : named (drop p chars) ≡ none → triple_line (drop at chars) ≡ bad
  unfolding triple_line
  predicate_bad e = rw (s.is, predicate_from, e) refl

  module _ {pt : FoundTerm} {out₂ : List ℕ} {o : ℕ} (q : Got 0 chars p out₁ st.end (named (drop p chars)) pt out₂)
      (v : SpaceEnds chars pt.next o) where
    -- the object from o on
    object_from : ws q.got.rest ≡ drop o chars
    object_from = ap ws q.rest ∙ v.rest_is

    -- WITHOUT AN OBJECT
    pub object_bad : object (drop o chars) ≡ none → triple_line (drop at chars) ≡ bad
    unfolding triple_line
    object_bad e = rw (s.is, predicate_from, q.is, object_from, e) refl

    module _ {ot : FoundTerm} {out₃ : List ℕ} {dot : ℕ}
        (r : Got plain_width chars o out₂ pt.end (object (drop o chars)) ot out₃)
        (u : SpaceEnds chars ot.next dot) where
      -- with all three
      line_is : triple_line (drop at chars)
          ≡ if (finish (drop dot chars)) (λ _. says (terms s.got.found q.got.found r.got.found)) (λ _. bad)
      unfolding triple_line
      line_is =
          let e : ws r.got.rest ≡ drop dot chars = ap ws r.rest ∙ u.rest_is in
          rw (s.is, predicate_from, q.is, object_from, r.is, e) (stopped_is _ (drop dot chars))

      -- WITHOUT A DOT, or with more than a comment behind it
      pub unstopped : false ≡ finish (drop dot chars) → triple_line (drop at chars) ≡ bad
      unstopped e = line_is ∙ rw (← e) refl

      module _ (room : Room plain_width chars at out₀ 0) where
        -- A TRIPLE: the terms' bytes end within the buffer,
        fits : (st.end ≤ length out₁) × (pt.end ≤ length out₂) × (ot.end ≤ length out₃)
        fits =
            let f = room.room in
            let x = s.bounded in
            let y = q.bounded in
            let z = r.bounded in
            let d = w.after in
            let g = v.after in
            let m = s.same in
            let n = q.same in
            let i = r.same in
            (omega arith, omega arith, omega arith)

        -- they are the bytes between these ends,
        abbrev its_terms : LineTerms
        its_terms = record {
          subject_kind = st.kind;
          subject_end = st.end;
          predicate_end = pt.end;
          object_kind = ot.kind;
          object_end = ot.end;
        }

        terms_are : terms_at its_terms out₃ ≡ terms s.got.found q.got.found r.got.found
        terms_are =
            let f = fits in
            let y = q.bounded in
            let z = r.bounded in
            let a = st.end in
            let b = pt.end in
            let b₃ : take b out₃ ≡ take b out₂ = stays b r (omega arith) (omega arith) in
            let a₂ : take a out₂ ≡ take a out₁ = stays a q (omega arith) (omega arith) in
            let a₃ : take a out₃ ≡ take a out₂ = stays a r (omega arith) (omega arith) in
            let x₁ = term_is s.got.found s.kind (a₃ ∙ (a₂ ∙ s.front)) in
            let x₂ = term_is q.got.found (named_kind (drop p chars) q.got q.is)
            (part_is a b out₃ q.got.found.bytes (omega arith) (b₃ ∙ (q.front ∙ rw (a₃, a₂) refl))) in
            let x₃ = term_is r.got.found r.kind (part_is b ot.end out₃ r.got.found.bytes (omega arith) (r.front ∙ rw b₃ refl)) in
            λ i. terms (x₁ i) (x₂ i) (x₃ i)

        -- so that kinds and ends say the triple
        pub triple_said : true ≡ finish (drop dot chars) → Says (triple_line (drop at chars)) (Some (Triple its_terms)) out₃
        triple_said e =
            let f = fits in
            let y = q.bounded in
            let z = r.bounded in record {
              said_is = ap says terms_are ∙ sym (line_is ∙ rw (← e) refl);
              ordered = record { s_p = omega arith; p_o = omega arith; within = omega arith };
            }

module _ {chars : List ℕ} {at : ℕ} (w : SpaceEnds chars 0 at) where
  -- THE SCALAR VALUES OF A LINE, after white space: nothing but a comment,
  pub statement_ended : {out : List ℕ} → true ≡ ended (drop at chars) → Says (statement (ws chars)) (Some Nothing) out
  unfolding statement
  statement_ended e = record { said_is = rw (w.rest_is, ← e) refl; ordered = tt }

  -- or a triple
  pub statement_triple : false ≡ ended (drop at chars) → statement (ws chars) ≡ triple_line (drop at chars)
  unfolding statement
  statement_triple e = rw (w.rest_is, ← e) refl

-- THE BYTES OF A LINE: not UTF-8,
pub line_undecoded : {bytes chars : List ℕ} → Decodes bytes None chars → line bytes ≡ bad
unfolding line
line_undecoded d = rw (← d.chars_are) refl

-- what they say
pub line_decoded : (bytes cs : List ℕ) → decode bytes ≡ some cs → line bytes ≡ statement (ws cs)
unfolding line
line_decoded bytes cs e = rw e refl

-- each of them is below the largest
below_top : (cs : List ℕ) → T (all scalar cs) → (i : ℕ) → i < length cs → get_or cs i 0 ≤ top
below_top [] t i h = absurd (omega arith)
below_top (c ∷ cs) t zero h = scalar_top c (and→ (scalar c) (all scalar cs) t).0
below_top (c ∷ cs) t (suc i) h = below_top cs (and→ (scalar c) (all scalar cs) t).1 i (omega arith)

-- so that they can be read
pub line_room : {bytes chars₀ out : List ℕ} (n : ℕ) (chars : List ℕ) → LineFits bytes chars₀ out → n ≤ length bytes
    → length chars ≡ length chars₀ → decode bytes ≡ some (take n chars) → Room plain_width (take n chars) 0 out 0
line_room {bytes} n chars f h l e =
    let a = f.short in
    let b = f.characters in
    let c = f.written in
    let k = length-take-le n chars (omega arith) in record {
      within = omega arith;
      scalars = below_top (take n chars) (decoded_scalars bytes (take n chars) e);
      room = omega arith;
    }
