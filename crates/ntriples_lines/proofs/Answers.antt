-- What the answers of the functions that read tokens and terms say, and how a function passes on what another read. Assumes nothing.
use mathlib.Core.Path.{◌≡◌, refl, sym, ap, ◌∙◌}
use mathlib.Core.Option.{Option, some, none}
use mathlib.Core.List.{List, ◌++◌}
use Prim.Native.Nat.{ℕ, ◌+◌, ◌*◌, ◌≤◌}
use native.Mathlib.Omega.{arith}
use lib.ListN.{length, take, drop}
use Rattle.ntriples.specs.Utf8.{encode, on}
use Rattle.ntriples.specs.Grammar.{Token, Found, as_term}
use Rattle.ntriples.proofs.Tests.{no_some}
use Rattle.ntriples_tokens.specs.Promises.{Output, output, behind, output_of, Bounded, Parses}
use Rattle.std.specs.Prelude.{Option as Maybe, Some, None}
use Rattle.ntriples_tokens.specs.declared.values.Token.{Token as Ends}
use Rattle.ntriples_lines.specs.Promises.{TermOutput, term_output, term_behind, term_output_of, as_found, TermBounded, Finds}
use Rattle.ntriples_lines.specs.declared.terms.FoundTerm.{FoundTerm}

-- A TOKEN THAT WAS READ
pub record GotToken (chars : List ℕ) (at : ℕ) (old : List ℕ) (used : ℕ) (o : Option Token) (t : Ends) (new : List ℕ) : Type 0 where
  pub got : Token
  pub is : o ≡ some got
  pub front : take t.end new ≡ take used old ++ encode got.chars
  pub rest : got.rest ≡ drop t.next chars
  pub bounded : Bounded 0 chars at used (Some t)
  pub same : length new ≡ length old

module _ {chars : List ℕ} {at : ℕ} {old : List ℕ} {used : ℕ} {o : Option Token} {new : List ℕ} where
  -- no token is read where there is none
  pub no_token : {more : ℕ} → o ≡ none → length new ≡ length old → Parses more chars at old used o None new
  no_token e l = record { output_is = rw e refl; bounded = tt; same = l }

  -- what is there from a place on is what another function read from a later place on
  pub token_after : {more more₀ at₀ : ℕ} {o₀ : Option Token} {r : Maybe Ends} → o₀ ≡ o → at₀ ≤ at → more ≤ more₀
      → Parses more chars at old used o r new → Parses more₀ chars at₀ old used o₀ r new
  token_after {more} {more₀} {at₀} {o₀} {r} e h m p = record {
    output_is = p.output_is ∙ ap (behind (take used old)) (sym e);
    bounded = further r p.bounded;
    same = p.same;
  }
    where
      further : (r : Maybe Ends) → Bounded more chars at used r → Bounded more₀ chars at₀ used r
      further (Some t) b = (omega arith, omega arith, omega arith, omega arith)
      further None b = tt

  -- an answer by its cases: a token,
  pub case_token : {t : Ends} → Parses 0 chars at old used o (Some t) new → GotToken chars at old used o t new
  case_token {t} p = go o p
    where
      go : (o : Option Token) → Parses 0 chars at old used o (Some t) new → GotToken chars at old used o t new
      go none q = no_some (sym q.output_is)
      go (some g) q =
          let e : output (take t.end new) (drop t.next chars) ≡ output (take used old ++ encode g.chars) g.rest = cc q.output_is in
          record {
            got = g;
            is = refl;
            front = ap (λ (x : Output). x.bytes) e;
            rest = sym (ap (λ (x : Output). x.rest) e);
            bounded = q.bounded;
            same = q.same;
          }

  -- or none
  pub case_no_token : {more : ℕ} → Parses more chars at old used o None new → o ≡ none
  case_no_token p = go o p.output_is
    where
      go : (o : Option Token) → output_of None chars new ≡ behind (take used old) o → o ≡ none
      go none q = refl
      go (some t) q = no_some q

-- A TERM THAT WAS READ
pub record Got (more : ℕ) (chars : List ℕ) (at : ℕ) (old : List ℕ) (used : ℕ) (o : Option Found) (t : FoundTerm) (new : List ℕ) : Type 0
  where
    pub got : Found
    pub is : o ≡ some got
    pub kind : got.found.kind ≡ t.kind
    pub front : take t.end new ≡ take used old ++ got.found.bytes
    pub rest : got.rest ≡ drop t.next chars
    pub bounded : TermBounded more chars at used (Some t)
    pub same : length new ≡ length old

module _ {more : ℕ} {chars : List ℕ} {at : ℕ} {old : List ℕ} {used : ℕ} {o : Option Found} {new : List ℕ} where
  -- no term is read where there is none
  pub no_term : o ≡ none → length new ≡ length old → Finds more chars at old used o None new
  no_term e l = record { output_is = rw e refl; bounded = tt; same = l }

  -- what is there is what another function read
  pub term_as : {more₀ : ℕ} {o₀ : Option Found} {r : Maybe FoundTerm} → o₀ ≡ o → more ≤ more₀ → Finds more chars at old used o r new
      → Finds more₀ chars at old used o₀ r new
  term_as {more₀} {o₀} {r} e m p = record {
    output_is = p.output_is ∙ ap (term_behind (take used old)) (sym e);
    bounded = further r p.bounded;
    same = p.same;
  }
    where
      further : (r : Maybe FoundTerm) → TermBounded more chars at used r → TermBounded more₀ chars at used r
      further (Some t) b = (omega arith, omega arith, omega arith, omega arith)
      further None b = tt

  -- an answer by its cases: a term,
  pub case_term : {t : FoundTerm} → Finds more chars at old used o (Some t) new → Got more chars at old used o t new
  case_term {t} p = go o p
    where
      go : (o : Option Found) → Finds more chars at old used o (Some t) new → Got more chars at old used o t new
      go none q = no_some (sym q.output_is)
      go (some g) q =
          let e : term_output t.kind (take t.end new) (drop t.next chars)
          ≡ term_output g.found.kind (take used old ++ g.found.bytes) g.rest = cc q.output_is in
          record {
            got = g;
            is = refl;
            kind = sym (ap (λ (x : TermOutput). x.kind) e);
            front = ap (λ (x : TermOutput). x.bytes) e;
            rest = sym (ap (λ (x : TermOutput). x.rest) e);
            bounded = q.bounded;
            same = q.same;
          }

  -- or none
  pub case_no_term : Finds more chars at old used o None new → o ≡ none
  case_no_term p = go o p.output_is
    where
      go : (o : Option Found) → term_output_of None chars new ≡ term_behind (take used old) o → o ≡ none
      go none q = refl
      go (some t) q = no_some q

-- A TERM BY ITS LAST TOKEN. The bytes and the rest of a token, as those of a term of kind k
abbrev as_output : ℕ → Option Output → Option TermOutput
as_output k none = none
as_output k (some x) = some (term_output k x.bytes x.rest)

-- where the token was read from place `at` on and stands behind `used` bytes of `old`, the term begins at place `at₀`, its bytes stand
-- behind `used₀` bytes of `old₀`, and they are the encoding of what f makes of the token
module _ {more₀ : ℕ} {chars : List ℕ} {at₀ : ℕ} {old₀ : List ℕ} {used₀ more at : ℕ} {old : List ℕ} {used : ℕ} {o : Option Token}
    {r : Maybe Ends} {new : List ℕ} {q : Maybe FoundTerm} where
  pub found : (k : ℕ) (f : Token → List ℕ) → ((t : Token) → take used old ++ encode t.chars ≡ take used₀ old₀ ++ encode (f t))
      → at₀ ≤ at → used₀ ≤ used → used + 4 * at₀ + more ≤ used₀ + 4 * at + more₀ → length old ≡ length old₀
      → Parses more chars at old used o r new → q ≡ as_found k r
      → Finds more₀ chars at₀ old₀ used₀ (on o (λ t. as_term k (f t) t.rest)) q new
  found k f g h i j l p e = rw e (record {
    output_is = left r ∙ (ap (as_output k) p.output_is ∙ right o);
    bounded = further r p.bounded;
    same = p.same ∙ l;
  })
    where
      left : (r : Maybe Ends) → term_output_of (as_found k r) chars new ≡ as_output k (output_of r chars new)
      left (Some t) = refl
      left None = refl

      right : (o : Option Token) → as_output k (behind (take used old) o)
          ≡ term_behind (take used₀ old₀) (on o (λ t. as_term k (f t) t.rest))
      right none = refl
      right (some t) = ap (λ b. some (term_output k b t.rest)) (g t)

      further : (r : Maybe Ends) → Bounded more chars at used r → TermBounded more₀ chars at₀ used₀ (as_found k r)
      further (Some t) b = (omega arith, omega arith, omega arith, omega arith)
      further None b = tt

-- a term of one token
pub token_found : {chars : List ℕ} {at : ℕ} {old : List ℕ} {used : ℕ} {o : Option Token} {r : Maybe Ends} {new : List ℕ}
    {q : Maybe FoundTerm} (k : ℕ) → Parses 0 chars at old used o r new → q ≡ as_found k r
    → Finds 0 chars at old used (on o (λ t. as_term k t.chars t.rest)) q new
token_found k = found k (λ t. t.chars) (λ t. refl) (omega arith) (omega arith) (omega arith) refl
