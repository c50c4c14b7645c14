-- What the functions that read terms and lines promise. The bytes of a line's terms go into `out` one behind the other. Assumes nothing.
use Rattle.std.specs.Prelude.{◌≡◌, Bool, false, ◌&&◌, List, [], ◌∷◌, ◌++◌, ℕ, ◌+◌, ◌*◌, ◌≤◌, eqb, length, take, drop}
use Rattle.std.specs.Prelude.{Option as Maybe, Some, None}
use Rattle.std.proofs.Math.Option.{Option, some, none}
use Rattle.dictionary_layout.specs.Terms.{term}
use Rattle.ntriples.specs.Grammar.{Found, Line, nothing, says, bad, Terms, terms, ws, ended}
use Rattle.ntriples.specs.Reading.{line_limit}
use Rattle.ntriples_tokens.specs.Promises.{part}
use Rattle.ntriples_tokens.specs.declared.values.Token.{Token as Ends}
use Rattle.ntriples_lines.specs.declared.terms.FoundTerm.{FoundTerm}
use Rattle.ntriples_lines.specs.declared.LineTerms.{LineTerms}
use Rattle.ntriples_lines.specs.declared.Said.{Said}
use Rattle.ntriples_lines.specs.declared.Said.TheVariants.{Nothing, Triple}

-- how many bytes xsd:string has, the datatype of a plain literal; and with the zero byte before it: no character of the line brings them
abbrev pub xsd_width : ℕ
xsd_width = 39

abbrev pub plain_width : ℕ
plain_width = xsd_width + 1

-- a term's kind, bytes written, and the characters that are left
pub record TermOutput : Type 0 where
  pub kind : ℕ
  pub bytes : List ℕ
  pub rest : List ℕ

abbrev pub term_output : ℕ → List ℕ → List ℕ → TermOutput
term_output k b r = record { kind = k; bytes = b; rest = r }

-- a term with its bytes behind others
abbrev pub term_behind : List ℕ → Option Found → Option TermOutput
term_behind front none = none
term_behind front (some f) = some (term_output f.found.kind (front ++ f.found.bytes) f.rest)

-- the answer of a function that reads a term
abbrev pub term_output_of : Maybe FoundTerm → List ℕ → List ℕ → Option TermOutput
term_output_of (Some t) chars out = some (term_output t.kind (take t.end out) (drop t.next chars))
term_output_of None chars out = none

-- a term of a kind, from a token
abbrev pub as_found : ℕ → Maybe Ends → Maybe FoundTerm
as_found k (Some t) = Some (record { kind = k; next = t.next; end = t.end })
as_found k None = None

-- where a term ends
abbrev pub TermBounded : ℕ → List ℕ → ℕ → ℕ → Maybe FoundTerm → Type 0
TermBounded more chars at used (Some t) =
    (at ≤ t.next) × (t.next ≤ length chars) × (used ≤ t.end) × (t.end + 4 * at ≤ used + 4 * t.next + more)
TermBounded more chars at used None = Unit {0}

-- A TERM READ from place `at` on: o, with its bytes behind the first `used` of the buffer
pub record Finds (more : ℕ) (chars : List ℕ) (at : ℕ) (old : List ℕ) (used : ℕ) (o : Option Found) (r : Maybe FoundTerm)
    (new : List ℕ) : Type 0 where
  pub output_is : term_output_of r chars new ≡ term_behind (take used old) o
  pub bounded : TermBounded more chars at used r
  pub same : length new ≡ length old

-- a dot, and nothing but a comment behind it
unfoldable pub finish : List ℕ → Bool
finish [] = false
finish (c ∷ cs) = eqb c 46 && ended (ws cs)

-- A LINE'S TERMS, their bytes one behind the other
pub record Ordered (t : LineTerms) (out : List ℕ) : Type 0 where
  pub s_p : t.subject_end ≤ t.predicate_end
  pub p_o : t.predicate_end ≤ t.object_end
  pub within : t.object_end ≤ length out

abbrev pub terms_at : LineTerms → List ℕ → Terms
terms_at t out =
    terms (term t.subject_kind (take t.subject_end out)) (term 1 (part out t.subject_end t.predicate_end))
    (term t.object_kind (part out t.predicate_end t.object_end))

-- what a line says
abbrev pub said_of : Maybe Said → List ℕ → Line
said_of (Some Nothing) out = nothing
said_of (Some (Triple t)) out = says (terms_at t out)
said_of None out = bad

abbrev pub SaidWithin : Maybe Said → List ℕ → Type 0
SaidWithin (Some Nothing) out = Unit {0}
SaidWithin (Some (Triple t)) out = Ordered t out
SaidWithin None out = Unit {0}

-- A LINE READ
pub record Says (l : Line) (r : Maybe Said) (out : List ℕ) : Type 0 where
  pub said_is : said_of r out ≡ l
  pub ordered : SaidWithin r out

-- buffers that suffice for every line that is not too long
pub record LineFits (bytes chars out : List ℕ) : Type 0 where
  pub short : length bytes ≤ line_limit
  pub characters : line_limit ≤ length chars
  pub written : 4 * line_limit + plain_width ≤ length out
