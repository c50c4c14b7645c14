-- Lines with what they say, and files with what they give, written by hand: W3C's files of 2013 by their names, then the points that
-- request c decides. proofs/Cases.antt proves the tables by one theorem over the definitions. Assumes nothing.
use Rattle.std.specs.Prelude.{◌≡◌, List, [], ◌∷◌, ◌++◌, map, ℕ, replicate}
use Prim.Native.String.{String}
use Rattle.common.specs.Text.{text}
use Rattle.common.specs.Triples.{triple}
use Rattle.dictionary_layout.specs.Terms.{Term, term}
use Rattle.ntriples.specs.Grammar.{Line, nothing, says, bad, line, terms, xsd_string}
use Rattle.ntriples.specs.Reading.{Outcome, refused, read, read_file}

-- a named node, a blank node, a literal of a text and its datatype or tag, a plain one
abbrev pub node : String → Term
node s = term 1 (text s)

abbrev pub bnode : String → Term
bnode s = term 2 (text s)

abbrev pub lit : List ℕ → String → Term
lit t d = term 3 (t ++ (0 ∷ text d))

abbrev pub plain : List ℕ → Term
plain t = term 3 (t ++ (0 ∷ xsd_string))

-- a line with what it says: its bytes, or ASCII characters
pub record Case : Type 0 where
  pub given : List ℕ
  pub said : Line

abbrev pub bytes : List ℕ → Line → Case
bytes b l = record { given = b; said = l }

abbrev pub reads : String → Line → Case
reads s l = bytes (text s) l

-- a file with what it gives, read into a load of so many triples, in a dictionary of so many numbers and bytes that holds these terms
pub record FileCase : Type 0 where
  pub table : ℕ
  pub arena : ℕ
  pub room : ℕ
  pub held : List Term
  pub given : List ℕ
  pub gives : Outcome

abbrev pub file : ℕ → ℕ → ℕ → List Term → List ℕ → Outcome → FileCase
file tl al cap ts b o = record { table = tl; arena = al; room = cap; held = ts; given = b; gives = o }

-- W3C's files: lines that say a triple,
abbrev pub w3c_good : List Case
w3c_good =
    -- minimal_whitespace
    reads "_:s<http://example/p>_:bnode1." (says (terms (bnode "s") (node "http://example/p") (bnode "bnode1"))) ∷
    -- comment_following_triple
    reads "<http://example/s> <http://example/p> \"o\"^^<http://example/dt> . # comment"
    (says (terms (node "http://example/s") (node "http://example/p") (lit (text "o") "http://example/dt"))) ∷
    -- lantag_with_subtag
    reads "<http://example.org/ex#a> <http://example.org/ex#b> \"Cheers\"@en-UK ."
    (says (terms (node "http://example.org/ex#a") (node "http://example.org/ex#b") (lit (text "Cheers") "en-UK"))) ∷
    -- literal_with_numeric_escape4, literal_with_numeric_escape8, nt-syntax-str-esc-01
    reads "<http://a.example/s> <http://a.example/p> \"\\u006F\" ."
    (says (terms (node "http://a.example/s") (node "http://a.example/p") (plain (text "o")))) ∷
    reads "<http://a.example/s> <http://a.example/p> \"\\U0000006F\" ."
    (says (terms (node "http://a.example/s") (node "http://a.example/p") (plain (text "o")))) ∷
    reads "<http://example/s> <http://example/p> \"a\\n\" ."
    (says (terms (node "http://example/s") (node "http://example/p") (plain (97 ∷ 10 ∷ [])))) ∷
    -- nt-syntax-uri-02, nt-syntax-bnode-03
    reads "<http://example/\\u0053> <http://example/p> <http://example/o> ."
    (says (terms (node "http://example/S") (node "http://example/p") (node "http://example/o"))) ∷
    reads "<http://example/s> <http://example/p> _:1a ." (says (terms (node "http://example/s") (node "http://example/p") (bnode "1a"))) ∷
    []

-- and bad ones
abbrev pub w3c_bad : List Case
w3c_bad =
    -- nt-syntax-bad-esc-01, -lang-01, -num-01, -prefix-01, -string-01, -struct-01, -uri-01, -uri-02, -uri-06
    reads "<http://example/s> <http://example/p> \"a\\zb\" ." bad ∷
    reads "<http://example/s> <http://example/p> \"string\"@1 ." bad ∷
    reads "<http://example/s> <http://example/p> 1 ." bad ∷
    reads "@prefix : <http://example/> ." bad ∷
    reads "<http://example/s> <http://example/p> \"abc' ." bad ∷
    reads "<http://example/s> <http://example/p> <http://example/o>, <http://example/o2> ." bad ∷
    reads "<http://example/ space> <http://example/p> <http://example/o> ." bad ∷
    reads "<http://example/\\u00ZZ11> <http://example/p> <http://example/o> ." bad ∷
    reads "<s> <http://example/p> <http://example/o> ." bad ∷
    []

-- nothing; a comment; a second triple
abbrev pub whole_lines : List Case
whole_lines =
    reads "" nothing ∷
    reads " \t# a \\ comment" nothing ∷
    reads "<a:s><a:p><a:o>.<a:s><a:p><a:o>." bad ∷
    []

-- a decoded IRI: an escaped colon counts, an escaped space does not pass
abbrev pub iris : List Case
iris =
    reads "<a\\u003As> <:> <a:o>." (says (terms (node "a:s") (node ":") (node "a:o"))) ∷
    reads "<a:\\u0020> <a:p> <a:o>." bad ∷
    []

-- labels: dots within, none at the end, RDF 1.1's colon
abbrev pub labels : List Case
labels =
    reads "_:a.b <a:p> _::c.." bad ∷
    reads "_:a..b <a:p> _::c." (says (terms (bnode "a..b") (node "a:p") (bnode ":c"))) ∷
    reads "_:.a <a:p> _:c ." bad ∷
    []

-- literals: white space within, tags as written, a tag cut short; a plain one is one typed xsd:string
abbrev pub literals : List Case
literals =
    reads "<a:s> <a:p> \"x\" ^^ <a:d> ." (says (terms (node "a:s") (node "a:p") (lit (text "x") "a:d"))) ∷
    reads "<a:s> <a:p> \"x\" @EN." (says (terms (node "a:s") (node "a:p") (lit (text "x") "EN"))) ∷
    reads "<a:s> <a:p> \"x\"@en- ." bad ∷
    reads "<a:s> <a:p> \"x\"@ en ." bad ∷
    reads "<a:s> <a:p> \"x\"^^<http://www.w3.org/2001/XMLSchema#string> ." (says (terms (node "a:s") (node "a:p") (plain (text "x")))) ∷
    []

-- escapes: a surrogate, a pair of them, above 10FFFF, a zero
abbrev pub escapes : List Case
escapes =
    reads "<a:s> <a:p> \"\\uD800\" ." bad ∷
    reads "<a:s> <a:p> \"\\uD83D\\uDE00\" ." bad ∷
    reads "<a:s> <a:p> \"\\U00110000\" ." bad ∷
    reads "<a:s> <a:p> \"\\u0000\" ." (says (terms (node "a:s") (node "a:p") (plain (0 ∷ [])))) ∷
    reads "<a:s> <a:p> \"\\U0010FFFF\\u00e9\" ."
    (says (terms (node "a:s") (node "a:p") (plain (0xF4 ∷ 0x8F ∷ 0xBF ∷ 0xBF ∷ 0xC3 ∷ 0xA9 ∷ [])))) ∷
    []

-- a raw zero in a literal and in a comment. UTF-8, in a comment too: overlong, a surrogate, above 10FFFF, cut short; a byte order mark
abbrev pub encodings : List Case
encodings =
    bytes (text "<a:s> <a:p> \"" ++ (0 ∷ text "\" .")) (says (terms (node "a:s") (node "a:p") (plain (0 ∷ [])))) ∷
    bytes (35 ∷ 0 ∷ []) nothing ∷
    bytes (35 ∷ 0xC3 ∷ 0xA9 ∷ []) nothing ∷
    bytes (35 ∷ 0xC0 ∷ 0x80 ∷ []) bad ∷
    bytes (35 ∷ 0xE0 ∷ 0x9F ∷ 0xBF ∷ []) bad ∷
    bytes (35 ∷ 0xED ∷ 0xA0 ∷ 0x80 ∷ []) bad ∷
    bytes (35 ∷ 0xF4 ∷ 0x90 ∷ 0x80 ∷ 0x80 ∷ []) bad ∷
    bytes (35 ∷ 0xE2 ∷ 0x82 ∷ []) bad ∷
    bytes (0xEF ∷ 0xBB ∷ 0xBF ∷ []) bad ∷
    []

-- files: every end of a line counts; the first failing line decides, and on it 14, 13, 11, 7, 3
abbrev pub three_nodes : List ℕ
three_nodes = text "<a:s><a:p><a:o>.\n"

abbrev pub files : List FileCase
files =
    file 128 64 1 [] [] (read [] []) ∷
    file 128 64 1 [] (text "\r\n# c\r<a:s><a:p><a:s>.") (read (node "a:s" ∷ node "a:p" ∷ []) (triple 0 1 0 ∷ [])) ∷
    file 128 64 2 (node "a:p" ∷ []) (three_nodes ++ three_nodes)
    (read (node "a:p" ∷ node "a:s" ∷ node "a:o" ∷ []) (triple 1 0 2 ∷ triple 1 0 2 ∷ [])) ∷
    file 128 64 1 [] (three_nodes ++ three_nodes) (refused 3) ∷
    file 128 64 1 [] (three_nodes ++ text "#\nx") (refused 13) ∷
    file 128 64 1 [] (three_nodes ++ text "#") (read (node "a:s" ∷ node "a:p" ∷ node "a:o" ∷ []) (triple 0 1 2 ∷ [])) ∷
    file 128 64 1 (node "urn:_" ∷ []) (text "<urn:_><a:p><urn:_>.") (read (node "urn:_" ∷ node "a:p" ∷ []) (triple 0 1 0 ∷ [])) ∷
    file 128 8 1 [] three_nodes (refused 7) ∷
    file 128 64 1 [] (replicate 32769 255) (refused 14) ∷
    file 128 64 1 [] (replicate 32768 35) (read [] []) ∷
    file 128 8 1 [] (text "<a:s><a:p><a:" ++ (replicate 4095 120 ++ text ">.")) (refused 11) ∷
    file 72 64 1 [] (three_nodes ++ text "x") (refused 7) ∷
    []

-- EACH IS AS THE DEFINITIONS HAVE IT
abbrev pub LinesHold : List Case → Type 0
LinesHold cs = map (λ c. line c.given) cs ≡ map (λ c. c.said) cs

abbrev pub FilesHold : List FileCase → Type 0
FilesHold cs = map (λ c. read_file c.table c.arena c.room c.held c.given) cs ≡ map (λ c. c.gives) cs

abbrev pub AllHold : Type 0
AllHold =
    LinesHold w3c_good × LinesHold w3c_bad × LinesHold whole_lines × LinesHold iris × LinesHold labels × LinesHold literals
    × LinesHold escapes × LinesHold encodings × FilesHold files
