-- What the functions that a write is made of promise. Assumes nothing.
use Rattle.std.specs.Prelude.{◌≡◌, List, ℕ, ◌+◌, ◌*◌, ◌%◌, ◌≤◌, ◌<◌, T, length, get_or, Option as Maybe, Some, None}
use Rattle.std.proofs.Math.Option.{Option, some, none}
use Rattle.common.specs.Sizes.{store_width, store_limit, term_limit}
use Rattle.common.specs.Triples.{Triple, all, erase}
use Rattle.common.specs.Rows.{rows_of}
use Rattle.dictionary_layout.specs.Terms.{Term}
use Rattle.dictionary_layout.specs.Layout.{Dict, decode}
use Rattle.dictionary_layout.specs.Dictionary.{term_of, valid}
use Rattle.ntriples.specs.Grammar.{Terms, terms}
use Rattle.ntriples_canonical.specs.Writing.{ended_line, line_text, text_of, as_terms}
use Rattle.ntriples_canonical.specs.Calls.{known}
use Rattle.ntriples_text.specs.Promises.{text_length}

-- THE LENGTHS of the texts of the first n terms, 0 where a term has none
pub record Measured (ts : List Term) (n : ℕ) (lengths : List ℕ) : Type 0 where
  pub room : length ts ≤ length lengths
  pub each : (i : ℕ) → i < n → get_or lengths i 0 ≡ text_length (term_of ts i)

-- what measuring terms needs: a dictionary that is not broken, and room for a length of each term and for the characters of one
pub record Roomed (d : Dict) (ls cs : List ℕ) : Type 0 where
  pub unbroken : T (valid d)
  pub lengths : length (decode d) ≤ length ls
  pub chars : term_limit ≤ length cs

-- the terms of a triple, and of all rows of a store
abbrev pub terms_of : Dict → Triple → Terms
terms_of d x = terms (term_of (decode d) x.s) (term_of (decode d) x.p) (term_of (decode d) x.o)

abbrev pub row_triples : List ℕ → List Triple
row_triples store = erase (rows_of store)

abbrev pub all_lines : Dict → List ℕ → List Terms
all_lines d store = as_terms (decode d) (row_triples store)

-- the length of a line with its end, none for a triple that is left out
abbrev pub line_length : Option (List ℕ) → Maybe ℕ
line_length none = None
line_length (some l) = Some (length (ended_line (some l)))

-- a dictionary that is not broken, with the lengths of all its terms' texts
pub record Lengths (d : Dict) (lengths : List ℕ) : Type 0 where
  pub unbroken : T (valid d)
  pub measured : Measured (decode d) d.terms lengths

-- a store of whole rows, no more than a store may have, of known ids
pub record KnownRows (d : Dict) (store : List ℕ) : Type 0 where
  pub whole : length store % store_width ≡ 0
  pub few : length store ≤ store_width * store_limit
  pub ids : T (all (known d.terms) (row_triples store))

-- a line of a triple of known ids that is not left out, with room from place `at` on
pub record LineFits (d : Dict) (x : Triple) (at : ℕ) (page : List ℕ) : Type 0 where
  pub unbroken : T (valid d)
  pub ids : T (known d.terms x)
  pub line : List ℕ
  pub is : ended_line (line_text (terms_of d x)) ≡ line
  pub some : 0 < length line
  pub room : at + length line ≤ length page

-- room for the lines of all rows
pub record AllFit (d : Dict) (ls store page : List ℕ) : Type 0 where
  pub lengths : Lengths d ls
  pub rows : KnownRows d store
  pub room : length (text_of (all_lines d store)) ≤ length page
