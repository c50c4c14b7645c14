-- What is written reads back: "Reading a written file of at most 16,384 triples into a started dictionary and a load, both large enough,
-- gives the triples written, as terms." proofs/RoundTrip.antt. Assumes nothing.
use Rattle.std.specs.Prelude.{◌≡◌, List, [], ◌∷◌, ◌++◌, ℕ, ◌+◌, ◌*◌, ◌/◌, ◌%◌, ◌≤◌, T, length, take}
use Rattle.std.proofs.Math.Option.{Option, some, none}
use Rattle.common.specs.Sizes.{load_width, load_limit}
use Rattle.common.specs.Triples.{In}
use Rattle.common.specs.Rows.{triples}
use Rattle.dictionary_layout.specs.Terms.{Term}
use Rattle.dictionary_layout.specs.Layout.{Dict, size, entry_at, decode}
use Rattle.dictionary_layout.specs.Dictionary.{place_of, valid}
use Rattle.ntriples.specs.Grammar.{Terms, says, line}
use Rattle.ntriples.specs.Reading.{in_order, ReadResult, read_gives}
use Rattle.ntriples_canonical.specs.Writing.{written, as_terms}
use Rattle.ntriples_canonical.specs.Calls.{WriteAnswer, first_triples, write_gives}

-- IN WORDS: some line says the triple, and some line gives the term. proofs/Given.antt: exactly the triples that some line says have a
-- line, and exactly the terms that some line gives have a text
pub record Said (t : Terms) : Type 0 where
  pub bytes : List ℕ
  pub says_it : line bytes ≡ says t

pub record Given (x : Term) : Type 0 where
  pub triple : Terms
  pub said : Said triple
  pub among : In x (in_order triple)

-- the terms held when others have been put, each once, in order of appearance
abbrev pub with_term : List Term → Term → Option ℕ → List Term
with_term ts x none = ts ++ (x ∷ [])
with_term ts x (some i) = ts

unfoldable pub with_terms : List Term → List Term → List Term
with_terms ts [] = ts
with_terms ts (x ∷ xs) = with_terms (with_term ts x (place_of x ts)) xs

-- the terms of triples, subject first
unfoldable pub all_terms : List Terms → List Term
all_terms [] = []
all_terms (t ∷ w) = in_order t ++ all_terms w

-- LARGE ENOUGH for the triples w: at most 16,384 of them, rows for them in the load, entries and bytes for their terms, each counted once
pub record Large (e : Dict) (load : List ℕ) (w : List Terms) : Type 0 where
  pub started : T (valid e)
  pub whole : length load % load_width ≡ 0
  pub few : length w ≤ load_limit
  pub rows : length w ≤ length load / load_width
  pub entries : entry_at (length (with_terms (decode e) (all_terms w))) ≤ length e.table
  pub bytes : size (with_terms (decode e) (all_terms w)) ≤ length e.arena

-- the triples that a read gave, as terms
abbrev pub terms_read : ReadResult → List Terms
terms_read r = as_terms (decode r.contents) (triples (take (load_width * r.answer.count) r.answer.load))

-- READ BACK: accepted, and the triples w in their order
pub record ReadsBack (r : ReadResult) (w : List Terms) : Type 0 where
  pub accepted : r.answer.number ≡ 0
  pub count : r.answer.count ≡ length w
  pub same : terms_read r ≡ w

-- the text that a write left, and the triples that it wrote
abbrev pub written_file : WriteAnswer → List ℕ
written_file a = take a.used a.page

abbrev pub written_triples : Dict → List ℕ → ℕ → List Terms
written_triples d store n = written (as_terms (decode d) (first_triples store n))

-- THE ROUND TRIP, over the two calls: whatever an accepted write wrote, read into what is large enough; the count of those read is the
-- triple count without those left out
pub record RoundTrip (d : Dict) (store : List ℕ) (n : ℕ) (page : List ℕ) : Type 0 where
  pub counted : n ≡ (write_gives d store n page).left + length (written_triples d store n)
  pub back : (e : Dict) (load : List ℕ) → Large e load (written_triples d store n)
      → ReadsBack (read_gives e load (written_file (write_gives d store n page))) (written_triples d store n)
