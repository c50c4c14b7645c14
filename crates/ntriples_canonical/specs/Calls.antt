-- What a write gives, and what it leaves in the bytes that it is lent for the text, for all inputs: computed from the terms held, from the
-- store, its triple count and the lent bytes. REFERENCE 3.7. Refusals 1, then 4, then 6, change nothing; then 15 leaves the bytes all zero.
-- Dictionary and store are lent to be read. Assumes nothing.
use Rattle.std.specs.Prelude.{Bool, ◌&&◌, List, ℕ, ◌*◌, ◌/◌, ◌%◌, leb, ltb, eqb, length, take}
use Rattle.common.specs.Sizes.{store_width, store_limit}
use Rattle.common.specs.Triples.{Triple, if, all, erase}
use Rattle.common.specs.Rows.{rows_of, filled, zeros}
use Rattle.dictionary_layout.specs.Terms.{Term}
use Rattle.dictionary_layout.specs.Layout.{Dict}
use Rattle.dictionary_layout.specs.Calls.{on_valid}
use Rattle.ntriples.specs.Grammar.{Terms}
use Rattle.ntriples_canonical.specs.Writing.{text_of, left_out, as_terms}

-- the number, the text's length, the number of triples left out, and the bytes as they are left
pub record WriteAnswer : Type 0 where
  pub number : ℕ
  pub used : ℕ
  pub left : ℕ
  pub page : List ℕ

abbrev pub write_answer : ℕ → ℕ → ℕ → List ℕ → WriteAnswer
write_answer n k m p = record { number = n; used = k; left = m; page = p }

-- a store of so many numbers: whole rows, no more than a store may have, and as many as are counted: else refusal 4
abbrev pub lengths_hold : ℕ → ℕ → Bool
lengths_hold len n = eqb (len % store_width) 0 && (leb len (store_width * store_limit) && leb n (len / store_width))

-- the triples of its first n rows
abbrev pub first_triples : List ℕ → ℕ → List Triple
first_triples store n = erase (rows_of (take (store_width * n) store))

-- ids below the term count: else refusal 6
abbrev pub known : ℕ → Triple → Bool
known n x = ltb x.s n && (ltb x.p n && ltb x.o n)

-- the text, then zeros, or refusal 15
unfoldable pub written_on : List ℕ → List Terms → WriteAnswer
written_on page w =
    if (leb (length (text_of w)) (length page))
    (λ _. write_answer 0 (length (text_of w)) (left_out w) (filled page (text_of w)))
    (λ _. write_answer 15 0 0 (zeros page))

unfoldable pub abstract_write : List Term → List ℕ → ℕ → List ℕ → WriteAnswer
abstract_write ts store n page =
    if (lengths_hold (length store) n) (λ _.
    if (all (known (length ts)) (first_triples store n)) (λ _. written_on page (as_terms ts (first_triples store n)))
    (λ _. write_answer 6 0 0 page))
    (λ _. write_answer 4 0 0 page)

-- WRITE
unfoldable pub write_gives : Dict → List ℕ → ℕ → List ℕ → WriteAnswer
write_gives d store n page = on_valid d (λ tl al ts. abstract_write ts store n page) (λ _. write_answer 1 0 0 page)
