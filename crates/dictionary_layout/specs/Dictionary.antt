-- What a dictionary does, computed from the lengths of table and arena and from the terms held, REFERENCE 3.1 to 3.3; and which contents
-- are a dictionary's, REFERENCE 2.7. Refusals 1, 4, 7, 10, 11 and 12: REFERENCE 1.5. Assumes nothing.
use Rattle.std.specs.Prelude.{Bool, true, false, ◌&&◌, List, [], ◌∷◌, ◌++◌, ℕ, zero, suc, ◌+◌, ◌-◌, ◌%◌, leb, ltb, eqb, length, get_or}
use Rattle.std.proofs.Math.Option.{Option, some, none}
use Rattle.common.specs.Sizes.{heads_width, entry_width, table_limit, arena_limit, term_limit}
use Rattle.common.specs.Triples.{if}
use Rattle.dictionary_layout.specs.Terms.{Term, no_term, start_terms}
use Rattle.dictionary_layout.specs.Layout.{Dict, size, entry_at, layout, decode}

-- tests of equality
abbrev pub same_row : List ℕ → List ℕ → Bool
same_row [] [] = true
same_row [] (b ∷ bs) = false
same_row (a ∷ r) [] = false
same_row (a ∷ r) (b ∷ bs) = if (eqb a b) (λ _. same_row r bs) (λ _. false)

abbrev pub same_term : Term → Term → Bool
same_term t u = eqb t.kind u.kind && same_row t.bytes u.bytes

abbrev pub same_dict : Dict → Dict → Bool
same_dict d e = eqb d.terms e.terms && (eqb d.used e.used && (same_row d.table e.table && same_row d.arena e.arena))

-- a term's place among the terms held, the first of which has the number i; `place_of t ts` is its id
unfoldable pub place_from : ℕ → Term → List Term → Option ℕ
place_from i t [] = none
place_from i t (u ∷ us) = if (same_term t u) (λ _. some i) (λ _. place_from (suc i) t us)

abbrev pub place_of : Term → List Term → Option ℕ
place_of t ts = place_from 0 t ts

-- the id, where there is one
abbrev pub id_of : Option ℕ → ℕ
id_of (some i) = i
id_of none = 0

-- PUT
-- the kind is 1 to 3: else refusal 10
abbrev pub kind_known : Term → Bool
kind_known t = leb 1 t.kind && leb t.kind 3

-- at most 4,096 bytes: else refusal 11
abbrev pub short : Term → Bool
short t = leb (length t.bytes) term_limit

-- entries and arena bytes suffice for one term more: else refusal 7
abbrev pub roomy : ℕ → ℕ → List Term → Term → Bool
roomy tl al ts t = leb (entry_at (suc (length ts))) tl && leb (size ts + length t.bytes) al

-- what a put answers: the refusal's number, the id, and the terms held afterwards
pub record PutAnswer : Type 0 where
  pub number : ℕ
  pub id : ℕ
  pub held : List Term

abbrev pub put_answer : ℕ → ℕ → List Term → PutAnswer
put_answer n i ts = record { number = n; id = i; held = ts }

abbrev pub put_at : ℕ → ℕ → List Term → Term → Option ℕ → PutAnswer
put_at tl al ts t (some i) = put_answer 0 i ts
put_at tl al ts t none = if (roomy tl al ts t) (λ _. put_answer 0 (length ts) (ts ++ (t ∷ []))) (λ _. put_answer 7 0 ts)

unfoldable pub abstract_put : ℕ → ℕ → List Term → Term → PutAnswer
abstract_put tl al ts t =
    if (kind_known t)
    (λ _. if (short t) (λ _. put_at tl al ts t (place_of t ts)) (λ _. put_answer 11 0 ts))
    (λ _. put_answer 10 0 ts)

-- THE THREE TERMS OF A RUN, or any others: all of them, or refusal 7
pub data AllPut : Type 0 where
  full : AllPut
  all_put : List Term → AllPut

abbrev pub if_zero : {A : Type 0} → ℕ → (Unit {0} → A) → (Unit {0} → A) → A
if_zero zero f g = f tt
if_zero (suc n) f g = g tt

unfoldable pub put_all : ℕ → ℕ → List Term → List Term → AllPut
put_all tl al ts [] = all_put ts
put_all tl al ts (t ∷ r) = let p = abstract_put tl al ts t in if_zero p.number (λ _. put_all tl al p.held r) (λ _. full)

-- LOOKUP: the number, the kind, the bytes
pub record LookupAnswer : Type 0 where
  pub number : ℕ
  pub kind : ℕ
  pub part : List ℕ

abbrev pub lookup_answer : ℕ → ℕ → List ℕ → LookupAnswer
lookup_answer n k p = record { number = n; kind = k; part = p }

-- the term of an id; `no_term` where no term has it
abbrev pub term_of : List Term → ℕ → Term
term_of ts i = get_or ts i no_term

unfoldable pub abstract_lookup : List Term → ℕ → LookupAnswer
abstract_lookup ts i = if (ltb i (length ts)) (λ _. lookup_answer 0 (term_of ts i).kind (term_of ts i).bytes) (λ _. lookup_answer 12 0 [])

-- WHICH TERMS a table of tl numbers and an arena of al bytes can hold
-- well sized: else refusal 4 at a start
abbrev pub sized : ℕ → ℕ → Bool
sized tl al = leb heads_width tl && (eqb ((tl - heads_width) % entry_width) 0 && (leb tl table_limit && leb al arena_limit))

-- room for the start's terms: else refusal 7 at a start
abbrev pub start_fits : ℕ → ℕ → Bool
start_fits tl al = leb (entry_at (length start_terms)) tl && leb (size start_terms) al

-- the number of a start's refusal, or 0
unfoldable pub start_refusal : ℕ → ℕ → ℕ
start_refusal tl al = if (sized tl al) (λ _. if (start_fits tl al) (λ _. 0) (λ _. 7)) (λ _. 4)

-- a put that answered p all-put a term to n others
abbrev pub adds : ℕ → PutAnswer → Bool
adds n p = eqb p.number 0 && eqb (length p.held) (suc n)

-- each of the terms us in turn is a new one that a put accepts
unfoldable pub grows : ℕ → ℕ → List Term → List Term → Bool
grows tl al ts [] = true
grows tl al ts (t ∷ us) = if (adds (length ts) (abstract_put tl al ts t)) (λ _. grows tl al (ts ++ (t ∷ [])) us) (λ _. false)

-- a list of terms begins with others, and the test holds of the rest
unfoldable pub begins : List Term → List Term → (List Term → Bool) → Bool
begins [] us f = f us
begins (t ∷ ts) [] f = false
begins (t ∷ ts) (u ∷ us) f = if (same_term t u) (λ _. begins ts us f) (λ _. false)

-- the start's terms, then new ones that puts accept one after the other
unfoldable pub holdable : ℕ → ℕ → List Term → Bool
holdable tl al ts = sized tl al && (start_fits tl al && begins start_terms ts (grows tl al start_terms))

-- NOT BROKEN: the contents are those of terms that can be held. Refusal 1 is `not (valid d)`; proofs/Reachable.antt shows that
-- these are exactly the contents that a start followed by puts leaves.
unfoldable pub valid : Dict → Bool
valid d =
    holdable (length d.table) (length d.arena) (decode d) && same_dict (layout (length d.table) (length d.arena) (decode d)) d
