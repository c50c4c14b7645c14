-- What start, put and lookup give, and what each leaves in the buffers that it is lent, for all inputs: refusal 1, else what the terms
-- that the contents name say, laid out again. REFERENCE 3.1 to 3.3. A refusal returns its number, 0 for every other number of the result
-- and an empty part for a lookup, and changes no buffer, REFERENCE 1.4 and 1.7. Assumes nothing.
use Rattle.std.specs.Prelude.{◌≡◌, List, [], ◌∷◌, ℕ, length}
use Rattle.common.specs.Triples.{if}
use Rattle.dictionary_layout.specs.Terms.{Term, start_terms}
use Rattle.dictionary_layout.specs.Layout.{Dict, dict, layout, decode}
use Rattle.dictionary_layout.specs.Dictionary.{if_zero, LookupAnswer, lookup_answer, abstract_put, abstract_lookup}
use Rattle.dictionary_layout.specs.Dictionary.{start_refusal, valid}

-- what lengths and terms give where the contents are a dictionary's, and another answer where they are not
abbrev pub on_valid : {A : Type 0} → Dict → (ℕ → ℕ → List Term → A) → (Unit {0} → A) → A
on_valid d f g = if (valid d) (λ _. f (length d.table) (length d.arena) (decode d)) g

-- START: the number, then table and arena as they are left, with the two counters that it returns
pub record StartResult : Type 0 where
  pub number : ℕ
  pub contents : Dict

abbrev pub start_result : ℕ → Dict → StartResult
start_result n d = record { number = n; contents = d }

-- whatever stood in the table and the arena
unfoldable pub start_gives : List ℕ → List ℕ → StartResult
start_gives table arena =
    let n = start_refusal (length table) (length arena) in
    if_zero n (λ _. start_result 0 (layout (length table) (length arena) start_terms)) (λ _. start_result n (dict table arena 0 0))

-- PUT: the number, the id, and the contents as they are left
pub record PutResult : Type 0 where
  pub number : ℕ
  pub id : ℕ
  pub contents : Dict

abbrev pub put_result : ℕ → ℕ → Dict → PutResult
put_result n i d = record { number = n; id = i; contents = d }

abbrev pub put_laid : Term → ℕ → ℕ → List Term → PutResult
put_laid t tl al ts = let p = abstract_put tl al ts t in put_result p.number p.id (layout tl al p.held)

unfoldable pub put_gives : Dict → Term → PutResult
put_gives d t = on_valid d (put_laid t) (λ _. put_result 1 0 d)

-- LOOKUP: the number, the kind and the part; it is lent the contents to read
unfoldable pub lookup_gives : Dict → ℕ → LookupAnswer
lookup_gives d i = on_valid d (λ tl al ts. abstract_lookup ts i) (λ _. lookup_answer 1 0 [])

-- the contents that puts leave, one after the other
unfoldable pub puts : Dict → List Term → Dict
puts d [] = d
puts d (t ∷ ts) = puts (put_gives d t).contents ts

-- a sequence of puts after a start leaves these contents
pub record Reachable (d : Dict) : Type 0 where
  pub table : List ℕ
  pub arena : List ℕ
  pub accepted : (start_gives table arena).number ≡ 0
  pub given : List Term
  pub leaves : puts (start_gives table arena).contents given ≡ d
