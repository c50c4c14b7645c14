-- Cases of start, put and lookup that compute, the expected values written by hand as REFERENCE 2 and 3 have them. Assumes nothing.
use mathlib.Core.Path.{◌≡◌, refl}
use mathlib.Core.List.{List, [], ◌∷◌}
use Prim.Native.Nat.{ℕ, ◌+◌, ◌*◌}
use lib.ListN.{take, drop, replicate}
use Rattle.common.specs.Text.{text}
use Rattle.dictionary_layout.specs.Terms.{Term, term, rdf, start_terms}
use Rattle.dictionary_layout.specs.Layout.{Dict, dict, heads, entries, span, layout, read, decode}
use Rattle.dictionary_layout.specs.Dictionary.{place_from, abstract_put, lookup_answer, abstract_lookup, start_refusal, grows, begins}
use Rattle.dictionary_layout.specs.Dictionary.{holdable, valid}
use Rattle.dictionary_layout.specs.Calls.{start_gives, put_gives, lookup_gives}

-- a start's refusals: tables of 63 and 189 numbers are ill-sized; 30 entries are too few, and so are 1,324 bytes

abbrev start_number : ℕ → ℕ → ℕ
start_number tl al = (start_gives (replicate tl 7) (replicate al 7)).number

pub start_refusals :
    (start_number 63 2000 ≡ 4) ×
    (start_number 189 2000 ≡ 4) ×
    (start_number 184 2000 ≡ 7) ×
    (start_number 188 1324 ≡ 7) ×
    (start_number 188 1325 ≡ 0)
unfolding start_gives start_refusal start_terms layout
start_refusals = (refl, refl, refl, refl, refl)

-- a table of 33 entries and an arena of 1,337 bytes, started: room for two terms more, of twelve bytes together
abbrev small : Dict
small = (start_gives (replicate (64 + 4 * 33) 7) (replicate 1337 7)).contents

pub start_counts : (small.terms ≡ 31) × (small.used ≡ 1325)
unfolding start_gives start_refusal start_terms layout
start_counts = (refl, refl)

-- entry 0 is 0 5 1 0; rdf type, id 1, follows it with its 47 bytes
pub start_entries : take 8 (drop 64 small.table) ≡ 0 ∷ 5 ∷ 1 ∷ 0 ∷ 5 ∷ 47 ∷ 1 ∷ 0 ∷ []
unfolding start_gives start_refusal start_terms layout entries span heads
start_entries = refl

-- puts one after the other: the answers' numbers and ids
pub record Answer : Type 0 where
  pub number : ℕ
  pub id : ℕ

abbrev answer : ℕ → ℕ → Answer
answer n i = record { number = n; id = i }

pub answers : Dict → List Term → List Answer
answers d [] = []
answers d (t ∷ ts) = let r = put_gives d t in answer r.number r.id ∷ answers r.contents ts

-- two new terms, the two of them again, `urn:_`, rdf type; then kind 4, kind 0, and a term for which there is no room
pub put_cases_computed :
    answers small
    (term 1 (text "urn:t1") ∷ term 3 (text "urn:t1") ∷ term 1 (text "urn:t1") ∷ term 3 (text "urn:t1") ∷ term 1 (text "urn:_")
    ∷ rdf "type" ∷ term 4 [] ∷ term 0 [] ∷ term 2 [] ∷ [])
    ≡ answer 0 31 ∷ answer 0 32 ∷ answer 0 31 ∷ answer 0 32 ∷ answer 0 0 ∷ answer 0 1 ∷ answer 10 0 ∷ answer 10 0 ∷ answer 7 0 ∷ []
unfolding answers start_gives start_refusal start_terms layout valid holdable grows begins decode read span heads entries abstract_put
    place_from put_gives
put_cases_computed = refl

pub lookup_cases :
    (lookup_gives small 0 ≡ lookup_answer 0 1 (text "urn:_")) ×
    (lookup_gives small 30 ≡ lookup_answer 0 1 (text "http://www.w3.org/2002/07/owl#Class")) ×
    (lookup_gives small 31 ≡ lookup_answer 12 0 []) ×
    (lookup_gives (dict small.table small.arena 30 1325) 0 ≡ lookup_answer 1 0 [])
unfolding start_gives start_refusal start_terms layout valid holdable grows begins decode read span heads entries abstract_put
    place_from lookup_gives abstract_lookup
lookup_cases = (refl, refl, refl, refl)
