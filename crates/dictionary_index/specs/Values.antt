-- The answers that values of the types of src/ stand for. Assumes nothing.
use Rattle.std.specs.Prelude.{◌≡◌, Result, Ok, Err, List, ℕ, ◌+◌, ◌-◌, ◌≤◌, length, take, drop}
use Rattle.common.specs.declared.Id.{Id}
use Rattle.common.specs.declared.refusal.Refusal.{Refusal}
use Rattle.common.specs.Refusals.{number_of}
use Rattle.dictionary_layout.specs.declared.values.Counters.{Counters}
use Rattle.dictionary_index.specs.declared.values.Located.{Located}
use Rattle.dictionary_index.specs.declared.values.PutNext.{PutNext}
use Rattle.dictionary_layout.specs.Layout.{Dict, dict}
use Rattle.dictionary_layout.specs.Dictionary.{if_zero, LookupAnswer, lookup_answer}
use Rattle.dictionary_layout.specs.Calls.{StartResult, start_result, PutResult, put_result, lookup_gives}
use Rattle.dictionary_entries.specs.Entries.{start_of}
use Rattle.dictionary_layout.specs.Values.{contents}

-- the answer of a start, with the table and the arena as they are left; a refusal leaves no counters
abbrev pub start_left : Result Counters Refusal → List ℕ → List ℕ → StartResult
start_left (Ok c) t a = start_result 0 (contents t a c)
start_left (Err e) t a = start_result (number_of e) (dict t a 0 0)

-- the answer of a put with lent counters, with table, arena and counters as they are left
abbrev pub put_lent : Result Id Refusal → List ℕ → List ℕ → Counters → PutResult
put_lent (Ok i) t a c = put_result 0 i.0 (contents t a c)
put_lent (Err e) t a c = put_result (number_of e) 0 (contents t a c)

-- the counters after a put by value that was given the counters c: a refusal leaves them as they were
abbrev pub counters_left : Counters → Result PutNext Refusal → Counters
counters_left c (Ok r) = r.counters
counters_left c (Err e) = c

-- the answer of a put by value that was given the counters c, with the table and the arena as they are left
abbrev pub put_left : Counters → Result PutNext Refusal → List ℕ → List ℕ → PutResult
put_left c (Ok r) t a = put_result 0 r.id.0 (contents t a r.counters)
put_left c (Err e) t a = put_result (number_of e) 0 (contents t a c)

-- the answer of a lookup whose part lies at a place of the arena
abbrev pub located : Located → List ℕ → LookupAnswer
located r arena = lookup_answer r.number r.kind (take (r.end - r.start) (drop r.start arena))

-- where the part of an answer begins, the term's bytes being at n: there, and the empty part of a refusal at 0
abbrev pub begin_at : ℕ → LookupAnswer → ℕ
begin_at n r = if_zero r.number (λ _. n) (λ _. 0)

-- where the part of a lookup begins in the arena: at the start that the id's entry names
unfoldable pub part_begins : Dict → ℕ → ℕ
part_begins d i = begin_at (start_of d.table i) (lookup_gives d i)

-- the pointer, a block and an offset, of what lies n bytes after p
abbrev pub further : ℕ × ℕ → ℕ → ℕ × ℕ
further p n = (p.0, n + p.1)

-- r says where the part of a lookup of the id i lies
pub record Locates (r : Located) (d : Dict) (i : ℕ) : Type 0 where
  pub answers : located r d.arena ≡ lookup_gives d i
  pub begins : r.start ≡ part_begins d i
  pub ordered : r.start ≤ r.end
  pub within : r.end ≤ length d.arena

-- the answer of a lookup, and that its part, at the pointer q, is the one of the arena, at the pointer p, that holds the term's bytes
pub record LooksUp (answer : LookupAnswer) (p q : ℕ × ℕ) (d : Dict) (i : ℕ) : Type 0 where
  pub answers : answer ≡ lookup_gives d i
  pub lies : q ≡ further p (part_begins d i)
