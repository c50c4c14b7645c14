-- What a lookup gives where the contents are valid, as the code finds it. Assumes nothing.
use mathlib.Core.Path.{◌≡◌, sym, ◌∙◌, ap}
use mathlib.Core.List.{List, []}
use Prim.Native.Nat.{ℕ, ◌+◌, ◌-◌, ◌≤◌, ◌<◌}
use native.Mathlib.Omega.{arith}
use lib.Dec.{T, ltb, ltb→lt, lt→ltb}
use lib.ListN.{length, take, drop}
use Rattle.dictionary_layout.specs.Terms.{Term}
use Rattle.dictionary_layout.specs.Layout.{Dict, decode}
use Rattle.dictionary_layout.specs.Dictionary.{LookupAnswer, lookup_answer, term_of, abstract_lookup, valid}
use Rattle.dictionary_layout.specs.Calls.{lookup_gives}
use Rattle.dictionary_entries.specs.Entries.{start_of, length_of, kind_of}
use Rattle.dictionary_index.specs.declared.values.Located.{Located}
use Rattle.dictionary_index.specs.Values.{located, begin_at, part_begins, further, Locates, LooksUp}
use Rattle.dictionary_layout.proofs.Choice.{if_yes, if_no}
use Rattle.dictionary_layout.proofs.Reachable.{lookup_valid, lookup_broken}
use Rattle.dictionary_entries.proofs.Reading.{count, entry_names, entry_fits}

module _ (ts : List Term) (i : ℕ) where
  pub abstract_lookup_12 : length ts ≤ i → abstract_lookup ts i ≡ lookup_answer 12 0 []
  unfolding abstract_lookup
  abstract_lookup_12 h =
      if_no (ltb i (length ts)) (λ _. lookup_answer 0 (term_of ts i).kind (term_of ts i).bytes) (λ _. lookup_answer 12 0 [])
      (λ t. let q = ltb→lt i (length ts) t in omega arith)

  pub abstract_lookup_known : i < length ts → abstract_lookup ts i ≡ lookup_answer 0 (term_of ts i).kind (term_of ts i).bytes
  unfolding abstract_lookup
  abstract_lookup_known h =
      if_yes (ltb i (length ts)) (λ _. lookup_answer 0 (term_of ts i).kind (term_of ts i).bytes) (λ _. lookup_answer 12 0 [])
      (lt→ltb i (length ts) h)

-- where the part begins, by the number of the answer
by_number : (d : Dict) (i : ℕ) {a : LookupAnswer} → a ≡ lookup_gives d i → begin_at (start_of d.table i) a ≡ part_begins d i
unfolding part_begins
by_number d i e = ap (begin_at (start_of d.table i)) e

module _ (d : Dict) (v : T (valid d)) (i : ℕ) where
  -- no such id
  pub look_12 : d.terms ≤ i → Locates (record { number = 12; kind = 0; start = 0; end = 0 }) d i
  look_12 h =
      let e = sym (lookup_valid d i v ∙ abstract_lookup_12 (decode d) i (omega (arith, count d v))) in
      record { answers = e; begins = by_number d i e; ordered = omega arith; within = omega arith }

  -- the part that the entry names
  pub look_known : i < d.terms → Locates (record {
    number = 0;
    kind = kind_of d.table i;
    start = start_of d.table i;
    end = start_of d.table i + length_of
        d.table i;
  }) d i
  look_known h =
      let q : start_of d.table i + length_of d.table i - start_of d.table i ≡ length_of d.table i = omega arith in
      let e =
      ap (λ (n : ℕ). lookup_answer 0 (kind_of d.table i) (take n (drop (start_of d.table i) d.arena))) q
      ∙ (ap (λ (t : Term). lookup_answer 0 t.kind t.bytes) (entry_names d v i h)
      ∙ sym (lookup_valid d i v ∙ abstract_lookup_known (decode d) i (omega (arith, count d v)))) in
      record { answers = e; begins = by_number d i e; ordered = omega arith; within = (entry_fits d v i h).part }

-- a broken dictionary
pub look_1 : (d : Dict) (i : ℕ) → (T (valid d) → ⊥) → Locates (record { number = 1; kind = 0; start = 0; end = 0 }) d i
look_1 d i n =
    let e = sym (lookup_broken d i n) in
    record { answers = e; begins = by_number d i e; ordered = omega arith; within = omega arith }

-- the part that was cut out where it was located
pub looked_up : {place : Located} {d : Dict} {i : ℕ} {answer : LookupAnswer} {p q : ℕ × ℕ}
    → Locates place d i → answer ≡ located place d.arena → q ≡ further p place.start → LooksUp answer p q d i
looked_up {p = p} l e f = record { answers = e ∙ l.answers; lies = f ∙ ap (further p) l.begins }
