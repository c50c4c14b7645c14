-- What a lookup gives as a place in the arena. Assumes nothing.
use mathlib.Core.Path.{◌≡◌, refl, sym, ap, subst, ◌∙◌}
use mathlib.Core.Logic.{⊎_elim}
use mathlib.Core.List.{List, []}
use Prim.Native.Nat.{ℕ, ◌+◌, ◌-◌, ◌≤◌, ◌<◌}
use native.Mathlib.Omega.{arith}
use lib.Dec.{T}
use lib.ListN.{length, take, drop, length-take, length-drop}
use Rattle.dictionary_layout.specs.Layout.{Dict}
use Rattle.dictionary_layout.specs.Dictionary.{if_zero, LookupAnswer, lookup_answer, valid}
use Rattle.dictionary_layout.specs.Calls.{lookup_gives}
use Rattle.dictionary_entries.specs.Entries.{start_of, length_of, kind_of}
use Rattle.dictionary_index.proofs.Looking.{look_12, look_known, look_1}
use Rattle.edge_c.specs.Calls.{read_dict, PlaceAnswer, place_answer, place_at, place_gives, Places}
use Rattle.edge_c.proofs.Forwarding.{ReadTable}
use Rattle.edge_c.proofs.Tables.{with_table, dict_alike}

-- from the answer of a lookup to its place
by_answer : (d : Dict) (i : ℕ) (r : LookupAnswer) (p : PlaceAnswer) → r ≡ lookup_gives d i
    → p ≡ place_at (start_of d.table i) r → take p.len (drop p.begin d.arena) ≡ r.part → Places d i p
unfolding place_gives
by_answer d i r p e q z = record { answers = q ∙ ap (place_at (start_of d.table i)) e; lies = z ∙ ap (λ (x : LookupAnswer). x.part) e }

-- a refusal
none : (d : Dict) (i m : ℕ) → lookup_answer m 0 [] ≡ lookup_gives d i → if_zero m (λ _. start_of d.table i) (λ _. 0) ≡ 0
    → Places d i (place_answer m 0 0 0)
none d i m e z = by_answer d i (lookup_answer m 0 []) (place_answer m 0 0 0) e (ap (λ (x : ℕ). place_answer m 0 x 0) (sym z)) refl

pub place_broken : (d : Dict) (i : ℕ) → (T (valid d) → ⊥) → Places d i (place_answer 1 0 0 0)
place_broken d i z = none d i 1 (look_1 d i z).answers refl

module _ (d : Dict) (v : T (valid d)) (i : ℕ) where
  pub place_12 : d.terms ≤ i → Places d i (place_answer 12 0 0 0)
  place_12 h = none d i 12 (look_12 d v i h).answers refl

  pub place_known : i < d.terms → Places d i (place_answer 0 (kind_of d.table i) (start_of d.table i) (length_of d.table i))
  place_known h =
      let s = start_of d.table i in
      let n = length_of d.table i in
      let part = take (s + n - s) (drop s d.arena) in
      let k : s + n - s ≡ n = omega arith in
      let w = (look_known d v i h).within in
      let long : length part ≡ n = simp (length-take, length-drop) (omega arith) in
      by_answer d i (lookup_answer 0 (kind_of d.table i) part) (place_answer 0 (kind_of d.table i) s n)
      (look_known d v i h).answers (ap (λ (x : ℕ). place_answer 0 (kind_of d.table i) s x) (sym long))
      (ap (λ (x : ℕ). take x (drop s d.arena)) (sym k))

-- the dictionary that is passed on, and the buffers' own
pub place_alike : (d : Dict) {t : List ℕ} → ReadTable d.table t → (i : ℕ) {p : PlaceAnswer} → Places (with_table t d) i p
    → Places (read_dict d) i p
place_alike d {t} h i {p} q = ⊎_elim (λ e. subst (λ (x : Dict). Places x i p) e q) both_broken (dict_alike d h)
  where
    both_broken : (T (valid (with_table t d)) → ⊥) × (T (valid (read_dict d)) → ⊥) → Places (read_dict d) i p
    both_broken z =
        let same = (place_broken (with_table t d) i z.0).answers ∙ sym q.answers in
        subst (λ (x : PlaceAnswer). Places (read_dict d) i x) same (place_broken (read_dict d) i z.1)
