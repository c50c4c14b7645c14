-- Comparing an entry with a term, and following a chain to a term's id. Assumes nothing.
use mathlib.Core.Path.{◌≡◌, refl, sym, ◌∙◌, ap, subst}
use mathlib.Core.Logic.{◌≢◌}
use mathlib.Core.Bool.{Bool, true, false, ◌&&◌}
use mathlib.Core.Option.{some, none}
use mathlib.Core.List.{List}
use Prim.Native.Nat.{ℕ, ◌+◌, ◌-◌, ◌<◌}
use native.Mathlib.Omega.{arith}
use Rattle.std.specs.Cmp.Lexicographic.{pointwise}
use lib.Dec.{T, eqb, eqb→eq}
use lib.ListN.{length, get_or, take, drop}
use Rattle.common.proofs.Lists.{eq→eqb}
use Rattle.dictionary_layout.specs.Terms.{Term, term}
use Rattle.dictionary_layout.specs.Layout.{Dict, chain, decode}
use Rattle.dictionary_layout.specs.Dictionary.{same_row, same_term, place_of, term_of, valid}
use Rattle.dictionary_entries.specs.Entries.{start_of, length_of, kind_of, next_of, entry_term, EntryFits, Chained}
use Rattle.dictionary_layout.proofs.Choice.{true→T, false→not_T}
use Rattle.dictionary_layout.proofs.Equality.{rows_equal, same_term_refl, same_term→}
use Rattle.dictionary_layout.proofs.Chains.{prev_less}
use Rattle.dictionary_entries.proofs.Reading.{held, count, lengths, head, entry, entry_names, entry_fits}
use Rattle.dictionary_layout.proofs.Walking.{holds_fresh, index_of, Walked, walk_start, walk_step, walk_end}

and-true : (a b : Bool) → T a → b ≡ (a && b)
and-true true true h = refl
and-true true false h = refl
and-true false b h = absurd h

and-false : (a b : Bool) → (T a → ⊥) → false ≡ (a && b)
and-false true b n = absurd (n tt)
and-false false true n = refl
and-false false false n = refl

-- AN ENTRY AND A TERM
module _ (table arena : List ℕ) (id kind : ℕ) (bytes : List ℕ) where
  -- of another kind
  pub other_kind : kind_of table id ≢ kind → false ≡ same_term (entry_term table arena id) (term kind bytes)
  other_kind n =
      and-false (eqb (kind_of table id) kind) (same_row (entry_term table arena id).bytes bytes)
      (λ t. n (eqb→eq (kind_of table id) kind t))

  -- of the same kind: the part decides
  pub same_kind : (r : Bool) → kind_of table id ≡ kind
      → r ≡ pointwise eqb (take (start_of table id + length_of table id - start_of table id) (drop (start_of table id) arena)) bytes
      → r ≡ same_term (entry_term table arena id) (term kind bytes)
  same_kind r e h =
      let q : start_of table id + length_of table id - start_of table id ≡ length_of table id = omega arith in
      h ∙ (rows_equal (take (start_of table id + length_of table id - start_of table id) (drop (start_of table id) arena)) bytes
      ∙ (ap (λ (n : ℕ). same_row (take n (drop (start_of table id) arena)) bytes) q
      ∙ and-true (eqb (kind_of table id) kind) (same_row (entry_term table arena id).bytes bytes) (eq→eqb (kind_of table id) kind e)))

-- the test's answer as a fact of terms
pub same_term_found : (t u : Term) → true ≡ same_term t u → t ≡ u
same_term_found t u e = same_term→ t u (true→T (same_term t u) e)

pub other_term_found : (t u : Term) → false ≡ same_term t u → t ≢ u
other_term_found t u e q = false→not_T (same_term t u) e (subst (λ (x : Term). T (same_term t x)) q (same_term_refl t))

-- A TERM'S CHAIN in valid contents
module _ {d : Dict} {t : Term} {c : ℕ} (h : Chained d t c) where
  v : T (valid d)
  v = h.unbroken

  pub head_within : c < length d.table
  head_within = omega (arith, h.chained, (lengths d v).entries)

  pub find_start : Walked (decode d) t (get_or d.table c 0)
  find_start =
      let n = count d v in
      let l = lengths d v in
      subst (Walked (decode d) t) (sym (ap (λ (x : ℕ). get_or d.table x 0) h.chained ∙ head d v (chain t) (omega arith)))
      (walk_start (decode d) t (omega (arith, l.some)))

  -- the ids that are met, and id 0, are terms', so that their entries fit
  pub walked_below : {j : ℕ} → Walked (decode d) t j → j < d.terms
  walked_below w = omega (arith, count d v, w.below)

  pub walked_fits : {j : ℕ} → Walked (decode d) t j → EntryFits d.table d.arena j
  walked_fits {j} w = entry_fits d v j (walked_below w)

  pub some_term : 0 < d.terms
  some_term = omega (arith, (lengths d v).some)

  pub first_fits : EntryFits d.table d.arena 0
  first_fits = entry_fits d v 0 some_term

  -- another term is there: the next id, which is less
  pub find_next : {j : ℕ} {r : Bool} → Walked (decode d) t j → j ≢ 0 → r ≡ same_term (entry_term d.table d.arena j) t → r ≡ false
      → Walked (decode d) t (next_of d.table j) × (next_of d.table j < j)
  find_next {j} w p e f =
      let n = other_term_found (entry_term d.table d.arena j) t (sym f ∙ e) in
      let l = walked_below w in
      let next = (entry d v j l).next in
      let q : 0 < j = omega arith in (
        subst (Walked (decode d) t) (sym next) (walk_step (decode d) t j w q (λ m. n (entry_names d v j l ∙ m))),
        omega (arith, next, prev_less (decode d) (chain (term_of (decode d) j)) j q),
      )

  -- the entry that names the term is at its place
  pub find_hit : (j : ℕ) {r : Bool} → j < d.terms → r ≡ same_term (entry_term d.table d.arena j) t → r ≡ true
      → some j ≡ place_of t (decode d)
  find_hit j b e f =
      let is = same_term_found (entry_term d.table d.arena j) t (sym f ∙ e) in
      let fresh = holds_fresh (length d.table) (length d.arena) (decode d) (held d v) in
      sym (ap (λ (x : Term). place_of x (decode d)) (sym (sym (entry_names d v j b) ∙ is))
      ∙ index_of (decode d) j fresh (omega (arith, count d v)))

  -- at the chain's end only id 0 is left
  pub find_miss : {j : ℕ} {r : Bool} → Walked (decode d) t j → j ≡ 0 → r ≡ same_term (entry_term d.table d.arena 0) t → r ≡ false
      → none ≡ place_of t (decode d)
  find_miss w z e f =
      let n = other_term_found (entry_term d.table d.arena 0) t (sym f ∙ e) in
      sym (walk_end (decode d) t (subst (Walked (decode d) t) z w) (λ q. n (entry_names d v 0 some_term ∙ q)))
