-- The test for a container property: its prefix, its kind, and the term of an id. Assumes nothing.
use mathlib.Core.Path.{◌≡◌, refl, sym, ◌∙◌, ap}
use mathlib.Core.Logic.{◌≢◌}
use mathlib.Core.Bool.{Bool, true, false, ◌&&◌}
use mathlib.Core.List.{List, [], ◌∷◌}
use Prim.Native.Nat.{ℕ, ◌-◌, ◌≤◌, ◌<◌}
use native.Mathlib.Omega.{arith}
use native.Mathlib.Decide.{dec_lt, ℕ_discrete}
use lib.Dec.{T, eqb, eqb→eq}
use lib.ListN.{length, take, drop, get_or-eq_default}
use Rattle.dictionary_index.specs.declared.values.Located.{Located}
use Rattle.common.specs.Triples.{if}
use Rattle.dictionary_containers.specs.Containers.{prefix, starts_with, is_number, is_container_term}
use Rattle.common.proofs.Lists.{and→, eq→eqb}
use Rattle.dictionary_layout.specs.Terms.{Term, no_term}
use Rattle.dictionary_layout.specs.Layout.{Dict, decode}
use Rattle.dictionary_layout.specs.Dictionary.{LookupAnswer, term_of, abstract_lookup, valid}
use Rattle.dictionary_index.specs.Values.{Locates}
use Rattle.dictionary_layout.proofs.Choice.{is_false, true→T, false→not_T}
use borrow.Author.Tests.{eq-eqb, ne_eqb}
use Rattle.std.specs.Cmp.Lexicographic.{pointwise}
use Rattle.dictionary_layout.proofs.Reachable.{lookup_valid}
use Rattle.dictionary_index.proofs.Looking.{abstract_lookup_12, abstract_lookup_known}

-- a prefix is compared with as many bytes
pub prefix_row : (p b : List ℕ) → pointwise eqb (take (length p) b) p ≡ starts_with p b
unfolding starts_with
prefix_row [] b = refl
prefix_row (a ∷ p) [] = refl
prefix_row (a ∷ p) (c ∷ b) = go (ℕ_discrete a c) (prefix_row p b)
  where
    go : Dec (a ≡ c) → pointwise eqb (take (length p) b) p ≡ starts_with p b
        → (eqb c a && pointwise eqb (take (length p) b) p) ≡ if (eqb a c) (λ _. starts_with p b) (λ _. false)
    go (yes e) f = rw (eq-eqb c a (sym e), eq-eqb a c e) f
    go (no n) f = rw (ne_eqb c a (λ e. n (sym e)), ne_eqb a c n) refl

-- THE WHOLE TEST
module _ (kind : ℕ) (bytes : List ℕ) where
  pub container_kind : kind ≢ 1 → false ≡ is_container_term kind bytes
  unfolding is_container_term
  container_kind n =
      is_false (is_container_term kind bytes) (λ t. n
      (eqb→eq kind 1 (and→ (eqb kind 1) (starts_with prefix bytes && is_number (drop (length prefix) bytes)) t).0))

  pub container_other : false ≡ starts_with prefix bytes → false ≡ is_container_term kind bytes
  unfolding is_container_term
  container_other e =
      is_false (is_container_term kind bytes) (λ t. false→not_T (starts_with prefix bytes) e
      (and→ (starts_with prefix bytes) (is_number (drop (length prefix) bytes))
      (and→ (eqb kind 1) (starts_with prefix bytes && is_number (drop (length prefix) bytes)) t).1).0)

  pub container_number : kind ≡ 1 → true ≡ starts_with prefix bytes → is_number (drop 44 bytes) ≡ is_container_term kind bytes
  unfolding is_container_term
  container_number e f =
      go (eqb kind 1) (starts_with prefix bytes) (is_number (drop 44 bytes)) (eq→eqb kind 1 e) (true→T (starts_with prefix bytes) f)
    where
      go : (a b c : Bool) → T a → T b → c ≡ (a && (b && c))
      go true true true x y = refl
      go true true false x y = refl
      go true false c x y = absurd y
      go false b c x y = absurd x

-- THE TERM OF AN ID, by where it lies
pub container_located : (d : Dict) → T (valid d) → (i : ℕ) (r : Located) → Locates r d i
    → is_container_term r.kind (take (r.end - r.start) (drop r.start d.arena))
    ≡ is_container_term (term_of (decode d) i).kind (term_of (decode d) i).bytes
unfolding is_container_term
container_located d v i r l =
    ap (λ (a : LookupAnswer). is_container_term a.kind a.part) (l.answers ∙ lookup_valid d i v)
    ∙ go (native.Mathlib.Decide.dec_lt i (length (decode d)))
  where
    go : Dec (i < length (decode d)) → is_container_term (abstract_lookup (decode d) i).kind (abstract_lookup (decode d) i).part
        ≡ is_container_term (term_of (decode d) i).kind (term_of (decode d) i).bytes
    go (yes h) = ap (λ (a : LookupAnswer). is_container_term a.kind a.part) (abstract_lookup_known (decode d) i h)
    go (no n) =
        let h : length (decode d) ≤ i = omega arith in ap (λ (a : LookupAnswer). is_container_term a.kind a.part)
        (abstract_lookup_12 (decode d) i h) ∙ ap (λ (t : Term). is_container_term t.kind t.bytes)
        (sym (get_or-eq_default (decode d) no_term h))
