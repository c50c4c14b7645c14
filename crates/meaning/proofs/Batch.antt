-- Demand 3's batching at the level of closures: a load's answer may stand for the load. Assumes nothing.
use mathlib.Core.Path.{◌≡◌, refl, sym, subst}
use mathlib.Core.Bool.{Bool, true, false}
use mathlib.Core.Logic.{◌⊎◌, inl, inr}
use mathlib.Core.List.{List, [], ◌∷◌, ◌++◌}
use Prim.Native.Nat.{ℕ}
use lib.Dec.{T}
use Rattle.common.specs.Triples.{Triple, triple, In, here, if, concat_map, key_triple, Ascending, no_zero, without_zero}
use Rattle.meaning.specs.Containers.{Containers}
use Rattle.meaning.specs.Start.{axioms_of, axioms, base, start}
use Rattle.meaning.specs.Table.{graph_of}
use Rattle.meaning.specs.Closure.{Sub, closure}
use Rattle.meaning.specs.Batch.{IsList}
use Rattle.common.proofs.Lists.{in_nil, in_cons, in_left, in_right, in_cases, in_concat→, in_concat←, in_if→, in_if←}
use Rattle.meaning.proofs.Start.{start_load, start_base, start_axiom, start→}
use Rattle.meaning.proofs.LoadClosure.{Closure, closure_least, closure_in, Complete, complete→}

-- N is A's answer, A has no zero id (refusal 5), and demand 3's conditions hold.
pub record Batch (c : Containers) (A B N : List Triple) : Type 0 where
  pub clean : (t : Triple) → In t A → T (no_zero t)
  pub answer→ : (t : Triple) → In t N → Closure c A t.s t.p t.o
  pub answer← : (t : Triple) → Closure c A t.s t.p t.o → T (no_zero t) → In t N
  pub lists_B : (t : Triple) → In t B → IsList t → In t A
  pub lists_N : (t : Triple) → In t N → IsList t → In t A
  pub containers : (t : Triple) → In t N → T (c.is t.p) → (u : Triple) × In u (A ++ B) × (u.p ≡ t.p)

module _ (c : Containers) (A B N : List Triple) (h : Batch c A B N) where
  AInN : (t : Triple) → In t A → In t N
  AInN t i = h.answer← t ((closure_least c A).holds t.s t.p t.o (start_load c A i)) (h.clean t i)

  -- the three loads have the same list triples: A's
  ABLists : (t : Triple) → In t (A ++ B) → IsList t → In t A
  ABLists t i l = go (in_cases A i)
    where
      go : In t A ⊎ In t B → In t A
      go (inl j) = j
      go (inr j) = h.lists_B t j l

  NBLists : (t : Triple) → In t (N ++ B) → IsList t → In t A
  NBLists t i l = go (in_cases N i)
    where
      go : In t N ⊎ In t B → In t A
      go (inl j) = h.lists_N t j l
      go (inr j) = h.lists_B t j l

  ABInNB : (t : Triple) → In t (A ++ B) → In t (N ++ B)
  ABInNB t i = go (in_cases A i)
    where
      go : In t A ⊎ In t B → In t (N ++ B)
      go (inl j) = in_left B (AInN t j)
      go (inr j) = in_right N j

  -- a larger load, with the same lists, starts from no less
  start_in : Sub (graph_of (start c (A ++ B))) (Closure c (N ++ B))
  start_in x y z i = (closure_least c (N ++ B)).holds x y z (go (start→ c (A ++ B) i))
    where
      go : In (triple x y z) (A ++ B) ⊎ (((u : Triple) × In u (A ++ B) × In (triple x y z) (axioms c u.p)) ⊎ In
          (triple x y z) base) → In (triple x y z) (start c (N ++ B))
      go (inl j) = start_load c (N ++ B) (ABInNB (triple x y z) j)
      go (inr (inl j)) = start_axiom c (N ++ B) (ABInNB j.0 j.1) j.2
      go (inr (inr j)) = start_base c (N ++ B) j

  AInAB : Sub (Closure c A) (Closure c (A ++ B))
  AInAB =
      closure_in c A (A ++ B) (λ t i l. in_left B i) ABLists (λ x y z i. (closure_least c (A ++ B)).holds x y z (go x y z (start→ c A i)))
    where
      go : (x y z : ℕ) → In (triple x y z) A ⊎ (((u : Triple) × In u A × In (triple x y z) (axioms c u.p)) ⊎ In
          (triple x y z) base) → In (triple x y z) (start c (A ++ B))
      go x y z (inl j) = start_load c (A ++ B) (in_left B j)
      go x y z (inr (inl j)) = start_axiom c (A ++ B) (in_left B j.1) j.2
      go x y z (inr (inr j)) = start_base c (A ++ B) j

  -- a container property's axioms, whichever triple uses it
  used : (t u : Triple) → In u (N ++ B) → In t (axioms c u.p) → In t (start c (A ++ B))
  used t u i j = go (in_cases N i)
    where
      tell : T (c.is u.p)
      tell = (in_if→ (c.is u.p) (λ _. axioms_of c u.p) j).0

      go : In u N ⊎ In u B → In t (start c (A ++ B))
      go (inl k) = let (v, m, e) = h.containers u k tell in start_axiom c (A ++ B) m (subst (λ p. In t (axioms c p)) (sym e) j)
      go (inr k) = start_axiom c (A ++ B) (in_right A k) j

  back_in : Sub (graph_of (start c (N ++ B))) (Closure c (A ++ B))
  back_in x y z i = go (start→ c (N ++ B) i)
    where
      to_set : In (triple x y z) (start c (A ++ B)) → Closure c (A ++ B) x y z
      to_set j = (closure_least c (A ++ B)).holds x y z j

      part : In (triple x y z) N ⊎ In (triple x y z) B → Closure c (A ++ B) x y z
      part (inl j) = AInAB x y z (h.answer→ (triple x y z) j)
      part (inr j) = to_set (start_load c (A ++ B) (in_right A j))

      go : In (triple x y z) (N ++ B) ⊎ (((u : Triple) × In u (N ++ B) × In (triple x y z) (axioms c u.p)) ⊎ In
          (triple x y z) base) → Closure c (A ++ B) x y z
      go (inl j) = part (in_cases N j)
      go (inr (inl j)) = to_set (used (triple x y z) j.0 j.1 j.2)
      go (inr (inr j)) = to_set (start_base c (A ++ B) j)

  -- DEMAND 3, the closures as sets
  pub batch→ : Sub (Closure c (N ++ B)) (Closure c (A ++ B))
  batch→ = closure_in c (N ++ B) (A ++ B) (λ t i l. in_left B (NBLists t i l)) (λ t i l. ABInNB t i) back_in

  pub batch← : Sub (Closure c (A ++ B)) (Closure c (N ++ B))
  batch← = closure_in c (A ++ B) (N ++ B) (λ t i l. ABInNB t i) (λ t i l. in_left B (NBLists t i l)) start_in

-- the answer that a complete closure gives is the N of a batch
pub in_without_zero→ : (ts : List Triple) (t : Triple) → In t (without_zero ts) → In t ts × T (no_zero t)
unfolding without_zero
in_without_zero→ ts t h =
    let (u, i, j) = in_concat→ ts (λ t. if (no_zero t) (λ _. t ∷ []) (λ _. [])) h in
    let (e, k) = in_if→ (no_zero u) (λ _. u ∷ []) j in
    (subst (λ w. In w ts) (sym (only u (in_cons k))) i, subst (λ w. T (no_zero w)) (sym (only u (in_cons k))) e)
  where
    only : (u : Triple) → (t ≡ u) ⊎ In t [] → t ≡ u
    only u (inl e) = e
    only u (inr i) = absurd (in_nil i)

pub in_without_zero← : (ts : List Triple) (t : Triple) → In t ts → T (no_zero t) → In t (without_zero ts)
unfolding without_zero
in_without_zero← ts t i e = in_concat← (λ t. if (no_zero t) (λ _. t ∷ []) (λ _. [])) i (in_if← (no_zero t) (λ _. t ∷ []) e (here refl))

-- taking triples out leaves the rest ascending
pub without_zero_ascending : (ts : List Triple) → Ascending key_triple ts → Ascending key_triple (without_zero ts)
unfolding without_zero
without_zero_ascending [] a = tt
without_zero_ascending (t ∷ ts) a = go (no_zero t) (without_zero_ascending ts a.1)
  where
    go : (b : Bool) → Ascending key_triple (concat_map ts (λ t. if (no_zero t) (λ _. t ∷ []) (λ _. [])))
        → Ascending key_triple ((if b (λ _. t ∷ []) (λ _. [])) ++ concat_map ts (λ t. if (no_zero t) (λ _. t ∷ []) (λ _. [])))
    go true h = (λ y i. a.0 y (in_without_zero→ ts y i).0, h)
    go false h = h

pub answer_batch : (c : Containers) (n : ℕ) (A B : List Triple) → Complete c n A
    → ((t : Triple) → In t A → T (no_zero t))
    → ((t : Triple) → In t B → IsList t → In t A)
    → ((t : Triple) → In t (without_zero (closure c n A)) → IsList t → In t A)
    → ((t : Triple) → In t (without_zero (closure c n A)) → T (c.is t.p) → (u : Triple) × In u (A ++ B) × (u.p ≡ t.p))
    → Batch c A B (without_zero (closure c n A))
unfolding closure
answer_batch c n A B s nz lb ln cp = record {
  clean = nz;
  answer→ = λ t i. (n, (in_without_zero→ (closure c n A) t i).0);
  answer← = λ t i e. in_without_zero← (closure c n A) t (complete→ c n A s t.s t.p t.o i) e;
  lists_B = lb;
  lists_N = ln;
  containers = cp;
}
