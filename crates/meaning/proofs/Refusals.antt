-- Refusals 8 and 9 in the words of REFERENCE 1.5, over any set that is the closure of the load. Assumes nothing.
use mathlib.Core.Path.{◌≡◌, sym, ◌∙◌}
use mathlib.Core.List.{List}
use Prim.Native.Nat.{ℕ, suc, ◌≤◌}
use native.Mathlib.Omega.{arith}
use native.Mathlib.Decide.{dec_le}
use lib.ListN.{length}
use Rattle.common.specs.Triples.{Triple, key_triple, key_finding}
use Rattle.meaning.specs.Rules.{Graph}
use Rattle.meaning.specs.Containers.{Containers}
use Rattle.meaning.specs.Table.{graph_of}
use Rattle.meaning.specs.Closure.{Sub, IsClosure, closure, findings}
use Rattle.meaning.specs.Run.{store_full, findings_full, run, StoreFull, FindingsFull, Refuses}
use Rattle.meaning.specs.Batch.{Same}
use Rattle.common.proofs.Order.{triple_tells, finding_tells, ascending_distinct, distinct_length}
use Rattle.meaning.proofs.Checks.{findings_ascending, findings→, findings←, found_up}
use Rattle.meaning.proofs.LoadClosure.{Closure, complete→, computed→, closure_ascending, fits→complete, closure_is}
use Rattle.meaning.proofs.Run.{run_8, run_9, run_0, same_swap, same_sub}

-- C is the closure of Y, and X holds the same triples as Y: what is computed from X is in C, and is all of it where it fits
module _ (c : Containers) (cap : ℕ) (X Y : List Triple) (s : Same X Y) (C : Graph) (h : IsClosure c Y C) where
  pub computed_in : Sub (graph_of (closure c (suc cap) X)) C
  computed_in x y z i = (closure_is c Y).least C h.holds h.closed x y z (same_sub c X Y s x y z (computed→ c (suc cap) X x y z i))

  pub in_computed : length (closure c (suc cap) X) ≤ cap → Sub C (graph_of (closure c (suc cap) X))
  in_computed f x y z i =
      complete→ c (suc cap) X (fits→complete c cap X f) x y z
      (same_sub c Y X (same_swap s) x y z (h.least (Closure c Y) (closure_is c Y).holds (closure_is c Y).closed x y z i))

module _ (c : Containers) (cap fcap : ℕ) (load : List Triple) (C : Graph) (h : IsClosure c load C) where
  abbrev ts : List Triple
  ts = closure c (suc cap) load

  into : Sub (graph_of ts) C
  into = computed_in c cap load load (λ t i. i, λ t i. i) C h

  back : length ts ≤ cap → Sub C (graph_of ts)
  back = in_computed c cap load load (λ t i. i, λ t i. i) C h

  -- the conditions, as they are computed
  full→ : (length ts ≤ cap → ⊥) → StoreFull C cap
  full→ n = record {
    some = ts;
    distinct = ascending_distinct key_triple ts (closure_ascending c (suc cap) load);
    each = λ t i. into t.s t.p t.o i;
    more = omega arith;
  }

  full← : StoreFull C cap → length ts ≤ cap → ⊥
  full← m f =
      omega (
        arith,
        m.more,
        distinct_length key_triple triple_tells m.some ts m.distinct (closure_ascending c (suc cap) load)
            (λ t i. back f t.s t.p t.o (m.each t i)),
      )

  many→ : (length (findings ts) ≤ fcap → ⊥) → FindingsFull C fcap
  many→ n = record {
    some = findings ts;
    distinct = ascending_distinct key_finding (findings ts) (findings_ascending ts);
    each = λ x i. found_up into (findings→ ts i);
    more = omega arith;
  }

  many← : length ts ≤ cap → FindingsFull C fcap → length (findings ts) ≤ fcap → ⊥
  many← f m g =
      omega (
        arith,
        m.more,
        distinct_length key_finding finding_tells m.some (findings ts) m.distinct (findings_ascending ts)
            (λ x i. findings← ts (found_up (back f) (m.each x i))),
      )

  -- one of the three, by what fits
  fits : run c cap fcap load ≡ findings_full → length ts ≤ cap
  fits e = go (dec_le (length ts) cap)
    where
      go : Dec (length ts ≤ cap) → length ts ≤ cap
      go (yes f) = f
      go (no n) = let q = sym (run_8 c cap fcap load n) ∙ e in let z : ◌≡◌ {A = ℕ} 0 1 = cc in absurd (omega arith)

  refused_8 : run c cap fcap load ≡ store_full → length ts ≤ cap → ⊥
  refused_8 e f = go (dec_le (length (findings ts)) fcap)
    where
      go : Dec (length (findings ts) ≤ fcap) → ⊥
      go (yes g) = let q = sym (run_0 c cap fcap load f g) ∙ e in let z : ◌≡◌ {A = ℕ} 0 1 = cc in omega arith
      go (no n) = let q = sym (run_9 c cap fcap load f n) ∙ e in let z : ◌≡◌ {A = ℕ} 0 1 = cc in omega arith

  refused_9 : run c cap fcap load ≡ findings_full → length (findings ts) ≤ fcap → ⊥
  refused_9 e g = let q = sym (run_0 c cap fcap load (fits e) g) ∙ e in let z : ◌≡◌ {A = ℕ} 0 1 = cc in omega arith

  -- THE REFUSALS: 8 exactly if the closure has more triples than the store, then 9 exactly if it has more findings than records
  pub refuses : Refuses C cap fcap (run c cap fcap load)
  refuses = record {
    is_8 = λ e. full→ (refused_8 e);
    then_8 = λ m. run_8 c cap fcap load (full← m);
    is_9 = λ e. (λ m. full← m (fits e), many→ (refused_9 e));
    then_9 = λ n m. let f = fitting n in run_9 c cap fcap load f (many← f m);
  }
    where
      fitting : (StoreFull C cap → ⊥) → length ts ≤ cap
      fitting n = go (dec_le (length ts) cap)
        where
          go : Dec (length ts ≤ cap) → length ts ≤ cap
          go (yes f) = f
          go (no m) = absurd (n (full→ m))
