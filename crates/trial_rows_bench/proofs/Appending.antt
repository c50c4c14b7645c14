-- Appending the triples of a load one by one, also where the store is full. Assumes nothing.
use mathlib.Core.Path.{◌≡◌, refl, sym, ap, subst, ◌∙◌}
use mathlib.Core.Logic.{◌⊎◌, inl, inr, ⊎_elim}
use mathlib.Core.Bool.{Bool, true, false}
use mathlib.Core.List.{List}
use Prim.Native.Nat.{ℕ, ◌+◌, ◌<◌}
use native.Mathlib.Omega.{arith}
use lib.ListN.{length}
use Rattle.common.specs.Triples.{Triple, In}
use Rattle.std.proofs.Common.{Result, Ok, Err, MatchResult}
use Rattle.store_rows.specs.declared.store.Full.{Full}
use Rattle.store_rows.specs.declared.store.Pass.{Pass}
use Rattle.store_rows.specs.Added.{rows_of}
use Rattle.store_rows.specs.Rows.{load_at, load_rows}
use Rattle.store_rows.specs.Store.{Good, Only, Extended}
use Rattle.store_rows.proofs.Cases.{below_or, true_false}
use Rattle.store_rows.proofs.Adds.{changes_then}
use Rattle.store_rows.proofs.Listed.{in_listed→, in_listed←}
use Rattle.store_rows.proofs.Walking.{extended_iff, extended_then, extended_nothing}
use Rattle.trial_rows_bench.specs.Load.{one_pass, Loaded, Appended}

-- what is added to a full store adds no row
extended_full : {C D : ℕ → Triple → Type 0} {p : Pass} {l l₁ h₁ l₂ h₂ : List ℕ} {n n₁ n₂ : ℕ} {f g : Bool} → Extended C p l n l₁ h₁ n₁ f
    → f ≡ true → length l₂ ≡ length l₁ → Extended D p l₁ n₁ l₂ h₂ n₂ g → Extended (λ k t. C k t ⊎ D k t) p l n l₂ h₂ n₂ true
extended_full {n₁ = n₁} {n₂ = n₂} a e same b =
    let o = a.adds.full e in
    let none : n₂ ≡ n₁ = omega (arith, o.short, b.good.room, b.adds.changes.grows) in
    record {
      good = b.good;
      adds = record {
        changes = changes_then a.adds.changes b.adds.changes;
        all = λ z. true_false z;
        full = λ _. record {
          short = omega (arith, o.short);
          rule = o.rule;
          what = o.what;
          wanted = inl o.wanted;
          absent = λ i.
              let below : i.at < n₁ = omega (arith, i.below) in
              o.absent (record { at = i.at; below = below; is = sym (b.adds.changes.keeps i.at below) ∙ i.is });
        };
      };
    }

module _ (load : List ℕ) where
  pub appended_none : {l h : List ℕ} → Good l h 0 → Appended load 0 l l h 0
  appended_none g = record {
    full = false;
    rows = extended_nothing g (λ k t i. let (j, b, e) = in_listed→ 0 (load_at load) i.1 in omega arith);
  }

  more : (k : ℕ) (m : ℕ) (t : Triple) → Loaded load k m t ⊎ Only 0 (load_at load k) m t → Loaded load (k + 1) m t
  more k m t (inl i) =
      let (j, b, e) = in_listed→ k (load_at load) i.1 in
      (i.0, subst (λ u. In u (load_rows (k + 1) load)) (sym e) (in_listed← (k + 1) (load_at load) j (omega arith)))
  more k m t (inr i) =
      (i.0, subst (λ u. In u (load_rows (k + 1) load)) (sym i.1) (in_listed← (k + 1) (load_at load) k (omega arith)))

  less : (k : ℕ) (m : ℕ) (t : Triple) → Loaded load (k + 1) m t → Loaded load k m t ⊎ Only 0 (load_at load k) m t
  less k m t i =
      let (j, b, e) = in_listed→ (k + 1) (load_at load) i.1 in
      ⊎_elim (λ h. inl (i.0, subst (λ u. In u (load_rows k load)) (sym e) (in_listed← k (load_at load) j h)))
      (λ q. inr (i.0, e ∙ ap (load_at load) q)) (below_or j k b)

  -- one triple more of the load
  pub appended_more : {l l₁ h₁ l₂ h₂ : List ℕ} {n₁ n₂ k : ℕ} {g : Bool} → Appended load k l l₁ h₁ n₁ → length l₂ ≡ length l₁ →
      Extended (Only 0 (load_at load k)) one_pass l₁ n₁ l₂ h₂ n₂ g → Appended load (k + 1) l l₂ h₂ n₂
  appended_more {l = l} {l₂ = l₂} {h₂ = h₂} {n₂ = n₂} {k = k} a same b = by a.full refl
    where
      by : (f : Bool) → a.full ≡ f → Appended load (k + 1) l l₂ h₂ n₂
      by true e = record { full = true; rows = extended_iff (more k) (less k) (extended_full a.rows e same b) }
      by false e = record { full = _; rows = extended_iff (more k) (less k) (extended_then a.rows e b) }

-- the rows that an answer of `add` says, full or not
pub rows_unwrapped : (r : Result ℕ Full) (n : ℕ) → MatchResult r (λ m. n ≡ m) (λ f. n ≡ f.rows) → n ≡ rows_of r
rows_unwrapped (Ok m) n e = e
rows_unwrapped (Err f) n e = e
