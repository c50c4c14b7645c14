-- What the rows of the store give, for the two loops: along the chain of an axiom's assertions, and over all rows. Assumes nothing.
use mathlib.Core.Path.{◌≡◌, refl, sym, ap, subst, ◌∙◌}
use mathlib.Core.Logic.{◌⊎◌, inl, inr}
use mathlib.Core.Bool.{Bool}
use mathlib.Core.List.{List}
use Prim.Native.Nat.{ℕ, ◌<◌}
use native.Mathlib.Omega.{arith}
use Rattle.common.specs.Triples.{Triple, Finding}
use Rattle.store_rows.specs.Rows.{row_at, Apart, row_graph}
use Rattle.common.specs.Last.{Last}
use Rattle.store_rows.specs.Store.{Good}
use Rattle.std.specs.Prelude.{Option, Some, None}
use Rattle.store_rows.proofs.Cases.{three}
use Rattle.engine_checks.specs.declared.CheckKind.{CheckKind}
use Rattle.engine_checks.specs.declared.Checked.{Checked}
use Rattle.engine_checks.specs.Pairs.{Axiom, check_of, KindOf, Violates, finding_by, key_by, Gives, GivesWith, GivenByRow, GivenByRows}
use Rattle.engine_checks.specs.Findings.{Appended}
use Rattle.engine_checks.proofs.Pairing.{axiom_kind, violates_key, same_axiom, same_assertion}
use Rattle.engine_checks.proofs.Appending.{appended_iff}
use Rattle.engine_checks.proofs.Scanning.{Since, Once}

-- rows that hold the same triple are one row
same_row : (l : List ℕ) (n : ℕ) → Apart l n → (i j : ℕ) → i < n → j < n → row_at l i ≡ row_at l j → i ≡ j
same_row l n a i j p q e = go (three i j)
  where
    go : (i ≡ j) ⊎ ((i < j) ⊎ (j < i)) → i ≡ j
    go (inl h) = h
    go (inr (inl h)) = absurd (a i j h q e)
    go (inr (inr h)) = absurd (a j i h p (sym e))

-- all rows, from the last
pub every_row : (m : ℕ) → Last (λ _. 0) 0 m m
every_row m = record { below = omega arith; here = λ _. refl; none = λ j a b _. omega arith }

-- THE ASSERTIONS of an axiom t of the check k
module _ (k : CheckKind) (l : List ℕ) (n : ℕ) (t : Triple) where
  pub once_assertion : {h : List ℕ} → Good l h n → Once n (λ j. Gives k (row_graph l n) t (row_at l j))
  once_assertion g i j p q y d e =
      same_row l n g.apart i j p q (same_assertion k (row_graph l n) t (row_at l i) (row_at l j) d.violated e.violated
      (sym d.is ∙ e.is))

  -- u, which row j holds, violates the axiom: its record was appended
  pub appended_gives : {f f' : List ℕ} {a b : Checked} {w : Bool} (u : Triple) (j : ℕ) → u ≡ row_at l j → Violates k (row_graph l n) t u
      → (x : Finding) → x ≡ finding_by k t u → Appended (λ y. y ≡ x) f a f' b w
      → Appended (Gives k (row_graph l n) t (row_at l j)) f a f' b w
  appended_gives {f} {f'} {a} {b} {w} u j e v x z p =
      subst (λ (r : Triple). Appended (Gives k (row_graph l n) t r) f a f' b w) e
      (appended_iff (λ y q. record { violated = v; is = q ∙ z }) (λ y g. g.is ∙ sym z) p)

  -- or it does not
  pub gives_none : (u : Triple) (j : ℕ) → u ≡ row_at l j → (Violates k (row_graph l n) t u → ⊥) → (y : Finding)
      → Gives k (row_graph l n) t (row_at l j) y → ⊥
  gives_none u j e f y g = f (subst (Violates k (row_graph l n) t) (sym e) g.violated)

  -- the whole chain
  pub appended_with : {f f' : List ℕ} {a b : Checked} {w : Bool} (x : ℕ) → x ≡ t.s
      → Appended (Since (λ j. key_by k (row_at l j)) x n (λ j. Gives k (row_graph l n) t (row_at l j)) 0) f a f' b w
      → Appended (GivesWith k l n t) f a f' b w
  appended_with x e p = appended_iff
      (λ y s. record { at = s.at; below = s.below; gives = s.gives })
      (λ y w. record {
        at = w.at;
        from = omega arith;
        below = w.below;
        keyed = violates_key k (row_graph l n) t
            (row_at l w.at) w.gives.violated ∙ sym e;
        gives = w.gives;
      })
      p

-- THE AXIOMS
module _ (l : List ℕ) (n : ℕ) where
  pub once_axiom : {h : List ℕ} → Good l h n → Once n (GivenByRow l n)
  once_axiom g i j p q y d e = same_row l n g.apart i j p q (same_axiom d e)

  -- the check of a row
  row_kind : {t : Triple} {o : Option CheckKind} (i : ℕ) → KindOf t o → t ≡ row_at l i → {y : Finding} (g : GivenByRow l n i y)
      → o ≡ Some g.kind
  row_kind i h e g = h.is ∙ ap check_of e ∙ axiom_kind g.kind (row_at l i) g.stated

  -- a row that is an axiom: what it gives was appended
  pub appended_row : {f f' : List ℕ} {a b : Checked} {w : Bool} (t : Triple) (k : CheckKind) (i : ℕ) → KindOf t (Some k)
      → t ≡ row_at l i → Appended (GivesWith k l n t) f a f' b w → Appended (GivenByRow l n i) f a f' b w
  appended_row t k i h e p = appended_iff
      (λ y w. record { kind = k; stated = subst (Axiom k) e (h.stated k refl); gives = subst (λ (z : Triple). GivesWith k l n z y) e w })
      (λ y g. subst (λ (z : Triple). GivesWith k l n z y) (sym e)
      (subst (λ (x : CheckKind). GivesWith x l n (row_at l i) y) (same g) g.gives))
      p
    where
      same : {y : Finding} (g : GivenByRow l n i y) → g.kind ≡ k
      same g = cc (row_kind i h e g)

  -- or one that is not
  pub row_none : (t : Triple) (i : ℕ) → KindOf t None → t ≡ row_at l i → (y : Finding) → GivenByRow l n i y → ⊥
  row_none t i h e y g = cc (row_kind i h e g)

  -- all rows
  pub appended_rows : {f f' : List ℕ} {a b : Checked} {w : Bool} → Appended (Since (λ _. 0) 0 n (GivenByRow l n) 0) f a f' b w
      → Appended (GivenByRows l n) f a f' b w
  appended_rows p = appended_iff
      (λ y s. record { at = s.at; below = s.below; gives = s.gives })
      (λ y w. record { at = w.at; from = omega arith; below = w.below; keyed = refl; gives = w.gives })
      p
