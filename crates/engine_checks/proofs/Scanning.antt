-- A loop that appends what each row of a chain gives, from the last row to the first: one law for the loop over the assertions, along
-- a chain of the index, and for the loop over the axioms, which visits every row. Assumes nothing.
use mathlib.Core.Path.{◌≡◌, subst}
use mathlib.Core.Logic.{◌⊎◌, inl, inr, ⊎_elim}
use mathlib.Core.Bool.{Bool, true, false}
use mathlib.Core.List.{List}
use Prim.Native.Nat.{ℕ, ◌-◌, ◌≤◌, ◌<◌}
use native.Mathlib.Omega.{arith}
use Rattle.common.specs.Triples.{Finding}
use Rattle.common.specs.Last.{Last}
use Rattle.store_rows.proofs.Cases.{is_or_not, le_or, true_false}
use Rattle.engine_checks.specs.declared.Checked.{Checked}
use Rattle.engine_checks.specs.Findings.{Ready, Appended}
use Rattle.engine_checks.proofs.Appending.{appended_nothing, appended_iff, appended_then}

-- what D gives for a row from cur to m whose key is x
pub record Since (key : ℕ → ℕ) (x m : ℕ) (D : ℕ → Finding → Type 0) (cur : ℕ) (y : Finding) : Type 0 where
  pub at : ℕ
  pub from : cur ≤ at
  pub below : at < m
  pub keyed : key at ≡ x
  pub gives : D at y

-- The loop at cur: what the rows from cur on give is appended.
pub record Scanning (key : ℕ → ℕ) (x m : ℕ) (D : ℕ → Finding → Type 0) (f : List ℕ) (a : Checked) (f' : List ℕ) (b : Checked)
    (cur : ℕ) : Type 0 where
  pub below : cur ≤ m
  pub here : 0 < cur → key (cur - 1) ≡ x
  pub appended : Appended (Since key x m D cur) f a f' b false

-- each record comes from one row
abbrev pub Once : ℕ → (ℕ → Finding → Type 0) → Type 0
Once m D = (i j : ℕ) → i < m → j < m → (y : Finding) → D i y → D j y → i ≡ j

module _ {key : ℕ → ℕ} {x m : ℕ} {D : ℕ → Finding → Type 0} where
  -- at the last row of the key nothing is appended yet
  pub scanning_start : {f : List ℕ} {a : Checked} {v : ℕ} → Ready f a → Last key x m v → Scanning key x m D f a f a v
  scanning_start r h = record {
    below = h.below;
    here = h.here;
    appended = appended_nothing r (λ y s. h.none s.at s.from s.below s.keyed);
  }

  module _ {f : List ℕ} {a : Checked} {f' : List ℕ} {b : Checked} {cur : ℕ} (s : Scanning key x m D f a f' b cur) (p : cur ≡ 0 → ⊥) where
    -- the row at cur, of this key, is one below m
    pub scanning_below : cur - 1 < m
    scanning_below = omega (arith, s.below)

    pub scanning_key : key (cur - 1) ≡ x
    scanning_key = s.here (omega arith)

    last : {v : ℕ} → Last key (key (cur - 1)) (cur - 1) v → Last key x (cur - 1) v
    last {v} h = subst (λ (z : ℕ). Last key z (cur - 1) v) scanning_key h

    -- what was given before, or is given for the row at cur
    before : {v : ℕ} → Last key (key (cur - 1)) (cur - 1) v → (y : Finding) → Since key x m D cur y → Since key x m D v y
    before h y i = record { at = i.at; from = omega (arith, i.from, h.below); below = i.below; keyed = i.keyed; gives = i.gives }

    now : {v : ℕ} → Last key (key (cur - 1)) (cur - 1) v → (y : Finding) → D (cur - 1) y → Since key x m D v y
    now h y d = record { at = cur - 1; from = h.below; below = scanning_below; keyed = scanning_key; gives = d }

    either : {v : ℕ} → Last key (key (cur - 1)) (cur - 1) v → (y : Finding) → Since key x m D v y → Since key x m D cur y ⊎ D (cur - 1) y
    either {v} h y i = ⊎_elim
        (λ q. inr (subst (λ (k : ℕ). D k y) q i.gives))
        (λ q. ⊎_elim
        (λ c. inl (record { at = i.at; from = c; below = i.below; keyed = i.keyed; gives = i.gives }))
        (λ c. absurd ((last h).none i.at i.from (omega arith) i.keyed))
        (le_or cur i.at))
        (is_or_not i.at (cur - 1))

    -- a row for which nothing is given; v is the next row of the key
    pub scanning_skip : {v : ℕ} → Last key (key (cur - 1)) (cur - 1) v → ((y : Finding) → D (cur - 1) y → ⊥) → Scanning key x m D f a f' b
        v
    scanning_skip {v} h d = record {
      below = omega (arith, h.below, s.below);
      here = (last h).here;
      appended = appended_iff (before h) (λ y i. ⊎_elim (λ j. j) (λ j. absurd (d y j)) (either h y i)) s.appended;
    }

    module _ (once : Once m D) where
      apart : (y : Finding) → Since key x m D cur y → D (cur - 1) y → ⊥
      apart y i d = let e = once i.at (cur - 1) i.below scanning_below y i.gives d in omega (arith, i.from)

      both : {f'' : List ℕ} {c : Checked} {w : Bool} {v : ℕ} → Appended (D (cur - 1)) f' b f'' c w → Last key (key (cur - 1)) (cur - 1) v
          → Appended (Since key x m D v) f a f'' c w
      both q h = appended_then s.appended q apart (before h) (now h) (λ _. either h)

      -- what is given for the row at cur was appended
      pub scanning_step : {f'' : List ℕ} {c : Checked} {v : ℕ} → Appended (D (cur - 1)) f' b f'' c false
          → Last key (key (cur - 1)) (cur - 1) v
          → Scanning key x m D f a f'' c v
      scanning_step {v = v} q h = record { below = omega (arith, h.below, s.below); here = (last h).here; appended = both q h }

      -- or did not fit
      pub scanning_full : {f'' : List ℕ} {c : Checked} {v : ℕ} → Appended (D (cur - 1)) f' b f'' c true
          → Last key (key (cur - 1)) (cur - 1) v
          → Appended (Since key x m D 0) f a f'' c true
      scanning_full {f''} {c} {v} q h = record {
        same_length = z.same_length;
        ready = z.ready;
        new = z.new;
        records = z.records;
        distinct = z.distinct;
        sound = λ y i. later y (z.sound y i);
        all = λ g. true_false g;
        over = λ g. let o = z.over g in record
            { short = o.short; what = o.what; wanted = later o.what o.wanted; absent = o.absent };
      }
        where
          z : Appended (Since key x m D v) f a f'' c true
          z = both q h

          later : (y : Finding) → Since key x m D v y → Since key x m D 0 y
          later y i = record { at = i.at; from = omega arith; below = i.below; keyed = i.keyed; gives = i.gives }
