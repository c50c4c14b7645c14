-- What a run refuses for the numbers that it is passed is what it would refuse for those of the buffers. Assumes nothing.
use mathlib.Core.Path.{◌≡◌, refl, sym, ap, ◌∙◌}
use mathlib.Core.Logic.{◌⊎◌, inl, inr, ⊎_elim, ◌≢◌}
use mathlib.Core.Bool.{Bool, true, false, not, ◌||◌}
use mathlib.Core.List.{List, [], ◌∷◌}
use Prim.Native.Nat.{ℕ, ◌+◌, ◌*◌, ◌/◌, ◌%◌, ◌≤◌, ◌<◌}
use native.Mathlib.Omega.{arith}
use lib.Dec.{T, ltb, eqb, eqb→eq, nltb→le}
use lib.ListN.{length}
use borrow.Author.Tests.{eq-eqb, ne_eqb, lt-ltb, le-ltb, eqb-true, eqb-false}
use Rattle.common.specs.Triples.{if, all}
use Rattle.common.specs.Sizes.{load_width, store_width, finding_width, entry_limit, run_terms_count, work_width}
use Rattle.driver_refusals.specs.Lent.{Lent}
use Rattle.driver_refusals.specs.RunRefusals.{Refusal, refusal_if, first_refusal, run_refusals}
use Rattle.driver_refusals.proofs.Refusing.{Unmet, unmet_all, not_not}
use Rattle.edge_bytes.specs.Bytes.{read_buffer, changes}
use Rattle.edge_c.specs.Calls.{read_lent}
use Rattle.edge_c.specs.Forwarded.{longest_load, longest_store, longest_findings, longer_load}
use Rattle.edge_c.proofs.Forwarding.{Forwarded, whole, ragged, long, LoadForwarded, StoreForwarded, FindingsForwarded}
use Rattle.edge_c.proofs.Forwarding.{WorkForwarded, Passed}

-- refusals of which none changes a buffer
abbrev Quiet : List Refusal → Type 0
Quiet [] = Unit {0}
Quiet (x ∷ r) = (false ≡ changes x.number) × Quiet r

quiet : (r : List Refusal) → Quiet r → first_refusal r ≢ 0 → false ≡ changes (first_refusal r)
quiet [] q z = absurd (z refl)
quiet (x ∷ r) q z = go x.met z (quiet r q.1)
  where
    go : (b : Bool) → (if b (λ _. x.number) (λ _. first_refusal r)) ≢ 0 → (first_refusal r ≢ 0 → false ≡ changes (first_refusal r))
        → false ≡ changes (if b (λ _. x.number) (λ _. first_refusal r))
    go true z k = q.0
    go false z k = k z

pub refusals_quiet : (k : ℕ) (b : Lent) → first_refusal (run_refusals k b) ≢ 0 → false ≡ changes (first_refusal (run_refusals k b))
unfolding changes
refusals_quiet k b z = quiet (run_refusals k b) (refl, (refl, (refl, (refl, (refl, (refl, (refl, (refl, (refl, tt))))))))) z

-- THE REFUSALS with both conditions on a store, and on findings, as one
abbrev ill : ℕ → ℕ → ℕ → Bool
ill width most n = not (eqb (n % width) 0) || ltb most n

abbrev ill_store : ℕ → Bool
ill_store n = ill store_width longest_store n

abbrev ill_findings : ℕ → Bool
ill_findings n = ill finding_width longest_findings n

abbrev short : ℕ → ℕ → Bool
short k n = ltb n (work_width * (k + run_terms_count))

abbrev or_4 : Bool → ℕ → ℕ
or_4 b n = if b (λ _. 4) (λ _. n)

abbrev by_load : List ℕ → ℕ → ℕ
by_load load n = if (not (eqb (length load % load_width) 0)) (λ _. 2) (λ _. if (ltb longest_load (length load)) (λ _. 3) (λ _. n))

abbrev ids : List ℕ → ℕ → ℕ
ids load k = first_refusal (refusal_if 5 (not (all (λ i. not (eqb i 0)) load)) ∷ refusal_if 6 (not (all (λ i. ltb i k) load)) ∷ [])

-- after the load: whether the store is refused, the findings, the list work buffer, and then the ids
abbrev rest : ℕ → Bool → Bool → Bool → List ℕ → ℕ
rest k store findings work load = or_4 store (or_4 findings (or_4 work (ids load k)))

joined : (p q : Bool) (n : ℕ) → or_4 p (or_4 q n) ≡ or_4 (p || q) n
joined true q n = refl
joined false q n = refl

-- all refusals, in order
abbrev ordered : ℕ → Lent → ℕ
ordered k b =
    let store = ill_store (length b.store) in
    let findings = ill_findings (length b.findings) in
    by_load b.load (rest k store findings (short k (length b.work)) b.load)

in_order : (k : ℕ) (b : Lent) → first_refusal (run_refusals k b) ≡ ordered k b
in_order k b =
    let n = length b.store in
    let m = length b.findings in
    let p = not (eqb (m % finding_width) 0) in
    let q = ltb longest_findings m in
    let last = or_4 (short k (length b.work)) (ids b.load k) in
    ap (by_load b.load) (joined (not (eqb (n % store_width) 0)) (ltb longest_store n) (or_4 p (or_4 q last))
    ∙ ap (or_4 (ill_store n)) (joined p q last))

-- a load of no whole triples, and one that is too long
module _ (l : List ℕ) (n : ℕ) where
  abbrev by_width : Bool → ℕ
  by_width b = if (not b) (λ _. 2) (λ _. if (ltb longest_load (length l)) (λ _. 3) (λ _. n))

  refused_2 : length l % load_width ≢ 0 → by_load l n ≡ 2
  refused_2 h = ap by_width (ne_eqb (length l % load_width) 0 h)

  refused_3 : length l % load_width ≡ 0 → longest_load < length l → by_load l n ≡ 3
  refused_3 h k =
      ap by_width (eq-eqb (length l % load_width) 0 h)
      ∙ ap (λ (b : Bool). if b (λ _. 3) (λ _. n)) (lt-ltb longest_load (length l) k)

-- STORE AND FINDINGS
or-true : (a b : Bool) → b ≡ true → a || b ≡ true
or-true true b e = refl
or-true false b e = e

ill_alike : (width : ℕ) {most n : ℕ} {b : List ℕ} → ill width most 1 ≡ true → Forwarded most 1 b n
    → ill width most n ≡ ill width most (length (read_buffer b))
ill_alike width {most} i (whole p u q r) = ap (ill width most) q
ill_alike width {most} i (ragged p q) = ap (ill width most) (p ∙ sym q)
ill_alike width {most} {n} {b} i (long p u q r) =
    let own = length (read_buffer b) in
    ap (ill width most) p ∙ i ∙ sym (or-true (not (eqb (own % width) 0)) (ltb most own) (lt-ltb most own (omega arith)))

-- THE LIST WORK BUFFER
short_alike : (k : ℕ) → k ≤ entry_limit → {b : List ℕ} {n : ℕ} → WorkForwarded b n → short k n ≡ short k (length (read_buffer b))
short_alike k h (whole p u q r) = ap (short k) q
short_alike k h (ragged p q) = ap (short k) (p ∙ sym q)
short_alike k h {b} {n} (long p u q r) =
    let needed = work_width * (k + run_terms_count) in
    le-ltb n needed (omega arith) ∙ sym (le-ltb (length (read_buffer b)) needed (omega arith))

-- WHAT IS NOT REFUSED is passed on whole
pub record Whole (b m : Lent) : Type 0 where
  pub load_own : m.load ≡ read_buffer b.load
  pub store_whole : length b.store ≡ 4 * length m.store
  pub store_same : length m.store ≡ length (read_buffer b.store)
  pub findings_whole : length b.findings ≡ 4 * length m.findings
  pub findings_same : length m.findings ≡ length (read_buffer b.findings)
  pub work_whole : length b.work ≡ 4 * length (read_buffer b.work)

module _ {table t : List ℕ} {b m : Lent} (h : Passed table b t m) (k : ℕ) where
  abbrev l : List ℕ
  l = m.load

  abbrev own_load : List ℕ
  own_load = read_buffer b.load

  -- THE LOAD is passed on, or both are refused alike
  load_alike : (l ≡ own_load) ⊎ ((x y : ℕ) → by_load l x ≡ by_load own_load y)
  load_alike = go h.load_read.passed
    where
      too_long : length own_load ≡ length b.load / 4 → length l ≡ longer_load (length b.load / 4)
          → longest_load < length b.load / 4 → (x y : ℕ) → by_load l x ≡ by_load own_load y
      too_long e o r x y = pick (eqb (length l % load_width) 0) refl
        where
          pick : (c : Bool) → eqb (length l % load_width) 0 ≡ c → by_load l x ≡ by_load own_load y
          pick true j =
              let z = eqb-true (length l % load_width) 0 j in
              refused_3 l x z (omega arith) ∙ sym (refused_3 own_load y (omega arith) (omega arith))
          pick false j =
              let z = eqb-false (length l % load_width) 0 j in
              refused_2 l x z ∙ sym (refused_2 own_load y (λ w. z (omega arith)))

      go : LoadForwarded b.load (length l) → (l ≡ own_load) ⊎ ((x y : ℕ) → by_load l x ≡ by_load own_load y)
      go (whole p u q r) = inl (h.load_read.numbers p ∙ sym r)
      go (ragged p q) = inr (λ x y. refused_2 l x (λ z. omega arith) ∙ sym (refused_2 own_load y (λ z. omega arith)))
      go (long p u q r) = inr (too_long q p r)

  -- THE SAME REFUSAL
  pub same_refusal : k ≤ entry_limit → first_refusal (run_refusals k m) ≡ first_refusal (run_refusals k (read_lent b))
  same_refusal few = in_order k m ∙ (⊎_elim same (λ g. g _ _) load_alike ∙ sym (in_order k (read_lent b)))
    where
      same : l ≡ own_load → ordered k m ≡ ordered k (read_lent b)
      same e =
          let store = ill_alike store_width refl h.store_passed in
          let findings = ill_alike finding_width refl h.findings_passed in
          let work = short_alike k few h.work_passed in
          λ i. by_load (e i) (rest k (store i) (findings i) (work i) (e i))

  module _ (e : first_refusal (run_refusals k m) ≡ 0) where
    abbrev unmet : Unmet (run_refusals k m)
    unmet = unmet_all (run_refusals k m) tt e

    -- a width that divides a length, by the refusal that is not met
    divides : (n width : ℕ) → T (not (not (eqb (n % width) 0))) → n % width ≡ 0
    divides n width u = eqb→eq (n % width) 0 (not_not (eqb (n % width) 0) u)

    load_triples : length l % load_width ≡ 0
    load_triples = divides (length l) load_width unmet.0

    load_few : length l ≤ longest_load
    load_few = nltb→le longest_load (length l) unmet.1.0

    store_triples : length m.store % store_width ≡ 0
    store_triples = divides (length m.store) store_width unmet.1.1.0

    findings_records : length m.findings % finding_width ≡ 0
    findings_records = divides (length m.findings) finding_width unmet.1.1.1.1.0

    work_long : work_width * (k + run_terms_count) ≤ length m.work
    work_long = nltb→le (length m.work) (work_width * (k + run_terms_count)) unmet.1.1.1.1.1.1.0

    pub not_refused : Whole b m
    not_refused =
        let (p, q) = by_store h.store_passed in
        let (u, v) = by_findings h.findings_passed in
        record {
          load_own = by_ids h.load_read.passed;
          store_whole = p;
          store_same = q;
          findings_whole = u;
          findings_same = v;
          work_whole = by_work h.work_passed;
        }
      where
        by_ids : LoadForwarded b.load (length l) → l ≡ own_load
        by_ids (whole p u q r) = h.load_read.numbers p ∙ sym r
        by_ids (ragged p q) = absurd (omega (arith, load_triples))
        by_ids (long p u q r) = absurd (omega (arith, load_few))

        by_store : StoreForwarded b.store (length m.store)
            → (length b.store ≡ 4 * length m.store) × (length m.store ≡ length (read_buffer b.store))
        by_store (whole p u q r) = (p, q)
        by_store (ragged p q) = absurd (omega (arith, store_triples))
        by_store (long p u q r) = absurd (omega (arith, store_triples))

        by_findings : FindingsForwarded b.findings (length m.findings)
            → (length b.findings ≡ 4 * length m.findings) × (length m.findings ≡ length (read_buffer b.findings))
        by_findings (whole p u q r) = (p, q)
        by_findings (ragged p q) = absurd (omega (arith, findings_records))
        by_findings (long p u q r) = absurd (omega (arith, findings_records))

        by_work : WorkForwarded b.work (length m.work) → length b.work ≡ 4 * length (read_buffer b.work)
        by_work (whole p u q r) = omega arith
        by_work (ragged p q) = absurd (omega (arith, work_long))
        by_work (long p u q r) = omega arith
