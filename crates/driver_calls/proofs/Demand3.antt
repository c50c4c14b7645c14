-- DEMAND 3, proved: every list of calls from what an accepted start leaves. Assumes nothing.
use mathlib.Core.Path.{◌≡◌, sym, ◌∙◌, ap, subst}
use mathlib.Core.List.{List, ◌++◌}
use Prim.Native.Nat.{ℕ, suc, ◌*◌}
use lib.ListN.{length, take}
use Rattle.common.specs.Triples.{Triple, triple, Row, Finding, finding, In, key_triple, key_finding, Ascending, erase}
use Rattle.meaning.specs.Rules.{Graph}
use Rattle.meaning.specs.Containers.{Containers}
use Rattle.meaning.specs.Table.{graph_of}
use Rattle.meaning.specs.Closure.{Sub, IsClosure, closure, five_counts, total}
use Rattle.meaning.specs.Run.{accepted, run}
use Rattle.meaning.specs.RowsRun.{run_rows, erase_outcome}
use Rattle.common.specs.Sizes.{store_width, finding_width}
use Rattle.common.specs.Rows.{flat_rows, flat_findings, triples, rows_of, findings_of, filled}
use Rattle.meaning.specs.Batch.{Same, Conditions}
use Rattle.meaning.proofs.Checks.{findings_ascending, findings→, findings←, found_up}
use Rattle.meaning.proofs.LoadClosure.{closure_ascending}
use Rattle.meaning.proofs.Batch.{in_without_zero→, in_without_zero←, without_zero_ascending}
use Rattle.meaning.proofs.Run.{accepted→, batch_law}
use Rattle.meaning.proofs.RowsRun.{erase_run, accepted_lie}
use Rattle.meaning.proofs.Refusals.{computed_in, in_computed}
use Rattle.common.proofs.Rows.{rows_filled, findings_filled}
use Rattle.common.proofs.RowLists.{length_erase}
use Rattle.meaning.proofs.Counts.{total_findings}
use Rattle.dictionary_layout.specs.Terms.{Term, start_terms}
use Rattle.dictionary_layout.specs.Layout.{decode}
use Rattle.dictionary_layout.specs.Calls.{start_gives}
use Rattle.dictionary_layout.proofs.Decoding.{decode_layout}
use Rattle.driver_refusals.specs.Lent.{Lent}
use Rattle.driver_load.specs.Closed.{AnswerOfRun, store_room, findings_room, outcome_answer, containers}
use Rattle.driver_run.proofs.Accepting.{runs_triples}
use Rattle.driver_calls.specs.Calls.{Call, ran, ListLeft, events_of, terms_after}
use Rattle.driver_calls.specs.Demand3.{stored, answer, found, Agree, Exact, list_gives, Demand3}
use Rattle.driver_calls.proofs.Abstraction.{start_abstract}
use Rattle.driver_calls.proofs.Growth.{Reading, reading}
use Rattle.driver_calls.proofs.Unbroken.{events_unbroken}

-- what an accepted run's store and findings hold
module _ (c : Containers) (b : Lent) (cap fcap : ℕ) (X : List Triple) (R : List Row) (F : List Finding) (n : ℕ) (k : List ℕ)
    (q : run_rows c cap fcap X ≡ accepted R F n k) where
  -- without pass and rule it is the run of triples
  abbrev N : List Triple
  N = erase R

  r : run c cap fcap X ≡ accepted N F n k
  r = sym (erase_run c cap fcap X) ∙ ap erase_outcome q

  pub stored_of_accepted : stored (outcome_answer b (accepted R F n k)) ≡ R
  stored_of_accepted =
      ap (λ m. rows_of (take (store_width * m) (filled b.store (flat_rows R))))
      ((accepted→ c cap fcap X N F n k r).count ∙ length_erase R) ∙ rows_filled b.store R

  pub answer_of_accepted : answer (outcome_answer b (accepted R F n k)) ≡ N
  answer_of_accepted = ap erase stored_of_accepted

  counted : total k ≡ length F
  counted =
      let a = accepted→ c cap fcap X N F n k r in
      ap total a.counts ∙ subst (λ G. total (five_counts G) ≡ length G) (sym a.found) (total_findings (closure c (suc cap) X))

  pub findings_of_accepted : found (outcome_answer b (accepted R F n k)) ≡ F
  findings_of_accepted =
      ap (λ m. findings_of (take (finding_width * m) (filled b.findings (flat_findings F)))) counted ∙ findings_filled b.findings F

  pub exact : (Y : List Triple) → Same X Y → Exact c Y (outcome_answer b (accepted R F n k))
  exact Y s =
      let a = accepted→ c cap fcap X N F n k r in
      let e = answer_of_accepted ∙ a.answer in
      let f = findings_of_accepted ∙ a.found in
      -- a load with the same triples has the same closure
      let into = computed_in c cap X Y s in
      let back : (C : Graph) → IsClosure c Y C → Sub C (graph_of (closure c (suc cap) X)) = λ C h. in_computed c cap X Y s C h a.fits in
      record {
        ascending = subst (Ascending key_triple) (sym e)
            (without_zero_ascending (closure c (suc cap) X) (closure_ascending c (suc cap) X));
        sound = λ C h x y z i.
            let (j, g) = in_without_zero→ (closure c (suc cap) X) (triple x y z) (subst (In (triple x y z)) e i) in
            (into C h x y z j, g);
        complete = λ C h x y z i g. subst (In (triple x y z)) (sym e)
            (in_without_zero← (closure c (suc cap) X) (triple x y z) (back C h x y z i) g);
        passes = λ x i. accepted_lie c cap fcap X Y s q x (subst (In x) stored_of_accepted i);
        findings_ascending = subst (Ascending key_finding) (sym f) (findings_ascending (closure c (suc cap) X));
        findings_sound = λ C h m x y z w i. found_up (into C h) (findings→ (closure c (suc cap) X) (subst (In (finding m x y z w)) f i));
        findings_complete =
            λ C h m x y z w i. subst (In (finding m x y z w)) (sym f) (findings← (closure c (suc cap) X) (found_up (back C h) i));
        count = a.count ∙ ap length (sym answer_of_accepted);
        counts = a.counts ∙ ap five_counts (sym findings_of_accepted);
      }

-- the same of a run that was read with the terms of its list's end
module _ {ws : List Term} {b : Lent} {o : AnswerOfRun} (r : Reading ws b o) where
  read_answer : answer o ≡ erase r.rows
  read_answer =
      ap answer r.gives ∙ answer_of_accepted (containers ws) b (store_room b) (findings_room b) (triples b.load) r.rows
      r.row r.n r.k r.runs

  read_found : found o ≡ r.row
  read_found =
      ap found r.gives ∙ findings_of_accepted (containers ws) b (store_room b) (findings_room b) (triples b.load) r.rows
      r.row r.n r.k r.runs

  read_exact : (Y : List Triple) → Same (triples b.load) Y → Exact (containers ws) Y o
  read_exact Y s =
      subst (Exact (containers ws) Y) (sym r.gives) (exact (containers ws) b (store_room b) (findings_room b) (triples b.load)
      r.rows r.row r.n r.k r.runs Y s)

-- three accepted runs of a list, read with the terms of its end
batches : (tl al : ℕ) (ts : List Term) (cs : List Call) (b₁ b₂ b₃ : Lent) (o₁ o₂ o₃ : AnswerOfRun)
    → In (ran b₁ o₁) (events_of tl al ts cs)
    → In (ran b₂ o₂) (events_of tl al ts cs) → In (ran b₃ o₃) (events_of tl al ts cs)
    → o₁.number ≡ 0 → o₂.number ≡ 0 → o₃.number ≡ 0
    → (A B : List Triple) → Same (triples b₁.load) A → Same (triples b₂.load) (answer o₁ ++ B) → Same (triples b₃.load) (A ++ B)
    → Conditions (containers (terms_after tl al ts cs)).is A B (answer o₁)
    → Agree o₂ o₃ × Exact (containers (terms_after tl al ts cs)) (A ++ B) o₃
batches tl al ts cs b₁ b₂ b₃ o₁ o₂ o₃ i₁ i₂ i₃ n₁ n₂ n₃ A B s₁ s₂ s₃ h =
    let r₁ = reading tl al ts cs b₁ o₁ i₁ n₁ in
    let r₂ = reading tl al ts cs b₂ o₂ i₂ n₂ in
    let r₃ = reading tl al ts cs b₃ o₃ i₃ n₃ in
    let ws = terms_after tl al ts cs in
    let c = containers ws in
    let (e, f, g, k) = batch_law c A B (triples b₁.load) (triples b₂.load) (triples b₃.load)
    (store_room b₁) (findings_room b₁) (store_room b₂) (findings_room b₂) (store_room b₃) (findings_room b₃)
    (erase r₁.rows) (erase r₂.rows) (erase r₃.rows) r₁.row r₂.row r₃.row r₁.n r₂.n r₃.n r₁.k r₂.k r₃.k
    (runs_triples b₁ ws r₁.runs) (runs_triples b₂ ws r₂.runs) (runs_triples b₃ ws r₃.runs)
    s₁ (subst (λ N. Same (triples b₂.load) (N ++ B)) (read_answer r₁) s₂) s₃ r₁.clean
    (subst (Conditions c.is A B) (read_answer r₁) h) in (
      record {
        same_triples = read_answer r₂ ∙ (e ∙ sym (read_answer r₃));
        same_findings = read_found r₂ ∙ (f ∙ sym (read_found r₃));
        same_count = ap (λ (o : AnswerOfRun). o.count) r₂.gives ∙ (g ∙ sym (ap (λ (o : AnswerOfRun). o.count) r₃.gives));
        same_counts = ap (λ (o : AnswerOfRun). o.counts) r₂.gives ∙ (k ∙ sym (ap (λ (o : AnswerOfRun). o.counts) r₃.gives));
      },
      read_exact r₃ (A ++ B) s₃,
    )

-- every accepted run of a list
each_exact : (tl al : ℕ) (ts : List Term) (cs : List Call) (b : Lent) (o : AnswerOfRun)
    → In (ran b o) (events_of tl al ts cs) → o.number ≡ 0
    → Exact (containers (terms_after tl al ts cs)) (triples b.load) o
each_exact tl al ts cs b o i n = read_exact (reading tl al ts cs b o i n) (triples b.load) (λ t j. j, λ t j. j)

pub demand_3 : (table arena : List ℕ) → (start_gives table arena).number ≡ 0 → (cs : List Call) → Demand3 table arena cs
demand_3 table arena s cs =
    let tl = length table in
    let al = length arena in
    let e = start_abstract table arena cs s in
    let f : (list_gives table arena cs).events
    ≡ events_of tl al start_terms cs = ap (λ (l : ListLeft). l.events) e in
    let g : decode (list_gives table arena cs).contents
    ≡ terms_after tl al start_terms cs = ap (λ (l : ListLeft). decode l.contents) e
    ∙ decode_layout tl al (terms_after tl al start_terms cs) in
    record {
      each = e;
      unbroken = λ v i. events_unbroken tl al start_terms cs v (subst (In v) f i);
      exact_each = λ b o i n.
          subst (λ (ws : List Term). Exact (containers ws) (triples b.load) o) (sym g)
          (each_exact tl al start_terms cs b o (subst (In (ran b o)) f i) n);
      batch = λ b₁ b₂ b₃ o₁ o₂ o₃ i₁ i₂ i₃ n₁ n₂ n₃ A B s₁ s₂ s₃ h.
          subst (λ (ws : List Term). Agree o₂ o₃ × Exact (containers ws) (A ++ B) o₃) (sym g)
          (batches tl al start_terms cs b₁ b₂ b₃ o₁ o₂ o₃ (subst (In (ran b₁ o₁)) f i₁)
          (subst (In (ran b₂ o₂)) f i₂) (subst (In (ran b₃ o₃)) f i₃)
          n₁ n₂ n₃ A B s₁ s₂ s₃ (subst (λ (ws : List Term). Conditions (containers ws).is A B (answer o₁)) g h));
    }
