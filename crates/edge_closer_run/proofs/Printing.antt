-- What an accepted run leaves can be printed, and the output by what was read. Assumes nothing.
use mathlib.Core.Path.{◌≡◌, refl, sym, ap, subst, ◌∙◌}
use mathlib.Core.Logic.{◌≢◌}
use mathlib.Core.Bool.{Bool, true, false}
use mathlib.Core.List.{List, [], ◌∷◌, ◌++◌}
use Prim.Native.Nat.{ℕ, zero, suc, ◌/◌, ◌≤◌}
use native.Mathlib.Omega.{arith}
use lib.ListN.{length, take, replicate}
use Rattle.std.specs.Prelude.{Result, Ok, Err}
use Rattle.common.specs.declared.refusal.Refusal.{Refusal}
use Rattle.common.specs.Refusals.{number_of}
use Rattle.common.proofs.Refusals.{numbered}
use Rattle.common.specs.Triples.{Triple, Finding, if, no_zero, without_zero, erase}
use Rattle.meaning.specs.Closure.{closure, five_counts, total}
use Rattle.common.specs.Rows.{triples}
use Rattle.meaning.proofs.Run.{accepted→}
use Rattle.meaning.proofs.Counts.{total_findings}
use Rattle.dictionary_layout.specs.Layout.{Dict, decode}
use Rattle.dictionary_layout.specs.Dictionary.{valid}
use Rattle.dictionary_layout.specs.Calls.{StartResult, start_gives}
use Rattle.dictionary_layout.specs.Terms.{Term}
use Rattle.driver_refusals.specs.Lent.{Lent, lent}
use Rattle.driver_load.specs.Closed.{AnswerOfRun, containers}
use Rattle.driver_run.specs.Run.{RunResult, unchanged, run_laid, abstract_run, run_gives}
use Rattle.driver_run.specs.Values.{run_left}
use Rattle.driver_load.specs.declared.values.RunAnswer.{RunAnswer}
use Rattle.driver_run.specs.declared.values.RunNext.{RunNext}
use Rattle.driver_run.proofs.Accepting.{AcceptedRun, runs_triples, run_accepted}
use Rattle.edge_closer_text.specs.Input.{bad_line, input, parse}
use Rattle.edge_closer_text.specs.Output.{answer, refusal, bad_line_text}
use Rattle.edge_decimal.specs.Promises.{Wrote}
use Rattle.edge_closer_text.specs.Promises.{AnswerFits}
use Rattle.edge_closer_text.proofs.Cut.{parse_cut}
use Rattle.common.specs.Sizes.{store_width, finding_width}
use Rattle.edge_closer_text.specs.Sizes.{triple_limit, record_limit, store_length, findings_length, input_length, output_length}
use Rattle.edge_closer_run.specs.Sizes.{table_length, arena_length, work_length}
use Rattle.edge_closer_run.specs.Program.{named, dictionary, ran, by_number, printed_run, printed, output}
use Rattle.edge_closer_run.specs.Promises.{Ran}

-- the answer has no more triples than the closure
without_few : (ts : List Triple) → length (without_zero ts) ≤ length ts
unfolding without_zero
without_few [] = omega arith
without_few (t ∷ ts) = go (no_zero t) (without_few ts)
  where
    go : (b : Bool) → length (without_zero ts) ≤ length ts → length ((if b (λ _. t ∷ []) (λ _. [])) ++ without_zero ts) ≤ suc (length ts)
    go true h = omega arith
    go false h = omega arith

-- counts that the buffers have room for
pub record Counted (a : AnswerOfRun) (cap fcap : ℕ) : Type 0 where
  pub triples_fit : a.count ≤ cap
  pub five : length a.counts ≡ 5
  pub records_fit : total a.counts ≤ fcap

-- those of an accepted run
module _ (b : Lent) where
  abbrev cap : ℕ
  cap = length b.store / store_width

  abbrev fcap : ℕ
  fcap = length b.findings / finding_width

  outcome_counted : (tl al : ℕ) (ts : List Term) → AcceptedRun tl al ts b (abstract_run tl al ts b)
      → Counted (abstract_run tl al ts b).answer cap fcap
  outcome_counted tl al ts r =
      let a = accepted→ (containers r.terms) cap fcap (triples b.load) (erase r.rows) r.row r.n r.k
      (runs_triples b r.terms r.runs) in
      let ks : total r.k ≡ length r.row = ap total a.counts
      ∙ subst (λ (G : List Finding). total (five_counts G) ≡ length G) (sym a.found)
      (total_findings (closure (containers r.terms) (suc cap) (triples b.load))) in
      let few = without_few (closure (containers r.terms) (suc cap) (triples b.load)) in
      let n = ap length a.answer in
      let f = a.fits in
      let g = a.records in
      let m = a.count in
      let five : length r.k ≡ 5 = ap length a.counts in
      subst (λ (x : AnswerOfRun). Counted x cap fcap) (sym r.gives)
      (record { triples_fit = omega arith; five = five; records_fit = omega arith })

  pub counted : (d : Dict) → (run_gives d b).answer.number ≡ 0 → Counted (run_gives d b).answer cap fcap
  unfolding run_gives
  counted d = go (valid d)
    where
      go : (v : Bool) → (if v (λ _. run_laid b (length d.table) (length d.arena) (decode d))
          (λ _. record { answer = unchanged 1 b; contents = d })).answer.number ≡ 0
          → Counted (if v (λ _. run_laid b (length d.table) (length d.arena) (decode d))
          (λ _. record { answer = unchanged 1 b; contents = d })).answer cap fcap
      go true e =
          outcome_counted (length d.table) (length d.arena) (decode d)
          (run_accepted (length d.table) (length d.arena) (decode d) b e)
      go false e = absurd (omega arith)

-- A RUN OF THE PROGRAM
pub ran_as : (n : ℕ) (load store findings : List ℕ) (x : StartResult) (d : Dict) {r : RunNext} {t a s f w : List ℕ}
    → x ≡ start_gives (replicate table_length 0) (replicate arena_length 0) → d ≡ named n x.contents
    → run_left r t a s f w ≡ run_gives d (lent load store findings (replicate work_length 0))
    → Ran (ran n load store findings) r.answer s f
unfolding ran dictionary
ran_as n load store findings x d {r} {t} {a} {s} {f} {w} e₁ e₂ e₃ =
    let e : run_left r t a s f w ≡ run_gives (dictionary n) (lent load store findings (replicate work_length 0)) = e₃
    ∙ ap (λ (y : Dict). run_gives y (lent load store findings (replicate work_length 0)))
    (e₂ ∙ ap (λ (y : StartResult). named n y.contents) e₁) in
    record {
      number = ap (λ (y : RunResult). y.answer.number) e;
      count = ap (λ (y : RunResult). y.answer.count) e;
      counts = ap (λ (y : RunResult). y.answer.counts) e;
      stored = ap (λ (y : RunResult). y.answer.store) e;
      found = ap (λ (y : RunResult). y.answer.findings) e;
    }

-- another value that is the same answer
pub ran_with : {a : AnswerOfRun} {r r' : Result RunAnswer Refusal} {s f : List ℕ} → r ≡ r' → Ran a r s f → Ran a r' s f
ran_with {a} {s = s} {f = f} e h = subst (λ (r : Result RunAnswer Refusal). Ran a r s f) e h

-- in the program's buffers
abbrev run_of : ℕ → List ℕ → AnswerOfRun
run_of n load = ran n load (replicate store_length 0) (replicate findings_length 0)

module _ (n : ℕ) (load : List ℕ) where
  -- a refused run in print
  pub refusal_printed : {e : Refusal} {s f : List ℕ} {k : ℕ} → Ran (run_of n load) (Err e) s f → k ≡ number_of e
      → refusal k ≡ printed_run n load
  unfolding printed_run
  refusal_printed {e} h z =
      ap refusal z ∙ go (number_of e) (numbered e) ∙ ap (λ (k : ℕ). by_number k (run_of n load)) h.number
    where
      go : (k : ℕ) → k ≢ 0 → refusal k ≡ by_number k (run_of n load)
      go zero z = absurd (z refl)
      go (suc k) z = refl

  module _ {r : RunAnswer} {s f : List ℕ} (h : Ran (run_of n load) (Ok r) s f) where
    -- the counts of an accepted run fit into the program's buffers
    run_fits : Counted (run_of n load) triple_limit record_limit
    unfolding ran
    run_fits =
        counted (lent load (replicate store_length 0) (replicate findings_length 0) (replicate work_length 0)) (dictionary n)
        (sym h.number)

    -- so the records can be counted,
    pub run_counted : (length r.counts ≡ 5) × (total r.counts ≤ record_limit)
    run_counted =
        let c = run_fits in
        (ap length h.counts ∙ c.five, subst (λ (k : List ℕ). total k ≤ record_limit) (sym h.counts) c.records_fit)

    -- there is room to print them,
    pub answer_fits : {k : ℕ} {out : List ℕ} → k ≡ total r.counts → length s ≡ store_length → length f ≡ findings_length
        → output_length ≤ length out → AnswerFits s r.count f k out
    answer_fits e x y o =
        let c = run_fits in
        let m : r.count ≤ triple_limit = subst (λ (j : ℕ). j ≤ triple_limit) (sym h.count) c.triples_fit in
        let q = run_counted.1 in
        record { stored = omega arith; found = omega arith; room = omega arith }

    -- and what is printed is the run in print
    pub answer_printed : {k : ℕ} → k ≡ total r.counts → answer s r.count f k ≡ printed_run n load
    unfolding printed_run
    answer_printed e =
        let k = e ∙ ap total h.counts in
        (λ i. answer (h.stored i) (h.count i) (h.found i) (k i)) ∙ ap (λ (j : ℕ). by_number j (run_of n load)) h.number

-- THE OUTPUT, by what was read
pub output_bad : (text : List ℕ) {k : ℕ} → parse text ≡ bad_line k → bad_line_text k ≡ output text
unfolding output
output_bad text e = sym (ap printed e)

pub output_good : (text : List ℕ) {n : ℕ} {ids : List ℕ} → parse text ≡ input n ids → printed_run n ids ≡ output text
unfolding output
output_good text e = sym (ap printed e)

-- the first bytes of an input, as many as the program reads, decide it
pub output_cut : (text : List ℕ) → output (take input_length text) ≡ output text
unfolding output
output_cut text = ap printed (parse_cut text)

-- as many bytes as were read, or all where there is room for more
pub output_read : (room : List ℕ) (n : ℕ) (text : List ℕ) → length room ≡ input_length → take n room ≡ take (length room) text
    → output (take n room) ≡ output text
output_read room n text l e = ap output (e ∙ ap (λ (k : ℕ). take k text) l) ∙ output_cut text

-- other bytes that are the same
pub wrote_as : {old bytes bytes' new : List ℕ} {next : ℕ} → bytes ≡ bytes' → Wrote old 0 bytes new next → Wrote old 0 bytes' new next
wrote_as {old} {new = new} {next = next} e w = subst (λ (b : List ℕ). Wrote old 0 b new next) e w
