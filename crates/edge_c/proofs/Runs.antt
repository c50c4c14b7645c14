-- What a run leaves in buffers of bytes. Assumes nothing.
use Rattle.common.specs.Refusals.{answer_number}
use mathlib.Core.Path.{◌≡◌, refl, sym, ap, ◌∙◌}
use mathlib.Core.Bool.{Bool, true, false}
use mathlib.Core.List.{List}
use Prim.Native.Nat.{ℕ, zero, suc, ◌/◌}
use lib.Dec.{T}
use lib.ListN.{length}
use Rattle.common.specs.Sizes.{store_width, finding_width}
use Rattle.common.specs.Rows.{triples}
use Rattle.common.specs.Triples.{Row, if}
use Rattle.meaning.specs.Run.{Outcome}
use Rattle.meaning.specs.RowsRun.{run_rows}
use Rattle.dictionary_layout.specs.Terms.{Term, run_terms}
use Rattle.dictionary_layout.specs.Layout.{Dict, layout, decode}
use Rattle.dictionary_layout.specs.Dictionary.{AllPut, full, all_put, put_all, valid}
use Rattle.driver_refusals.specs.Lent.{Lent}
use Rattle.driver_refusals.specs.RunRefusals.{first_refusal, run_refusals}
use Rattle.driver_load.specs.Closed.{outcome_answer, containers, closed, closed_answer}
use Rattle.driver_run.specs.Run.{unchanged, AbstractRunResult, run_passed, run_all_put, abstract_run, RunResult, run_laid, run_gives}
use Rattle.driver_run.specs.Values.{run_left}
use Rattle.driver_run.specs.declared.values.RunNext.{RunNext}
use Rattle.driver_step.specs.Step.{kept}
use Rattle.driver_turns.specs.Turns.{AbstractTurnResult, Past7, turn_all_put, turn_passed, abstract_turn, TurnResult, turn_laid}
use Rattle.driver_turns.specs.Turns.{turn_gives}
use Rattle.edge_bytes.specs.Bytes.{changes, left_bytes, cleared}
use Rattle.edge_c.specs.Calls.{read_dict, left_dict, read_lent, run_in_bytes, run_bytes_give, turn_bytes_give}
use Rattle.edge_c.specs.Forwarded.{Roomy}
use Rattle.edge_c.proofs.Forwarding.{Passed}
use Rattle.edge_c.proofs.Tables.{with_table}
use Rattle.edge_c.proofs.Refusals.{Whole}
use Rattle.edge_c.proofs.Answers.{left_answer, outcome_alike, Alike, call_alike, call_rooms}

-- A RUN AS SUCH A CALL: past refusal 7 it closes its load
abbrev run_past : Past7
run_past b ts us = record { answer = record { run = closed_answer b us; done = 0 }; held = us }

abbrev as_run : TurnResult → RunResult
as_run r = record { answer = r.answer.run; contents = r.contents }

module _ (d : Dict) (b : Lent) where
  abbrev tl : ℕ
  tl = length d.table

  abbrev al : ℕ
  al = length d.arena

  abbrev ts : List Term
  ts = decode d

  abbrev run_laid_out : AbstractRunResult → RunResult
  run_laid_out r = record { answer = r.answer; contents = layout tl al r.held }

  abbrev laid_out : AbstractTurnResult → RunResult
  laid_out r = record { answer = r.answer.run; contents = layout tl al r.held }

  -- it gives what such a call gives
  as_call : run_gives d b ≡ as_run (turn_gives run_past d b)
  unfolding run_gives abstract_run turn_gives abstract_turn
  as_call = by_valid (valid d)
    where
      by_room : (x : AllPut) → run_laid_out (run_all_put b ts x) ≡ laid_out (turn_all_put run_past b ts x)
      by_room full = refl
      by_room (all_put us) = refl

      by_refusal : (n : ℕ) → run_laid_out (run_passed n tl al ts b) ≡ laid_out (turn_passed run_past n tl al ts b)
      by_refusal zero = by_room (put_all tl al ts run_terms)
      by_refusal (suc n) = refl

      by_valid : (c : Bool) → if c (λ _. run_laid b tl al ts) (λ _. record { answer = unchanged 1 b; contents = d })
          ≡ as_run (if c (λ _. turn_laid run_past b tl al ts) (λ _. record { answer = kept 1 b; contents = d }))
      by_valid true = by_refusal (first_refusal (run_refusals (length ts) b))
      by_valid false = refl

-- the closing is alike
closed_alike : {b m : Lent} → Whole b m → (ts us : List Term) → Alike b (run_past m ts us) (run_past (read_lent b) ts us)
closed_alike {b} {m} v ts us =
    let p = ap (λ (o : Outcome Row). left_answer b (outcome_answer m o)) same ∙ outcome_alike v (closed (read_lent b) us) in
    record { answers = λ i. record { run = p i; done = 0 }; terms = refl }
  where
    same : closed m us ≡ closed (read_lent b) us
    same =
        λ i. run_rows (containers us) (v.store_same i / store_width) (v.findings_same i / finding_width) (triples (v.load_own i))

-- the dictionary d has a table of bytes, and the buffers b are bytes; the numbers t and m are passed for them
module _ (d : Dict) {b m : Lent} {t : List ℕ} (h : Passed d.table b t m) where
  -- what the code leaves
  abbrev left : RunResult → RunResult
  left r = record { answer = left_answer b r.answer; contents = left_dict r.answer.number d.table r.contents }

  -- it is what the definition gives
  alike : left (run_gives (with_table t d) m) ≡ run_bytes_give d b
  unfolding run_bytes_give turn_bytes_give
  alike =
      ap left (as_call (with_table t d) m)
      ∙ ap as_run (call_alike run_past d h closed_alike)
      ∙ sym (ap (run_in_bytes d.table b) (as_call (read_dict d) (read_lent b)))

  module _ (r : RunNext) (t' a' s' f' w' : List ℕ) (e : run_left r t' a' s' f' w' ≡ run_gives (with_table t d) m) where
    -- where the run changes buffers they have room for the numbers that it left
    pub rooms : length t' ≡ length t → length s' ≡ length m.store → length f' ≡ length m.findings
        → T (changes (answer_number r.answer)) → Roomy t' s' f' d.table b.store b.findings
    rooms i j k c =
        let number = ap (λ (x : RunResult). x.answer.number) (e ∙ as_call (with_table t d) m) in
        call_rooms run_past d h number c i j k

    -- the bytes that the code leaves are those that the definition gives
    pub run_done : {tb' sb' fb' wb' : List ℕ} → tb' ≡ left_bytes (answer_number r.answer) d.table t'
        → sb' ≡ left_bytes (answer_number r.answer) b.store s' → fb' ≡ left_bytes (answer_number r.answer) b.findings f'
        → wb' ≡ cleared (answer_number r.answer) b.work → run_left r tb' a' sb' fb' wb' ≡ run_bytes_give d b
    run_done p q x y = (λ i. run_left r (p i) a' (q i) (x i) (y i)) ∙ (ap left e ∙ alike)
