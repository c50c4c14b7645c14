-- What the calls that are lent a run's buffers leave in buffers of bytes: what a call answers for the numbers that it is passed, written
-- back, is what its definition gives. Assumes nothing.
use mathlib.Core.Path.{◌≡◌, refl, sym, ap, subst, ◌∙◌}
use mathlib.Core.Logic.{⊎_elim}
use mathlib.Core.Bool.{true, false}
use mathlib.Core.List.{List, ◌++◌}
use Prim.Native.Nat.{ℕ, zero, suc, ◌-◌}
use native.Mathlib.Omega.{arith}
use lib.Dec.{T}
use lib.ListN.{length, replicate}
use Rattle.common.specs.Rows.{flat_rows, flat_findings, zeros}
use Rattle.common.specs.Triples.{Row}
use Rattle.meaning.specs.Run.{Outcome, store_full, findings_full, accepted}
use Rattle.dictionary_layout.specs.Terms.{Term, run_terms}
use Rattle.dictionary_layout.specs.Layout.{Dict, layout, decode}
use Rattle.dictionary_layout.specs.Dictionary.{AllPut, full, all_put, put_all, valid}
use Rattle.dictionary_layout.proofs.Choice.{if_yes, if_no, false→not_T, decide_bool}
use Rattle.dictionary_entries.proofs.Reading.{count, lengths}
use Rattle.driver_refusals.specs.Lent.{Lent}
use Rattle.driver_refusals.specs.RunRefusals.{first_refusal, run_refusals}
use Rattle.driver_load.specs.Closed.{AnswerOfRun, five_zeros, outcome_answer}
use Rattle.driver_run.specs.Run.{unchanged}
use Rattle.driver_step.specs.Step.{AnswerOfTurn, kept}
use Rattle.driver_turns.specs.Turns.{AbstractTurnResult, Past7, turn_all_put, turn_passed, abstract_turn, TurnResult, turn_laid}
use Rattle.driver_turns.specs.Turns.{turn_gives}
use Rattle.edge_bytes.specs.Bytes.{read_buffer, changes, left_bytes, cleared}
use Rattle.edge_c.specs.Calls.{read_dict, left_dict, read_lent, answer_in_bytes, turn_in_bytes, turn_bytes_give}
use Rattle.edge_c.specs.Forwarded.{Roomy}
use Rattle.edge_bytes.proofs.Coding.{left_written, left_alone, cleared_yes, cleared_no, bytes_zeros}
use Rattle.edge_c.proofs.Forwarding.{Passed}
use Rattle.edge_c.proofs.Tables.{same_left, quiet_1, with_table, dict_alike, dict_room}
use Rattle.edge_c.proofs.Refusals.{refusals_quiet, same_refusal, Whole, not_refused}

-- which answers change buffers
quiet_7 : false ≡ changes 7
unfolding changes
quiet_7 = refl

pub yes_0 : true ≡ changes 0
unfolding changes
yes_0 = refl

yes_8 : true ≡ changes 8
unfolding changes
yes_8 = refl

yes_9 : true ≡ changes 9
unfolding changes
yes_9 = refl

-- an answer, from its six parts
abbrev answer : ℕ → ℕ → List ℕ → List ℕ → List ℕ → List ℕ → AnswerOfRun
answer n count counts s f w = record { number = n; count = count; counts = counts; store = s; findings = f; work = w }

-- ANSWERS: what the code leaves of one in the buffers b of bytes; it writes no numbers to the list work buffer, but zeros
abbrev pub left_answer : Lent → AnswerOfRun → AnswerOfRun
left_answer b a =
    answer a.number a.count a.counts (left_bytes a.number b.store a.store)
    (left_bytes a.number b.findings a.findings) (cleared a.number b.work)

abbrev pub left_turn : Lent → AnswerOfTurn → AnswerOfTurn
left_turn b a = record { run = left_answer b a.run; done = a.done }

-- and what the definition gives
abbrev pub given_turn : Lent → AnswerOfTurn → AnswerOfTurn
given_turn b a = record { run = answer_in_bytes b a.run; done = a.done }

-- what the code leaves of a call's result, over a table of bytes
abbrev pub left_result : List ℕ → Lent → TurnResult → TurnResult
left_result table b r = record { answer = left_turn b r.answer; contents = left_dict r.answer.run.number table r.contents }

-- the numbers m are passed for the bytes b: the two agree where the call changes no buffer
module _ (b m : Lent) where
  pub refused_alike : (n : ℕ) → false ≡ changes n → left_answer b (unchanged n m) ≡ answer_in_bytes b (unchanged n (read_lent b))
  refused_alike n q =
      λ i. answer n 0 five_zeros (same_left n b.store m.store (read_buffer b.store) q i)
      (same_left n b.findings m.findings (read_buffer b.findings) q i)
      ((sym (cleared_no n b.work q) ∙ left_alone n b.work (read_buffer b.work) q) i)

-- and where it fills them
module _ {b m : Lent} (v : Whole b m) where
  -- zeros in the list work buffer
  pub work_alike : (n : ℕ) → true ≡ changes n → cleared n b.work ≡ left_bytes n b.work (zeros (read_buffer b.work))
  work_alike n q =
      sym (cleared_yes n b.work q refl)
      ∙ (ap (λ (k : ℕ). replicate {A = ℕ} k 0) v.work_whole
      ∙ (sym (bytes_zeros (length (read_buffer b.work))) ∙ left_written n b.work (zeros (read_buffer b.work)) q refl))

  -- a row in front of zeros, in a store and in findings
  pub store_alike : (n : ℕ) (row : List ℕ) → left_bytes n b.store (row ++ replicate (length m.store - length row) 0)
      ≡ left_bytes n b.store (row ++ replicate (length (read_buffer b.store) - length row) 0)
  store_alike n row = ap (λ (k : ℕ). left_bytes n b.store (row ++ replicate (k - length row) 0)) v.store_same

  findings_alike : (n : ℕ) (row : List ℕ) → left_bytes n b.findings (row ++ replicate (length m.findings - length row) 0)
      ≡ left_bytes n b.findings (row ++ replicate (length (read_buffer b.findings) - length row) 0)
  findings_alike n row = ap (λ (k : ℕ). left_bytes n b.findings (row ++ replicate (k - length row) 0)) v.findings_same

  -- the outcome of a closing
  pub outcome_alike : (o : Outcome Row) → left_answer b (outcome_answer m o) ≡ answer_in_bytes b (outcome_answer (read_lent b) o)
  outcome_alike store_full =
      λ i. answer 8 0 five_zeros (left_bytes 8 b.store (replicate (v.store_same i) 0))
      (left_bytes 8 b.findings (replicate (v.findings_same i) 0)) (work_alike 8 yes_8 i)
  outcome_alike findings_full =
      λ i. answer 9 0 five_zeros (left_bytes 9 b.store (replicate (v.store_same i) 0))
      (left_bytes 9 b.findings (replicate (v.findings_same i) 0)) (work_alike 9 yes_9 i)
  outcome_alike (accepted rs fs k ns) =
      let p = store_alike 0 (flat_rows rs) in
      let q = findings_alike 0 (flat_findings fs) in
      λ i. answer 0 k ns (p i) (q i) (work_alike 0 yes_0 i)

-- CALLS, by what they do past refusal 7: x is what one does for the numbers passed, and y for those of the buffers b
pub record Alike (b : Lent) (x y : AbstractTurnResult) : Type 0 where
  pub answers : left_turn b x.answer ≡ given_turn b y.answer
  pub terms : x.held ≡ y.held

-- a call's answer, with the contents that it leaves
abbrev result : AnswerOfTurn → Dict → TurnResult
result a d = record { answer = a; contents = d }

-- what a call computes, with the terms laid out again
abbrev laid_out : Dict → AbstractTurnResult → TurnResult
laid_out d r = result r.answer (layout (length d.table) (length d.arena) r.held)

module _ (f : Past7) where
  -- what a call gives by the first refusal of 2 to 6, and refusal 1
  abbrev passing : Dict → Lent → ℕ → TurnResult
  passing d b n = laid_out d (turn_passed f n (length d.table) (length d.arena) (decode d) b)

  gives : (d : Dict) (b : Lent) → T (valid d) → turn_gives f d b ≡ passing d b (first_refusal (run_refusals d.terms b))
  unfolding turn_gives abstract_turn
  gives d b v =
      if_yes (valid d) (λ _. turn_laid f b (length d.table) (length d.arena) (decode d)) (λ _. result (kept 1 b) d) v
      ∙ ap (λ (n : ℕ). passing d b (first_refusal (run_refusals n b))) (sym (count d v))

  gives_broken : (d : Dict) (b : Lent) → (T (valid d) → ⊥) → turn_gives f d b ≡ result (kept 1 b) d
  unfolding turn_gives
  gives_broken d b z =
      if_no (valid d) (λ _. turn_laid f b (length d.table) (length d.arena) (decode d)) (λ _. result (kept 1 b) d) z

  -- the dictionary d has a table of bytes, and the buffers b are bytes; the numbers t and m are passed for them
  module _ (d : Dict) {b m : Lent} {t : List ℕ} (h : Passed d.table b t m) where
    abbrev passed : Dict
    passed = with_table t d

    abbrev own : Dict
    own = read_dict d

    -- what the code leaves, and what the definition gives
    abbrev left : TurnResult → TurnResult
    left r = left_result d.table b r

    abbrev given : TurnResult → TurnResult
    given r = turn_in_bytes d.table b r

    abbrev refusal : ℕ
    refusal = first_refusal (run_refusals d.terms m)

    -- neither refusals 2 to 6 change a buffer, nor does any other that is answered by `kept`
    refusal_quiet : (n : ℕ) → refusal ≡ suc n → false ≡ changes (suc n)
    refusal_quiet n e = subst (λ (k : ℕ). false ≡ changes k) e (refusals_quiet d.terms m (λ z. omega arith))

    quiet_alike : (n : ℕ) → false ≡ changes n → (x y : Dict) → left_dict n d.table x ≡ left_dict n d.table y
        → left (result (kept n m) x) ≡ given (result (kept n (read_lent b)) y)
    quiet_alike n q x y e = λ i. result (record { run = refused_alike b m n q i; done = 0 }) (e i)

    -- THEY AGREE, where what the call does past refusal 7 is alike
    module _ (g : Whole b m → (ts us : List Term) → Alike b (f m ts us) (f (read_lent b) ts us)) where
      past_alike : {x y : AbstractTurnResult} → Alike b x y → left (laid_out own x) ≡ given (laid_out own y)
      past_alike p =
          λ i. result (p.answers i)
          (left_dict (p.answers i).run.number d.table (layout (length own.table) (length d.arena) (p.terms i)))

      -- by the first refusal of 2 to 6
      passing_alike : (n : ℕ) → refusal ≡ n → left (passing own m n) ≡ given (passing own (read_lent b) n)
      passing_alike zero e = go (put_all (length own.table) (length d.arena) (decode own) run_terms)
        where
          go : (x : AllPut) → left (laid_out own (turn_all_put f m (decode own) x))
              ≡ given (laid_out own (turn_all_put f (read_lent b) (decode own) x))
          go full = let x = layout (length own.table) (length d.arena) (decode own) in quiet_alike 7 quiet_7 x x refl
          go (all_put us) = past_alike (g (not_refused h d.terms e) (decode own) us)
      passing_alike (suc n) e =
          let x = layout (length own.table) (length d.arena) (decode own) in quiet_alike (suc n) (refusal_quiet n e) x x refl

      -- for every dictionary, broken or not
      pub call_alike : left (turn_gives f passed m) ≡ turn_bytes_give f d b
      unfolding turn_bytes_give
      call_alike = ⊎_elim by_numbers (λ p. broken t p.0 p.1) (dict_alike d h.table_read)
        where
          broken : (x : List ℕ) → (T (valid (with_table x d)) → ⊥) → (T (valid own) → ⊥)
              → left (turn_gives f (with_table x d) m) ≡ given (turn_gives f own (read_lent b))
          broken x p q =
              ap left (gives_broken (with_table x d) m p)
              ∙ (quiet_alike 1 quiet_1 (with_table x d) own
              (λ i. with_table (same_left 1 d.table x (read_buffer d.table) quiet_1 i) d)
              ∙ sym (ap given (gives_broken own (read_lent b) q)))

          sound : T (valid own) → left (turn_gives f own m) ≡ given (turn_gives f own (read_lent b))
          sound v =
              ap left (gives own m v)
              ∙ passing_alike refusal refl
              ∙ ap (λ (n : ℕ). given (passing own (read_lent b) n)) (same_refusal h d.terms (lengths own v).few)
              ∙ sym (ap given (gives own (read_lent b) v))

          by_numbers : passed ≡ own → left (turn_gives f passed m) ≡ given (turn_gives f own (read_lent b))
          by_numbers e =
              ap (λ (x : Dict). left (turn_gives f x m)) e
              ∙ ⊎_elim sound (λ z. broken (read_buffer d.table) z z) (decide_bool (valid own))

    -- a call that changes buffers has met none of refusals 1 to 6, so that the buffers have room for the numbers it left
    module _ {n : ℕ} (e : n ≡ (turn_gives f passed m).answer.run.number) (c : T (changes n)) where
      accepted_before : T (valid passed) × (refusal ≡ 0)
      accepted_before =
          ⊎_elim (λ v. go v refusal refl) (λ z. absurd (refused 1 quiet_1 (gives_broken passed m z))) (decide_bool (valid passed))
        where
          refused : (k : ℕ) → false ≡ changes k → {x : Dict} → turn_gives f passed m ≡ result (kept k m) x → ⊥
          refused k q p =
              let same = e ∙ ap (λ (x : TurnResult). x.answer.run.number) p in
              false→not_T (changes k) q (subst (λ (j : ℕ). T (changes j)) same c)

          go : T (valid passed) → (k : ℕ) → refusal ≡ k → T (valid passed) × (refusal ≡ 0)
          go v zero q = (v, q)
          go v (suc k) q = absurd (refused (suc k) (refusal_quiet k q) (gives passed m v ∙ ap (passing passed m) q))

      pub call_rooms : {t' s' f' : List ℕ} → length t' ≡ length t → length s' ≡ length m.store → length f' ≡ length m.findings
          → Roomy t' s' f' d.table b.store b.findings
      call_rooms {t'} i j k =
          let (v, q) = accepted_before in
          let sizes = not_refused h d.terms q in
          record {
            table_room = dict_room d h.table_read t' i v;
            store_room = omega (arith, sizes.store_whole);
            findings_room = omega (arith, sizes.findings_whole);
          }
