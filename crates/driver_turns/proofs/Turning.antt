-- From the steps of an opening call or a pass to what its definition gives. Assumes nothing.
use Rattle.std.specs.Prelude.{Result, Ok, Err}
use Rattle.common.specs.declared.refusal.Refusal.{Refusal}
use Rattle.common.specs.Refusals.{answer_number}
use Rattle.driver_step.specs.declared.values.TurnAnswer.{TurnAnswer}
use Rattle.driver_step.specs.Values.{run_part}
use mathlib.Core.Path.{◌≡◌, refl, sym, ap, subst, ◌∙◌}
use mathlib.Core.Logic.{◌⊎◌, inl, inr, ◌≢◌}
use mathlib.Core.Bool.{Bool, true, false}
use mathlib.Core.List.{List}
use Prim.Native.Nat.{ℕ, zero, suc, ◌%◌, ◌≤◌}
use native.Mathlib.Omega.{arith}
use lib.Dec.{T, eqb, eqb→eq}
use lib.ListN.{length, take}
use lib.Seq.{take_at}
use Rattle.common.specs.Sizes.{store_width}
use Rattle.common.specs.Triples.{if}
use Rattle.meaning.specs.Run.{store_full, findings_full, accepted}
use Rattle.meaning_turns.specs.Turns.{Turn, going, ended}
use Rattle.engine_checks.specs.Findings.{Buffer}
use Rattle.dictionary_layout.specs.Terms.{Term, start_count, run_terms}
use Rattle.dictionary_layout.specs.Layout.{Dict, layout, decode}
use Rattle.dictionary_layout.specs.Dictionary.{AllPut, full, all_put, put_all, valid}
use Rattle.dictionary_layout.proofs.Choice.{if_yes, if_no, decide_bool}
use Rattle.dictionary_layout.proofs.Decoding.{decode_layout, layout_table, layout_arena}
use Rattle.dictionary_layout.proofs.Holding.{Holds, holds_fits, put_all_holds, valid→, valid_layout}
use Rattle.dictionary_entries.proofs.Reading.{held, count, lengths}
use Rattle.dictionary_layout.specs.Values.{contents}
use Rattle.dictionary_run_terms.specs.declared.values.RunTerms.{RunTerms}
use Rattle.dictionary_run_terms.specs.Calls.{RunTermsResult, run_terms_laid, run_terms_give, run_terms_result}
use Rattle.dictionary_puts.specs.Indexed.{retracted}
use Rattle.driver_refusals.specs.Lent.{Lent}
use Rattle.driver_refusals.specs.RunRefusals.{first_refusal, run_refusals}
use Rattle.driver_refusals.proofs.Refusing.{unmet_all, not_not}
use Rattle.driver_load.specs.Loads.{Termed, Loaded}
use Rattle.driver_run.proofs.PuttingAll.{Grown, grown_length, put_all_grows}
use Rattle.driver_run.proofs.Running.{Held, held_then, termed, loaded, buffer}
use Rattle.driver_step.specs.Step.{AnswerOfTurn, kept, turn_shown, opened_answer, takes_pass, turned, passed_answer}
use Rattle.driver_turns.specs.Admission.{not_admitted, admitted, admission}
use Rattle.driver_turns.specs.Turns.{AbstractTurnResult, Past7, open_past, pass_past, turn_all_put, turn_passed, abstract_turn}
use Rattle.driver_turns.specs.Turns.{TurnResult, turn_laid, turn_gives, open_gives, pass_gives}

-- the number of a call's answer is that of its run
pub part_number : (r : Result TurnAnswer Refusal) → answer_number r ≡ answer_number (run_part r)
part_number (Ok r) = refl
part_number (Err e) = refl

-- a call's answer with the contents that it leaves
abbrev pub result : AnswerOfTurn → Dict → TurnResult
result a d = record { answer = a; contents = d }

module _ (d : Dict) (b : Lent) where
  -- what the definitions read: the lengths of table and arena, the terms held, and the first refusal of 2 to 6
  abbrev tl : ℕ
  tl = length d.table

  abbrev al : ℕ
  al = length d.arena

  abbrev ts : List Term
  ts = decode d

  abbrev refusal : ℕ
  refusal = first_refusal (run_refusals d.terms b)

  -- a call's answer with the terms held afterwards laid out
  abbrev pub laid_out : AbstractTurnResult → TurnResult
  laid_out r = result r.answer (layout tl al r.held)

  -- WHAT AN ADMISSION GIVES: refusal 1,
  pub admission_broken : (T (valid d) → ⊥) → not_admitted 1 d ≡ admission d b
  unfolding admission
  admission_broken n = sym (if_no (valid d) (λ _. admitted refusal d) (λ _. not_admitted 1 d) n)

  module _ (v : T (valid d)) where
    -- the rest goes by the first refusal:
    by_refusal : {n : ℕ} → n ≡ refusal → admitted n d ≡ admission d b
    unfolding admission
    by_refusal {n} e =
        ap (λ (m : ℕ). admitted m d) e ∙ sym (if_yes (valid d) (λ _. admitted refusal d) (λ _. not_admitted 1 d) v)

    -- 2 to 6,
    pub admission_refused : {n : ℕ} → n ≡ refusal → n ≢ 0 → not_admitted n d ≡ admission d b
    admission_refused {n} e z = go n z ∙ by_refusal e
      where
        go : (n : ℕ) → n ≢ 0 → not_admitted n d ≡ admitted n d
        go zero z = absurd (z refl)
        go (suc n) z = refl

    -- or what the put of the three terms gives
    pub admission_put : 0 ≡ refusal → run_terms_give d ≡ admission d b
    admission_put e = by_refusal e

    -- what the terms held say of a call
    gives : (f : Past7) {n : ℕ} → n ≡ refusal → laid_out (turn_passed f n tl al ts b) ≡ turn_gives f d b
    unfolding turn_gives abstract_turn
    gives f {n} e =
        ap (λ (m : ℕ). laid_out (turn_passed f m tl al ts b)) e
        ∙ ap (λ (m : ℕ). laid_out (turn_passed f (first_refusal (run_refusals m b)) tl al ts b)) (count d v)
        ∙ sym (if_yes (valid d) (λ _. turn_laid f b tl al ts) (λ _. result (kept 1 b) d) v)

    -- past refusal 7
    pub past_7 : (f : Past7) → 0 ≡ refusal → {us : List Term} → put_all tl al ts run_terms ≡ all_put us
        → laid_out (f b ts us) ≡ turn_gives f d b
    past_7 f e q = ap (λ (w : AllPut). laid_out (turn_all_put f b ts w)) (sym q) ∙ gives f e

    -- the contents are those that the terms held have
    laid : layout tl al ts ≡ d
    laid = (valid→ d v).1

  -- an admission that is refused changes nothing, and its number is that of the call, whatever the call does past refusal 7
  abbrev pub Refuses : Past7 → RunTermsResult → Type 0
  Refuses f x = (x.contents ≡ d) × (result (kept x.number b) d ≡ turn_gives f d b)

  -- refusal 1
  broken : (f : Past7) → (T (valid d) → ⊥) → Refuses f (not_admitted 1 d)
  unfolding turn_gives
  broken f n = (refl, sym (if_no (valid d) (λ _. turn_laid f b tl al ts) (λ _. result (kept 1 b) d) n))

  -- one that is not: no refusal is met, and the three terms are put
  pub record Admits (x : RunTermsResult) : Type 0 where
    pub sound : T (valid d)
    pub unmet : 0 ≡ first_refusal (run_refusals d.terms b)
    pub put : x ≡ run_terms_give d
    pub held_after : Held d b sound unmet x put

  module _ (x : RunTermsResult) (a : x ≡ admission d b) where
    -- AN ADMISSION IS REFUSED, so is the call
    pub turn_refused : (f : Past7) → x.number ≢ 0 → Refuses f x
    unfolding run_terms_give
    turn_refused f z = go (decide_bool (valid d))
      where
        all : (v : T (valid d)) → 0 ≡ refusal → (w : AllPut) → put_all tl al ts run_terms ≡ w → x ≡ run_terms_laid tl al ts w → Refuses f x
        all v e full q h =
            subst (Refuses f) (sym h)
            (laid v, ap (result (kept 7 b)) (sym (laid v)) ∙ ap (λ (w : AllPut). laid_out (turn_all_put f b ts w)) (sym q) ∙ gives v f e)
        all v e (all_put us) q h = absurd (z (ap (λ (r : RunTermsResult). r.number) h))

        each : (v : T (valid d)) (n : ℕ) → n ≡ refusal → Refuses f x
        each v zero e = all v e (put_all tl al ts run_terms) refl (a ∙ sym (admission_put v e))
        each v (suc n) e =
            subst (Refuses f) (by_refusal v e ∙ sym a)
            (refl, ap (result (kept (suc n) b)) (sym (laid v)) ∙ gives v f e)

        go : T (valid d) ⊎ (T (valid d) → ⊥) → Refuses f x
        go (inl v) = each v refusal refl
        go (inr n) = subst (Refuses f) (admission_broken n ∙ sym a) (broken f n)

    -- else the call is past refusal 7
    pub turn_admitted : x.number ≡ 0 → Admits x
    turn_admitted z = go (decide_bool (valid d))
      where
        number_of : {y : RunTermsResult} → y ≡ admission d b → y.number ≡ 0
        number_of e = ap (λ (r : RunTermsResult). r.number) (e ∙ sym a) ∙ z

        each : (v : T (valid d)) (n : ℕ) → n ≡ refusal → Admits x
        each v zero e =
            let g = a ∙ sym (admission_put v e) in
            record { sound = v; unmet = e; put = g; held_after = held_then d b v e x g z }
        each v (suc n) e = absurd (omega (arith, number_of (by_refusal v e)))

        go : T (valid d) ⊎ (T (valid d) → ⊥) → Admits x
        go (inl v) = each v refusal refl
        go (inr n) = absurd (omega (arith, number_of (admission_broken n)))

  module _ (x : RunTermsResult) (A : Admits x) where
    -- the terms held then, and the contents that they have
    abbrev us : List Term
    us = A.held_after.terms

    left : x.contents ≡ layout tl al us
    left = ap (λ (r : RunTermsResult). r.contents) A.held_after.left

    decoded : decode x.contents ≡ us
    decoded = ap decode left ∙ decode_layout tl al us

    -- WHAT THE STEP IS TOLD of the dictionary, and of load and buffers
    pub turn_termed : (r : RunTerms) {table arena : List ℕ} → run_terms_result 0 r.ids (contents table arena r.counters) ≡ x
        → Termed table arena r
    turn_termed r {table} {arena} q = termed d b A.sound A.unmet x A.put A.held_after r q

    pub turn_loaded : Loaded b.load b.store b.work x.contents.terms
    turn_loaded = loaded d b A.sound A.unmet x A.put A.held_after

    pub turn_buffer : Buffer b.findings
    turn_buffer = buffer d b A.sound A.unmet x A.put A.held_after

    pub turn_whole : length b.store % store_width ≡ 0
    turn_whole =
        let u = unmet_all (run_refusals d.terms b) tt (sym A.unmet) in
        eqb→eq (length b.store % store_width) 0 (not_not (eqb (length b.store % store_width) 0) u.1.1.0)

    -- what the call gives
    given : (f : Past7) → laid_out (f b ts us) ≡ turn_gives f d b
    given f = past_7 A.sound f A.unmet A.held_after.puts_all

    -- AN OPENING CALL
    pub open_done : result (opened_answer b (decode x.contents)) x.contents ≡ open_gives d b
    open_done = (λ i. result (opened_answer b (decoded i)) (left i)) ∙ given open_past

    -- A PASS. The dictionary with the three terms is not broken, and holds them behind those that it held
    us_hold : Holds tl al us
    us_hold = put_all_holds tl al ts run_terms us (held d A.sound) A.held_after.puts_all

    still_valid : T (valid x.contents)
    still_valid = subst (λ (c : Dict). T (valid c)) (sym left) (valid_layout tl al us us_hold)

    grown : Grown ts us
    grown = put_all_grows tl al ts run_terms us A.held_after.puts_all

    -- what may be taken back of it,
    pub retractable : T (valid x.contents) × (start_count ≤ d.terms) × (d.terms ≤ x.contents.terms)
    retractable = (
      still_valid,
      (lengths d A.sound).some,
      omega (
        arith,
        count d A.sound,
        count x.contents still_valid,
        ap (λ (l : List Term). length l) decoded,
        grown_length ts us grown,
      ),
    )

    -- and what is left then: the dictionary as it was
    taken_back : retracted x.contents d.terms ≡ d
    taken_back =
        let (f, g) = holds_fits tl al us us_hold in
        let h = ap (λ (c : Dict). length c.table) left ∙ layout_table tl al us f in
        let k = ap (λ (c : Dict). length c.arena) left ∙ layout_arena tl al us g in
        let first = ap (take d.terms) (decoded ∙ grown.1) ∙ take_at ts grown.0 d.terms (sym (count d A.sound)) in
        (λ i. layout (h i) (k i) (first i)) ∙ laid A.sound

    -- what the pass answers
    abbrev passed : AnswerOfTurn
    passed = passed_answer b (decode x.contents)

    -- what the pass gives, by whether the store can take it
    by_takes : {c : Dict} → (if (takes_pass b us) (λ _. x.contents) (λ _. d) ≡ c) → result passed c ≡ pass_gives d b
    by_takes {c} e = (λ i. result (passed_answer b (decoded i)) (sym e i)) ∙ go (takes_pass b us) ∙ given pass_past
      where
        go : (t : Bool) → result (passed_answer b us) (if t (λ _. x.contents) (λ _. d))
            ≡ result (passed_answer b us) (layout tl al (if t (λ _. us) (λ _. ts)))
        go true = ap (result (passed_answer b us)) left
        go false = ap (result (passed_answer b us)) (sym (laid A.sound))

    -- its number tells that: no pass that is made has the number 4
    shown_number : (y : Turn) → (turn_shown b y).run.number ≢ 4
    shown_number (going rows) e = absurd (omega arith)
    shown_number (ended store_full) e = absurd (omega arith)
    shown_number (ended findings_full) e = absurd (omega arith)
    shown_number (ended (accepted N F m l)) e = absurd (omega arith)

    -- so a pass that has another number leaves the three terms,
    pub pass_made : passed.run.number ≢ 4 → result passed x.contents ≡ pass_gives d b
    pass_made n = by_takes (go (takes_pass b us) (subst (λ (ws : List Term). (passed_answer b ws).run.number ≢ 4) decoded n))
      where
        go : (t : Bool) → (if t (λ _. turn_shown b (turned b us)) (λ _. kept 4 b)).run.number ≢ 4
            → if t (λ _. x.contents) (λ _. d) ≡ x.contents
        go true n = refl
        go false n = absurd (n refl)

    -- and one that has it leaves the dictionary as it was
    pub pass_refused : passed.run.number ≡ 4 → {c : Dict} → c ≡ retracted x.contents d.terms → result passed c ≡ pass_gives d b
    pass_refused e {c} q =
        by_takes (go (takes_pass b us) (subst (λ (ws : List Term). (passed_answer b ws).run.number ≡ 4) decoded e) ∙ sym (q ∙ taken_back))
      where
        go : (t : Bool) → (if t (λ _. turn_shown b (turned b us)) (λ _. kept 4 b)).run.number ≡ 4
            → if t (λ _. x.contents) (λ _. d) ≡ d
        go true e = absurd (shown_number (turned b us) e)
        go false e = refl
