-- AN OPENING CALL AND THE PASSES AFTER IT ARE THE RUN, if the list work buffer is long enough for the passes too. Assumes nothing.
use mathlib.Core.Path.{◌≡◌, refl, sym, ap, subst, ◌∙◌}
use mathlib.Core.Bool.{Bool, true, false}
use mathlib.Core.List.{List}
use Prim.Native.Nat.{ℕ, zero, suc, ◌+◌, ◌*◌, ◌/◌, ◌≤◌, ◌<◌}
use native.Mathlib.Omega.{arith}
use lib.Dec.{T, leb, leb→le, eqb}
use lib.ListN.{length}
use Rattle.common.specs.Sizes.{store_width, finding_width, work_width, run_terms_count}
use Rattle.common.specs.Triples.{Triple, triple, Row, here, there, if}
use Rattle.common.specs.Rows.{flat_rows, triples, filled, zeros}
use Rattle.meaning.specs.Containers.{Containers}
use Rattle.meaning.specs.Closure.{closure}
use Rattle.meaning.specs.Start.{start}
use Rattle.meaning.specs.Passes.{marked, closure_rows}
use Rattle.meaning.specs.Run.{Outcome, store_full, findings_full, accepted}
use Rattle.meaning.proofs.Ids.{Each}
use Rattle.meaning.proofs.Depths.{length_rows}
use Rattle.meaning_turns.specs.Turns.{pass_rows, Turn, going, ended, opening, ending, turn, then_turn, passes, turns, store_rows, Lawful}
use Rattle.meaning_turns.specs.Turns.{lawful}
use Rattle.meaning_turns.proofs.Turns.{TurnsEnd, turns_end, Known, rounds_lawful, store_read}
use Rattle.meaning_turns.proofs.Lawful.{lawful←}
use Rattle.dictionary_layout.specs.Terms.{Term, property_term, membership_term, member_term, run_terms}
use Rattle.dictionary_layout.specs.Layout.{Dict, layout, decode}
use Rattle.dictionary_layout.specs.Dictionary.{all_put, put_all, valid}
use Rattle.dictionary_layout.proofs.Choice.{if_yes}
use Rattle.dictionary_layout.proofs.Decoding.{decode_layout}
use Rattle.dictionary_layout.proofs.Holding.{put_all_holds, valid_layout}
use Rattle.dictionary_entries.proofs.Reading.{held, count, lengths}
use Rattle.dictionary_run_terms.specs.Calls.{ids_in, RunTermsResult, run_terms_result, run_terms_laid, run_terms_give}
use Rattle.driver_refusals.specs.Lent.{Lent, lent}
use Rattle.driver_refusals.specs.RunRefusals.{first_refusal, run_refusals}
use Rattle.driver_load.specs.Closed.{store_room, findings_room, outcome_answer, containers, closed, closed_answer}
use Rattle.driver_load.specs.Loads.{Loaded}
use Rattle.driver_run.specs.Run.{RunResult, run_gives}
use Rattle.driver_run.proofs.PuttingAll.{grown_length, put_all_grows, Has, put_all_has, put_all_below}
use Rattle.driver_run.proofs.Running.{Held, run_done, loaded}
use Rattle.driver_step.specs.Step.{AnswerOfTurn, kept, done_by, turn_shown, takes_pass, turned, passed_answer}
use Rattle.driver_turns.specs.Turns.{TurnResult, open_past, open_gives, pass_gives}
use Rattle.driver_turns.specs.Sequence.{then_pass, turns_give, containers_then, done_for, TurnsRun}
use Rattle.driver_turns.proofs.Turning.{result, past_7}
use Rattle.driver_turns.proofs.Again.{pass_again, filled_long, zeros_long, shown_again, unmet_again}

-- OPENING CALL AND PASSES over rows, as meaning_turns has them, with a store of cap triples
module _ (c : Containers) (cap fcap : ℕ) (load : List Triple) where
  -- one pass more is a pass after the others
  passes_more : (n : ℕ) (x : Turn) → passes c cap fcap load (suc n) x ≡ then_turn c cap fcap load (passes c cap fcap load n x)
  passes_more zero x = refl
  passes_more (suc n) x = passes_more n (then_turn c cap fcap load x)

  -- the rows that a call leaves fit the store, if the run goes on:
  abbrev Fit : Turn → Type 0
  Fit (going rows) = length rows ≤ cap
  Fit (ended o) = Unit {0}

  -- those of the opening call,
  opening_fits : Fit (opening c cap load)
  unfolding opening
  opening_fits = go (leb (length begun) cap) (leb→le (length begun) cap)
    where
      begun : List Row
      begun = marked 0 0 (start c load)

      go : (t : Bool) → (T t → length begun ≤ cap) → Fit (if t (λ _. going begun) (λ _. ended store_full))
      go true l = l tt
      go false l = tt

  -- those of a pass,
  turn_fits : (rows : List Row) → Fit (turn c cap fcap load rows)
  unfolding turn
  turn_fits rows = go (leb (length (pass_rows c load rows)) cap) (leb→le (length (pass_rows c load rows)) cap)
    where
      last : (t : Bool) → length (pass_rows c load rows) ≤ cap
          → Fit (if t (λ _. ended (ending cap fcap rows)) (λ _. going (pass_rows c load rows)))
      last true l = tt
      last false l = l

      go : (t : Bool) → (T t → length (pass_rows c load rows) ≤ cap)
          → Fit (if t (λ _. if (eqb (length (pass_rows c load rows)) (length rows)) (λ _. ended (ending cap fcap rows))
          (λ _. going (pass_rows c load rows))) (λ _. ended store_full))
      go true l = last (eqb (length (pass_rows c load rows)) (length rows)) (l tt)
      go false l = tt

  -- and of passes after any call
  then_fits : (x : Turn) → Fit x → Fit (then_turn c cap fcap load x)
  then_fits (going rows) f = turn_fits rows
  then_fits (ended o) f = tt

  passes_fit : (n : ℕ) (x : Turn) → Fit x → Fit (passes c cap fcap load n x)
  passes_fit zero x f = f
  passes_fit (suc n) x f = passes_fit n (then_turn c cap fcap load x) (then_fits x f)

-- the run is done exactly if its outcome is accepted
done_number : (b : Lent) (o : Outcome Row) → done_by o ≡ done_for (outcome_answer b o).number
done_number b store_full = refl
done_number b findings_full = refl
done_number b (accepted N F m k) = refl

module _ (d : Dict) (b : Lent) (v : T (valid d)) (e : 0 ≡ first_refusal (run_refusals d.terms b)) (us : List Term)
    (p : put_all (length d.table) (length d.arena) (decode d) run_terms ≡ all_put us)
    (w : work_width * (length us + run_terms_count) ≤ length b.work) where
  -- what the calls read: the lengths of table and arena, container properties, the room of store and findings, the load
  abbrev tl : ℕ
  tl = length d.table

  abbrev al : ℕ
  al = length d.arena

  abbrev c : Containers
  c = containers us

  abbrev cap : ℕ
  cap = store_room b

  abbrev fcap : ℕ
  fcap = findings_room b

  abbrev load : List Triple
  load = triples b.load

  -- THE DICTIONARY AFTER THE OPENING CALL is not broken and holds us, no fewer terms than before
  abbrev d' : Dict
  d' = layout tl al us

  decoded : decode d' ≡ us
  decoded = decode_layout tl al us

  still_valid : T (valid d')
  still_valid = valid_layout tl al us (put_all_holds tl al (decode d) run_terms us (held d v) p)

  counted : d'.terms ≡ length us
  counted = count d' still_valid ∙ ap (λ (l : List Term). length l) decoded

  more : d.terms ≤ d'.terms
  more = omega (arith, counted, count d v, grown_length (decode d) us (put_all_grows tl al (decode d) run_terms us p))

  -- what the put of the three terms gives
  put_gives : run_terms_give d ≡ run_terms_result 0 (ids_in us) (layout tl al us)
  unfolding run_terms_give
  put_gives = ap (run_terms_laid tl al (decode d)) p

  held_then : Held d b v e (run_terms_give d) refl
  held_then = record { terms = us; puts_all = p; left = put_gives }

  left : (run_terms_give d).contents ≡ d'
  left = ap (λ (r : RunTermsResult). r.contents) put_gives

  -- what the run and the opening call give by it
  run_then : run_gives d b ≡ record { answer = closed_answer b us; contents = d' }
  run_then =
      sym (run_done d b v e (run_terms_give d) refl held_then)
      ∙ (λ i. record { answer = closed_answer b ((ap decode left ∙ decoded) i); contents = left i })

  open_then : open_gives d b ≡ result (turn_shown b (turns c cap fcap load 0)) d'
  open_then = sym (past_7 d b v open_past e p)

  -- what is known of the load and the buffers
  told : Loaded b.load b.store b.work d'.terms
  told = subst (λ (k : Dict). Loaded b.load b.store b.work k.terms) left (loaded d b v e (run_terms_give d) refl held_then)

  -- ids are those of terms held
  known : Known c (length us) load
  unfolding containers run_terms
  known = record {
    vocabulary = omega (arith, counted, (lengths d' still_valid).some);
    loaded = λ s q o i. each s q o (told.known (triple s q o) i);
    property = put_all_below tl al (decode d) run_terms us p property_term (here refl);
    membership = put_all_below tl al (decode d) run_terms us p membership_term (there (here refl));
    member = put_all_below tl al (decode d) run_terms us p member_term (there (there (here refl)));
  }
    where
      each : (s q o : ℕ) → (s < d'.terms) × (q < d'.terms) × (o < d'.terms) → Each (λ i. i < length us) s q o
      each s q o h = subst (λ (n : ℕ). (s < n) × (q < n) × (o < n)) counted h

  -- A PASS after a call that left the rows of i rounds
  module _ (i : ℕ) (fits : length (closure_rows c i load) ≤ cap) where
    abbrev rows : List Row
    rows = closure_rows c i load

    abbrev s : List ℕ
    s = filled b.store (flat_rows rows)

    abbrev b' : Lent
    b' = lent b.load s (zeros b.findings) (zeros b.work)

    -- the store keeps its length,
    hs : length s ≡ length b.store
    hs = filled_long b.store rows (omega arith)

    -- can take a pass, and holds those rows
    words : Lawful c (length us) load rows
    words = rounds_lawful c (length us) load known i (omega (arith, length_rows c load i, told.few))

    read : store_rows s ≡ rows
    read = store_read c (length us) load b.store rows words

    takes : T (takes_pass b' us)
    takes = subst (λ (r : List Row). T (lawful c (length us) load r)) (sym read) (lawful← c (length us) load rows words)

    -- so the pass is that of the rows,
    answer : passed_answer b' us ≡ turn_shown b (turn c cap fcap load rows)
    answer =
        let hf = zeros_long b.findings in
        if_yes (takes_pass b' us) (λ _. turn_shown b' (turned b' us)) (λ _. kept 4 b') takes
        ∙ (shown_again b s (zeros b.findings) (zeros b.work) hs hf (zeros_long b.work) (turned b' us)
        ∙ (λ j. turn_shown b (turn c (hs j / store_width) (hf j / finding_width) load (read j))))

    -- none of refusals 2 to 6 is met,
    unmet : 0 ≡ first_refusal (run_refusals d'.terms b')
    unmet =
        unmet_again b s (zeros b.findings) (zeros b.work) hs (zeros_long b.findings) (zeros_long b.work) e more
        (omega (arith, counted))

    -- and the dictionary stays
    pass_then : pass_gives d' b' ≡ result (turn_shown b (turn c cap fcap load rows)) d'
    pass_then =
        pass_again d' b' still_valid unmet
        (λ t j. subst (λ (l : List Term). Has l t) (sym decoded) (put_all_has tl al (decode d) run_terms us p t j))
        ∙ (λ j. result (passed_answer b' (decoded j)) d')
        ∙ ap (λ (a : AnswerOfTurn). result a d') answer

  -- EACH CALL of the sequence shows what the call over rows leaves
  module _ (t : TurnsEnd c cap fcap load) where
    fits_at : (i : ℕ) → i < t.count → length (closure_rows c i load) ≤ cap
    fits_at i l =
        subst (Fit c cap fcap load) (t.before i l) (passes_fit c cap fcap load i (opening c cap load) (opening_fits c cap fcap load))

    each_call : (i : ℕ) → i ≤ t.count → turns_give d b i ≡ result (turn_shown b (turns c cap fcap load i)) d'
    each_call zero l = open_then
    each_call (suc i) l =
        let m : i < t.count = omega arith in
        ap (then_pass b) (each_call i (omega arith) ∙ ap (λ (y : Turn). result (turn_shown b y) d') (t.before i m))
        ∙ (pass_then i (fits_at i m)
        ∙ ap (λ (y : Turn). result (turn_shown b y) d')
        (sym (passes_more c cap fcap load i (opening c cap load) ∙ ap (then_turn c cap fcap load) (t.before i m))))

    -- the container properties are those of the run
    same : containers_then d b ≡ c
    same = ap (λ (r : TurnResult). containers (decode r.contents)) open_then ∙ ap containers decoded

    -- the sequence is the run
    run_by : TurnsRun d b
    run_by = record {
      count = t.count;
      within = subst (λ (k : Containers). t.count + length (start k load) ≤ suc (length (closure k (suc cap) load))) (sym same)
          t.within;
      before = λ i l. each_call i (omega arith)
          ∙ (ap (λ (y : Turn). result (turn_shown b y) d') (t.before i l)
          ∙ (λ j. result (turn_shown b (going (closure_rows (sym same j) i load))) (sym run_then j).contents));
      end = each_call t.count (omega arith)
          ∙ (ap (λ (y : Turn). result (turn_shown b y) d') t.end
          ∙ (ap (λ (n : ℕ). result (record { run = closed_answer b us; done = n }) d') (done_number b (closed b us))
          ∙ ap (λ (r : RunResult). result (record { run = r.answer; done = done_for r.answer.number }) r.contents)
          (sym run_then)));
    }

-- THE THEOREM: past refusal 7, with a list work buffer for the terms held then and three more
pub turns_run : (d : Dict) (b : Lent) → T (valid d) → first_refusal (run_refusals d.terms b) ≡ 0 → (us : List Term)
    → put_all (length d.table) (length d.arena) (decode d) run_terms ≡ all_put us
    → work_width * (length us + run_terms_count) ≤ length b.work
    → TurnsRun d b
turns_run d b v e us p w =
    run_by d b v (sym e) us p w (turns_end (containers us) (store_room b) (findings_room b) (triples b.load))
