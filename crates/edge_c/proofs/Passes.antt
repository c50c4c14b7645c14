-- What an opening call and a pass leave in buffers of bytes. Assumes nothing.
use Rattle.common.specs.Refusals.{answer_number}
use mathlib.Core.Path.{◌≡◌, refl, sym, ap, subst, ◌∙◌}
use mathlib.Core.Bool.{Bool, true, false, cond}
use mir.Val.{bool_byte}
use mathlib.Core.List.{List}
use Prim.Native.Nat.{ℕ, ◌/◌}
use native.Mathlib.Omega.{arith}
use lib.Dec.{T}
use lib.ListN.{length, replicate}
use Rattle.common.specs.Sizes.{store_width, finding_width}
use Rattle.common.specs.Rows.{flat_rows, triples}
use Rattle.common.specs.Triples.{if}
use Rattle.meaning_turns.specs.Turns.{Turn, going, ended, opening, turn, store_rows, lawful}
use Rattle.dictionary_layout.specs.Terms.{Term}
use Rattle.dictionary_layout.specs.Layout.{Dict}
use Rattle.driver_refusals.specs.Lent.{Lent}
use Rattle.driver_step.specs.Values.{run_part}
use Rattle.driver_load.specs.Closed.{five_zeros, store_room, containers}
use Rattle.driver_step.specs.Step.{kept, done_by, turn_shown, takes_pass, turned}
use Rattle.driver_turns.specs.Turns.{AbstractTurnResult, open_past, pass_past, past, TurnResult, turn_gives}
use Rattle.driver_turns.specs.Values.{turn_left}
use Rattle.driver_turns.specs.declared.values.TurnNext.{TurnNext}
use Rattle.edge_bytes.specs.Bytes.{read_buffer, changes, left_bytes, cleared}
use Rattle.edge_c.specs.Calls.{read_lent, turn_bytes_give}
use Rattle.edge_c.specs.Forwarded.{Roomy}
use Rattle.edge_c.proofs.Forwarding.{read_whole, ReadStore, Passed}
use Rattle.edge_c.proofs.Tables.{with_table}
use Rattle.edge_c.proofs.Refusals.{Whole}
use Rattle.edge_c.proofs.Answers.{yes_0, left_turn, given_turn, refused_alike, work_alike, store_alike, outcome_alike, Alike}
use Rattle.edge_c.proofs.Answers.{left_result, call_alike, call_rooms}

-- refusal 4 changes no buffer
quiet_4 : false ≡ changes 4
unfolding changes
quiet_4 = refl

-- WHAT THE TWO DO past refusal 7, where every buffer is passed on whole
module _ {b m : Lent} (v : Whole b m) where
  -- what a turn shows
  shown_alike : (x : Turn) → left_turn b (turn_shown m x) ≡ given_turn b (turn_shown (read_lent b) x)
  shown_alike (going rows) =
      λ i. record {
        run = record {
          number = 0;
          count = length rows;
          counts = five_zeros;
          store = store_alike v 0 (flat_rows rows) i;
          findings = left_bytes 0 b.findings (replicate (v.findings_same i) 0);
          work = work_alike v 0 yes_0 i;
        };
        done = 0;
      }
  shown_alike (ended o) = λ i. record { run = outcome_alike v o i; done = done_by o }

  module _ (ts us : List Term) where
    -- an opening call: of the store only the length counts
    open_alike : Alike b (open_past m ts us) (open_past (read_lent b) ts us)
    open_alike = record { answers = ap (λ (x : Turn). left_turn b (turn_shown m x)) same ∙ shown_alike opened; terms = refl }
      where
        opened : Turn
        opened = opening (containers us) (store_room (read_lent b)) (triples (read_buffer b.load))

        same : opening (containers us) (store_room m) (triples m.load) ≡ opened
        same = λ i. opening (containers us) (v.store_same i / store_width) (triples (v.load_own i))

    -- what a pass does, by whether the store can take it, and by what it leaves then
    abbrev pass_by : Lent → Bool → Turn → AbstractTurnResult
    pass_by x c y = record { answer = if c (λ _. turn_shown x y) (λ _. kept 4 x); held = if c (λ _. us) (λ _. ts) }

    pass_by_alike : (c : Bool) (y : Turn) → Alike b (pass_by m c y) (pass_by (read_lent b) c y)
    pass_by_alike true y = record { answers = shown_alike y; terms = refl }
    pass_by_alike false y = record { answers = λ i. record { run = refused_alike b m 4 quiet_4 i; done = 0 }; terms = refl }

    -- a pass, which reads the store
    pass_alike : m.store ≡ read_buffer b.store → Alike b (pass_past m ts us) (pass_past (read_lent b) ts us)
    pass_alike e =
        subst (λ (x : AbstractTurnResult). Alike b x (pass_past (read_lent b) ts us)) (sym same)
        (pass_by_alike (takes_pass (read_lent b) us) (turned (read_lent b) us))
      where
        same : pass_past m ts us ≡ pass_by m (takes_pass (read_lent b) us) (turned (read_lent b) us)
        same =
            λ i. pass_by m (lawful (containers us) (length us) (triples (v.load_own i)) (store_rows (e i)))
            (turn (containers us) (length (e i) / store_width) (v.findings_same i / finding_width) (triples (v.load_own i))
            (store_rows (e i)))

-- the numbers of a store that is passed on whole are its own
store_own : {b m : Lent} → ReadStore b.store m.store → Whole b m → m.store ≡ read_buffer b.store
store_own {b} h v = h.numbers v.store_whole ∙ sym (read_whole b.store (omega (arith, v.store_whole)))

-- both by one name
past_alike : (p : Bool) {b m : Lent} → ReadStore b.store m.store → Whole b m → (ts us : List Term)
    → Alike b (past p m ts us) (past p (read_lent b) ts us)
past_alike true h v ts us = pass_alike v ts us (store_own h v)
past_alike false h v ts us = open_alike v ts us

-- the call that a flag p chooses, where p is q
pub by_flag : (d : Dict) (b : Lent) {p q : Bool} {x : TurnResult} → p ≡ q → x ≡ turn_gives (past q) d b → x ≡ turn_gives (past p) d b
by_flag d b e h = h ∙ ap (λ (c : Bool). turn_gives (past c) d b) (sym e)

-- whether a run is done, as a number
pub done_byte : (b : Bool) → bool_byte b ≡ cond b 1 0
done_byte true = refl
done_byte false = refl

-- THE CALLS, p saying which: the dictionary d has a table of bytes, and the buffers b are bytes; the numbers t and m are passed for them
module _ (p : Bool) (d : Dict) {b m : Lent} {t : List ℕ} (h : Passed d.table b t m) (s : ReadStore b.store m.store)
    (r : TurnNext) (t' a' s' f' w' : List ℕ) (e : turn_left r t' a' s' f' w' ≡ turn_gives (past p) (with_table t d) m) where
  -- where the call changes buffers they have room for the numbers that it left
  pub turn_rooms : length t' ≡ length t → length s' ≡ length m.store → length f' ≡ length m.findings
      → T (changes (answer_number (run_part r.answer))) → Roomy t' s' f' d.table b.store b.findings
  turn_rooms i j k c = call_rooms (past p) d h (ap (λ (x : TurnResult). x.answer.run.number) e) c i j k

  -- the bytes that the code leaves are those that the definition gives
  pub turn_done : {tb' sb' fb' wb' : List ℕ} → tb' ≡ left_bytes (answer_number (run_part r.answer)) d.table t'
      → sb' ≡ left_bytes (answer_number (run_part r.answer)) b.store s'
      → fb' ≡ left_bytes (answer_number (run_part r.answer)) b.findings f'
      → wb' ≡ cleared (answer_number (run_part r.answer)) b.work → turn_left r tb' a' sb' fb' wb' ≡ turn_bytes_give (past p) d b
  turn_done q x y z =
      (λ i. turn_left r (q i) a' (x i) (y i) (z i))
      ∙ (ap (left_result d.table b) e ∙ call_alike (past p) d h (past_alike p s))
