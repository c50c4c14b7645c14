-- What calls give over bytes is what is computed from the terms, call by call and over a whole list. Assumes nothing.
use mathlib.Core.Path.{◌≡◌, refl, sym, ◌∙◌, ap}
use mathlib.Core.Logic.{◌⊎◌, inl, inr}
use mathlib.Core.Bool.{Bool, true, false}
use mathlib.Core.List.{List, [], ◌∷◌}
use Prim.Native.Nat.{ℕ, zero, suc, ◌/◌, ◌%◌, ◌<◌}
use native.Mathlib.Omega.{arith}
use lib.Dec.{T, ltb, eqb, ltb→lt}
use lib.ListN.{length, take}
use borrow.Author.Tests.{eqb-true, eqb-false}
use Rattle.common.specs.Sizes.{load_width}
use Rattle.common.specs.Triples.{Row, if}
use Rattle.meaning.specs.Run.{Outcome, store_full, findings_full, accepted}
use Rattle.meaning_turns.specs.Turns.{Turn, going, ended}
use Rattle.dictionary_layout.specs.Terms.{Term, start_terms, run_terms}
use Rattle.dictionary_layout.specs.Layout.{Dict, dict, chain, size, layout}
use Rattle.dictionary_layout.specs.Dictionary.{PutAnswer, abstract_put, AllPut, full, all_put, put_all, LookupAnswer, lookup_answer}
use Rattle.dictionary_layout.specs.Dictionary.{term_of, abstract_lookup}
use Rattle.dictionary_layout.specs.Calls.{start_gives, PutResult, put_result, put_laid, put_gives, lookup_gives}
use Rattle.dictionary_layout.proofs.Chains.{prev, table_entry}
use Rattle.dictionary_layout.proofs.Holding.{Added, put_cases, Holds, sized→}
use Rattle.dictionary_layout.proofs.Reachable.{on_layout, start_holds, start_leaves}
use Rattle.dictionary_entries.specs.Entries.{start_of}
use Rattle.dictionary_entries.proofs.Reading.{entry_is}
use Rattle.driver_refusals.specs.Lent.{Lent}
use Rattle.driver_load.specs.Closed.{outcome_answer, closed}
use Rattle.driver_run.specs.Run.{unchanged, run_all_put, run_passed, AbstractRunResult, abstract_run, RunResult, run_laid, run_gives}
use Rattle.driver_refusals.specs.RunRefusals.{first_refusal, run_refusals}
use Rattle.driver_step.specs.Step.{kept, turn_shown}
use Rattle.driver_turns.specs.Turns.{Past7, open_past, pass_past, abstract_turn, TurnResult, turn_laid, turn_gives}
use Rattle.ntriples.specs.Reading as reading
use Rattle.ntriples.specs.Reading.{refused, read, read_file, read_answer, AbstractReadResult, shown, abstract_read, ReadResult}
use Rattle.ntriples.specs.Reading.{read_laid, read_gives}
use Rattle.ntriples_canonical.specs.Calls.{WriteAnswer, write_answer, abstract_write, write_gives}
use Rattle.driver_calls.specs.Calls.{Call, put, lookup, run_on, open_on, pass_on, read_in, write_in, abstract_call, terms_after}
use Rattle.driver_calls.proofs.Turns.{Shows, open_shows, pass_shows, turn_cases}
use Rattle.driver_calls.proofs.Abstraction.{abstract_holds}
use Rattle.edge_bytes.specs.Bytes.{bytes_of, read_buffer, changes, left_bytes}
use Rattle.edge_bytes.proofs.Coding.{changes_0, left_written}
use Rattle.edge_c.specs.Calls.{left_dict, start_bytes_give, put_in_bytes, put_bytes_give, PlaceAnswer, place_at, place_gives}
use Rattle.edge_c.specs.Calls.{read_lent, run_in_bytes, run_bytes_give, turn_in_bytes, turn_bytes_give, read_in_bytes, read_bytes_give}
use Rattle.edge_c.specs.Calls.{write_bytes_give}
use Rattle.edge_c.proofs.Forwarding.{length_numbers, read_whole, read_ragged}
use Rattle.edge_byte_calls.specs.ByteCalls.{ByteOut, put_out, place_out, run_out, turn_out, read_out, write_out, ByteLeft}
use Rattle.edge_byte_calls.specs.ByteCalls.{byte_call_gives, byte_event, ByteListLeft, byte_calls_give, read_call, abstract_place}
use Rattle.edge_byte_calls.specs.ByteCalls.{turn_answer_in_bytes, abstract_out, byte_events_of, dict_in_bytes, byte_abstract_from}
use Rattle.edge_byte_calls.proofs.Fitting.{read_back}

-- the terms held before and after a call that answered n: a call that changes no buffer puts no term
abbrev Kept : List Term → ℕ → List Term → Type 0
Kept ts n us = (us ≡ ts) ⊎ (true ≡ changes n)

put_kept : (tl al : ℕ) (ts : List Term) (t : Term) → let p = abstract_put tl al ts t in Kept ts p.number p.held
put_kept tl al ts t = go (put_cases tl al ts t)
  where
    p : PutAnswer
    p = abstract_put tl al ts t

    go : (p.held ≡ ts) ⊎ Added tl al ts t p → Kept ts p.number p.held
    go (inl e) = inl e
    go (inr a) = inr (changes_0 p.number a.accepted)

run_kept : (tl al : ℕ) (ts : List Term) (b : Lent) → let r = abstract_run tl al ts b in Kept ts r.answer.number r.held
unfolding abstract_run changes
run_kept tl al ts b = go (first_refusal (run_refusals (length ts) b))
  where
    kept : AbstractRunResult → Type 0
    kept r = Kept ts r.answer.number r.held

    judged : (o : Outcome Row) → true ≡ changes (outcome_answer b o).number
    judged store_full = refl
    judged findings_full = refl
    judged (accepted N F n k) = refl

    three : (w : AllPut) → kept (run_all_put b ts w)
    three full = inl refl
    three (all_put us) = inr (judged (closed b us))

    go : (n : ℕ) → kept (run_passed n tl al ts b)
    go zero = three (put_all tl al ts run_terms)
    go (suc n) = inl refl

-- of both: every refusal, a pass's 4 for its store among them, leaves the terms, and every turn shown is one that changes buffers
turn_kept : (f : Past7) → Shows f → (tl al : ℕ) (ts : List Term) (b : Lent)
    → let r = abstract_turn f tl al ts b in Kept ts r.answer.run.number r.held
unfolding changes
turn_kept f w tl al ts b =
    turn_cases f w tl al ts b (λ r. Kept ts r.answer.run.number r.held) (λ n e. inl refl) (λ us t e. inr (shown t))
  where
    shown : (t : Turn) → true ≡ changes (turn_shown b t).run.number
    shown (going rows) = refl
    shown (ended store_full) = refl
    shown (ended findings_full) = refl
    shown (ended (accepted N F n k)) = refl

read_kept : (tl al : ℕ) (ts : List Term) (load file : List ℕ)
    → let r = abstract_read tl al ts load file in Kept ts r.answer.number r.held
unfolding abstract_read changes
read_kept tl al ts load file = go (eqb (length load % load_width) 0)
  where
    kept : AbstractReadResult → Type 0
    kept r = Kept ts r.answer.number r.held

    ended : (o : reading.Outcome) → kept (shown ts load o)
    ended (refused n) = inl refl
    ended (read us xs) = inr refl

    go : (b : Bool) → kept (if b (λ _. shown ts load (read_file tl al (length load / load_width) ts file))
        (λ _. record { answer = read_answer 2 0 load; held = ts }))
    go true = ended (read_file tl al (length load / load_width) ts file)
    go false = inl refl

module _ (tl al : ℕ) (ts : List Term) where
  abbrev d : Dict
  d = layout tl al ts

  -- so the table that it leaves is that of the terms held after it, written or as it stood
  left_laid : (n : ℕ) (us : List Term) → Kept ts n us
      → left_dict n (bytes_of d.table) (layout tl al us) ≡ dict_in_bytes (layout tl al us)
  unfolding left_bytes
  left_laid n us k = let x = layout tl al us in ap (λ (l : List ℕ). dict l x.arena x.terms x.used) (go k)
    where
      table : List Term → List ℕ
      table ws = bytes_of (layout tl al ws).table

      same : (b : Bool) → if b (λ _. table us) (λ _. table us) ≡ table us
      same true = refl
      same false = refl

      go : Kept ts n us → left_bytes n (table ts) (layout tl al us).table ≡ table us
      go (inl e) = ap (λ (ws : List Term). left_bytes n (table ws) (layout tl al us).table) (sym e) ∙ same (changes n)
      go (inr q) = sym (left_written n (table ts) (layout tl al us).table q refl)

  -- the place that an entry of the table names is the place computed
  entry_place : (i : ℕ) → place_at (start_of d.table i) (abstract_lookup ts i) ≡ abstract_place ts i
  unfolding abstract_place abstract_lookup
  entry_place i = go (ltb i (length ts)) (ltb→lt i (length ts))
    where
      answer : Bool → LookupAnswer
      answer b = if b (λ _. lookup_answer 0 (term_of ts i).kind (term_of ts i).bytes) (λ _. lookup_answer 12 0 [])

      go : (b : Bool) → (T b → i < length ts) → place_at (start_of d.table i) (answer b) ≡ place_at (size (take i ts)) (answer b)
      go true f =
          let t = term_of ts i in
          let e = table_entry tl al ts i (f tt) in
          ap (λ (n : ℕ). place_at n (answer true))
          (entry_is d.table i (size (take i ts)) (length t.bytes) t.kind (prev ts (chain t) i) e).start
      go false f = refl

  place_abstract : (i : ℕ) → Holds tl al ts → place_gives d i ≡ abstract_place ts i
  unfolding place_gives lookup_gives
  place_abstract i h =
      ap (place_at (start_of d.table i)) (on_layout tl al ts (λ tl al ts. abstract_lookup ts i) (λ _. lookup_answer 1 0 []) h)
      ∙ entry_place i

-- ONE CALL
abbrev left : ByteOut → Dict → ByteLeft
left o d = record { out = o; contents = d }

-- an opening call or a pass
turn_abstract : (f : Past7) → Shows f → (tl al : ℕ) (ts : List Term) (b : Lent) → Holds tl al ts
    → let a = turn_bytes_give f (dict_in_bytes (layout tl al ts)) b in
    let r = abstract_turn f tl al ts (read_lent b) in
    left (turn_out a.answer) a.contents
    ≡ left (turn_out (turn_answer_in_bytes b r.answer)) (dict_in_bytes (layout tl al r.held))
unfolding turn_bytes_give turn_gives
turn_abstract f w tl al ts b h =
    let d = layout tl al ts in
    let m = read_lent b in
    let r = abstract_turn f tl al ts m in
    ap (λ (x : TurnResult). let a = turn_in_bytes (bytes_of d.table) b x in left (turn_out a.answer) a.contents)
    (ap (λ (x : Dict). turn_gives f x m) (read_back h)
    ∙ on_layout tl al ts (turn_laid f m) (λ _. record { answer = kept 1 m; contents = d }) h)
    ∙ ap (left (turn_out (turn_answer_in_bytes b r.answer)))
    (left_laid tl al ts r.answer.run.number r.held (turn_kept f w tl al ts m))

-- a write
write_abstract : (tl al : ℕ) (ts : List Term) (store : List ℕ) (n : ℕ) (page : List ℕ) → Holds tl al ts
    → write_bytes_give (dict_in_bytes (layout tl al ts)) store n page ≡ abstract_write ts (read_buffer store) n page
unfolding write_bytes_give write_gives
write_abstract tl al ts store n page h =
    let m = read_buffer store in
    ap (λ (x : Dict). write_gives x m n page) (read_back h)
    ∙ on_layout tl al ts (λ tl al ts. abstract_write ts m n page) (λ _. write_answer 1 0 0 page) h

abbrev laid : ℕ → ℕ → List Term → Call → ByteLeft
laid tl al ts c = left (abstract_out tl al ts c) (dict_in_bytes (layout tl al (abstract_call tl al ts (read_call c)).held))

byte_call_abstract : (tl al : ℕ) (ts : List Term) (c : Call) → Holds tl al ts
    → byte_call_gives (dict_in_bytes (layout tl al ts)) c ≡ laid tl al ts c
unfolding byte_call_gives abstract_call abstract_out put_bytes_give run_bytes_give read_bytes_give put_gives run_gives read_gives
byte_call_abstract tl al ts (put t) h =
    let d = layout tl al ts in
    let p = abstract_put tl al ts t in
    ap (λ (r : PutResult). let a = put_in_bytes (bytes_of d.table) r in left (put_out a.number a.id) a.contents)
    (ap (λ (x : Dict). put_gives x t) (read_back h) ∙ on_layout tl al ts (put_laid t) (λ _. put_result 1 0 d) h)
    ∙ ap (left (put_out p.number p.id)) (left_laid tl al ts p.number p.held (put_kept tl al ts t))
byte_call_abstract tl al ts (lookup i) h =
    let d = layout tl al ts in
    ap (λ (p : PlaceAnswer). left (place_out p) (dict_in_bytes d))
    (ap (λ (x : Dict). place_gives x i) (read_back h) ∙ place_abstract tl al ts i h)
byte_call_abstract tl al ts (run_on b) h =
    let d = layout tl al ts in
    let m = read_lent b in
    let r = abstract_run tl al ts m in
    ap (λ (x : RunResult). let a = run_in_bytes (bytes_of d.table) b x in left (run_out a.answer) a.contents)
    (ap (λ (x : Dict). run_gives x m) (read_back h)
    ∙ on_layout tl al ts (run_laid m) (λ _. record { answer = unchanged 1 m; contents = d }) h)
    ∙ ap (left (abstract_out tl al ts (run_on b))) (left_laid tl al ts r.answer.number r.held (run_kept tl al ts m))
byte_call_abstract tl al ts (open_on b) h = turn_abstract open_past open_shows tl al ts b h
byte_call_abstract tl al ts (pass_on b) h = turn_abstract pass_past pass_shows tl al ts b h
byte_call_abstract tl al ts (read_in l f) h =
    let d = layout tl al ts in
    let m = read_buffer l in
    let r = abstract_read tl al ts m f in
    ap (λ (x : ReadResult). let a = read_in_bytes (bytes_of d.table) l x in left (read_out a.answer) a.contents)
    (ap (λ (x : Dict). read_gives x m f) (read_back h)
    ∙ on_layout tl al ts (read_laid m f) (λ _. record { answer = read_answer 1 0 m; contents = d }) h)
    ∙ ap (left (abstract_out tl al ts (read_in l f))) (left_laid tl al ts r.answer.number r.held (read_kept tl al ts m f))
byte_call_abstract tl al ts (write_in s n p) h =
    ap (λ (a : WriteAnswer). left (write_out a) (dict_in_bytes (layout tl al ts))) (write_abstract tl al ts s n p h)

-- THE LIST
byte_calls_abstract : (tl al : ℕ) (ts : List Term) (cs : List Call) → Holds tl al ts
    → byte_calls_give (dict_in_bytes (layout tl al ts)) cs ≡ byte_abstract_from tl al ts cs
unfolding byte_calls_give byte_events_of terms_after
byte_calls_abstract tl al ts [] h = refl
byte_calls_abstract tl al ts (c ∷ cs) h =
    let us = (abstract_call tl al ts (read_call c)).held in
    ap (λ (l : ByteLeft). more l (byte_calls_give l.contents cs)) (byte_call_abstract tl al ts c h)
    ∙ ap (more (laid tl al ts c)) (byte_calls_abstract tl al us cs (abstract_holds tl al ts (read_call c) h))
  where
    more : ByteLeft → ByteListLeft → ByteListLeft
    more l r = record { events = byte_event c l.out ∷ r.events; contents = r.contents }

-- the terms held after a list can be held
pub calls_hold : (tl al : ℕ) (ts : List Term) (cs : List Call) → Holds tl al ts → Holds tl al (terms_after tl al ts cs)
unfolding terms_after
calls_hold tl al ts [] h = h
calls_hold tl al ts (c ∷ cs) h = calls_hold tl al (abstract_call tl al ts c).held cs (abstract_holds tl al ts c h)

-- FROM WHAT AN ACCEPTED START LEAVES: a start over numbers, of a table of whole numbers
module _ (table arena : List ℕ) (s : (start_bytes_give table arena).number ≡ 0) where
  abbrev tl : ℕ
  tl = length (read_buffer table)

  abbrev al : ℕ
  al = length arena

  pub started : (start_gives (read_buffer table) arena).number ≡ 0
  unfolding start_bytes_give
  started = s

  pub starts : Holds tl al start_terms
  starts = start_holds (read_buffer table) arena started

  pub whole_table : length (read_buffer table) ≡ length table / 4
  whole_table = go (eqb (length table % 4) 0) refl
    where
      go : (b : Bool) → eqb (length table % 4) 0 ≡ b → length (read_buffer table) ≡ length table / 4
      go true e = ap (λ (l : List ℕ). length l) (read_whole table (eqb-true (length table % 4) 0 e)) ∙ length_numbers table
      go false e = absurd (omega (arith, read_ragged table (eqb-false (length table % 4) 0 e), (sized→ tl al starts.sizes).low))

  start_left : (start_bytes_give table arena).contents ≡ dict_in_bytes (layout tl al start_terms)
  unfolding start_bytes_give
  start_left =
      let x = layout tl al start_terms in
      (λ i. left_dict (started i) table (start_leaves (read_buffer table) arena started i))
      ∙ ap (λ (l : List ℕ). dict l x.arena x.terms x.used) (sym (left_written 0 table x.table (changes_0 0 refl) refl))

  pub list_abstract : (cs : List Call)
      → byte_calls_give (start_bytes_give table arena).contents cs ≡ byte_abstract_from tl al start_terms cs
  list_abstract cs = ap (λ (x : Dict). byte_calls_give x cs) start_left ∙ byte_calls_abstract tl al start_terms cs starts
