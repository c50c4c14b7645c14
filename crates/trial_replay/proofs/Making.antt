-- What the calls leave in a memory, from what each step leaves. Assumes nothing.
use mathlib.Core.Path.{◌≡◌, refl, sym, ap, ◌∙◌}
use mathlib.Core.Bool.{Bool, true, false}
use mathlib.Core.List.{List, ◌++◌}
use mir.Val.{bool_byte}
use Prim.Native.Nat.{ℕ, zero, suc, ◌+◌, ◌%◌, ◌<◌}
use native.Mathlib.Omega.{arith}
use lib.Dec.{eqb}
use lib.ListN.{length, get_or, set, take, drop}
use lib.Seq.{ext_get_or}
use Rattle.std.specs.Prelude.{Result, Ok, Err, IsOkAnd, MatchResult}
use Rattle.common.specs.declared.refusal.Refusal.{Refusal}
use Rattle.dictionary_layout.specs.declared.values.Counters.{Counters}
use Rattle.dictionary_layout.specs.Terms.{term}
use Rattle.dictionary_layout.specs.Layout.{span}
use Rattle.dictionary_layout.specs.Values.{contents}
use Rattle.dictionary_layout.specs.Dictionary.{LookupAnswer}
use Rattle.dictionary_layout.specs.Calls.{StartResult, PutResult, start_gives, put_gives, lookup_gives}
use Rattle.dictionary_layout.proofs.Decoding.{length_span}
use Rattle.driver_refusals.specs.Lent.{Lent, lent}
use Rattle.driver_load.specs.declared.values.RunAnswer.{RunAnswer}
use Rattle.driver_run.specs.Run.{RunResult, run_gives}
use Rattle.driver_step.specs.declared.values.TurnAnswer.{TurnAnswer}
use Rattle.driver_step.specs.Values.{run_part as run_answer, done_part}
use Rattle.driver_turns.specs.Turns.{TurnResult, turn_gives, past}
use Rattle.ntriples.specs.Reading.{ReadResult, read_gives}
use Rattle.ntriples_canonical.specs.Calls.{WriteAnswer, write_gives}
use Rattle.trial_buffers.specs.Memory.{cell_from, length_at, Each}
use Rattle.trial_replay.specs.Made.{numbers_from, bytes_from, give, Held, held, answered, start_made, put_made, narrowed}
use Rattle.trial_replay.specs.Made.{lookup_made, RunHeld, run_held, counted, whole_part, turn_part, run_part, run_lent, run_taken}
use Rattle.trial_replay.specs.Made.{run_made, ReadHeld, read_held, read_part, read_lent, read_made, WriteHeld, write_held}
use Rattle.trial_replay.specs.Made.{write_part, write_lent, write_made, made_on, made_lent, made}
use Rattle.trial_replay.specs.Cells.{table_length_cell, arena_length_cell, term_length_cell, load_length_cell, store_length_cell}
use Rattle.trial_replay.specs.Cells.{findings_length_cell, work_length_cell, page_length_cell, put_kind_cell, lookup_id_cell}
use Rattle.trial_replay.specs.Cells.{triples_cell, terms_cell, used_cell, id_cell, kind_cell, part_length_cell, count_cell}
use Rattle.trial_replay.specs.Cells.{done_cell, text_length_cell, left_out_cell, table_cells, arena_cells, term_cells, part_cells}
use Rattle.trial_replay.specs.Cells.{store_cells, findings_cells, work_cells, load_cells, table_room, arena_room, term_room}
use Rattle.trial_replay.specs.Cells.{part_room, store_room, findings_room, work_room, load_room}

-- A ROW FROM THE CELLS
span_at : (n i : ℕ) (f : ℕ → ℕ) (k : ℕ) → k < n → get_or (span n i f) k 0 ≡ f (i + k)
unfolding span
span_at zero i f k h = absurd (omega arith)
span_at (suc n) i f zero h = ap f (omega arith)
span_at (suc n) i f (suc k) h = span_at n (suc i) f k (omega arith) ∙ ap f (omega arith)

pub each_span : (f : ℕ → ℕ) (n : ℕ) {row : List ℕ} → length row ≡ n → Each f row → row ≡ span n 0 f
each_span f n {row} e h =
    ext_get_or 0 row (span n 0 f) (e ∙ sym (length_span n 0 f))
    (λ k l. h k l ∙ sym (span_at n 0 f k (omega (arith, e)) ∙ ap f (omega arith)))

module _ (m : List ℕ) (at n : ℕ) {row : List ℕ} (e : length row ≡ n) where
  pub numbers_taken : Each (λ k. get_or m (cell_from at k) 0) row → row ≡ numbers_from m at n
  unfolding numbers_from
  numbers_taken h = each_span _ n e h

  pub bytes_taken : Each (λ k. get_or m (cell_from at k) 0 % 256) row → row ≡ bytes_from m at n
  unfolding bytes_from
  bytes_taken h = each_span _ n e h

-- WHAT A CALL IN TURNS ANSWERS: the answer of its run, and whether it is done, as a number
pub run_mapped : (r : Result TurnAnswer Refusal) (m : Result RunAnswer Refusal) {P : TurnAnswer → RunAnswer → Type 0} →
    MatchResult r (λ x. IsOkAnd m (P x)) (λ e. m ≡ Err e) → ((x : TurnAnswer) (y : RunAnswer) → P x y → y ≡ x.run) →
    m ≡ run_answer r
run_mapped (Ok x) (Ok y) h f = ap Ok (f x y h)
run_mapped (Ok x) (Err e) h f = absurd h
run_mapped (Err e) m h f = h

pub done_number : (r : Result TurnAnswer Refusal) (b : Bool) {P : TurnAnswer → Type 0} →
    MatchResult r P (λ _. b ≡ false) → ((x : TurnAnswer) → P x → b ≡ x.done) → bool_byte b ≡ done_part r
done_number (Ok x) true h f = rw (← f x h) refl
done_number (Ok x) false h f = rw (← f x h) refl
done_number (Err e) b h f = rw h refl

-- THE EIGHT CALLS
module _ (m table arena : List ℕ) where
  pub start_is : {s : StartResult} → s ≡ start_gives table arena → {m₁ : List ℕ} →
      m₁ ≡ answered m s.number s.contents.terms s.contents.used →
      held m₁ s.contents.table s.contents.arena ≡ start_made (held m table arena)
  unfolding start_made
  start_is e f = rw (f, ← e) refl

  module _ {k : Counters} (c : k ≡ record { terms = get_or m terms_cell 0; used = get_or m used_cell 0 }) where
    pub put_is : (bytes : List ℕ) {kind n : ℕ} → kind ≡ get_or m put_kind_cell 0 → n ≡ length_at m term_length_cell (length bytes) →
        {p : PutResult} →
        p ≡ put_gives (contents table arena k) (term kind (take n bytes)) → {m₁ m₂ : List ℕ} → m₁ ≡ set m id_cell p.id →
        m₂ ≡ answered m₁ p.number p.contents.terms p.contents.used →
        held m₂ p.contents.table p.contents.arena ≡ put_made (held m table arena) bytes
    unfolding put_made
    put_is bytes d l e f g = let e₁ = rw (c, d, l) at e in rw (g, f, ← e₁) refl

    pub lookup_is : {id : ℕ} → id ≡ get_or m lookup_id_cell 0 → {l : LookupAnswer} →
        l ≡ lookup_gives (contents table arena k) id → {m₁ : List ℕ} →
        m₁ ≡ set m kind_cell l.kind → {w : ℕ} → w ≡ narrowed (length l.part) → {m₂ m₃ m₄ : List ℕ} → m₂ ≡ set m₁ part_length_cell w →
        m₃ ≡ give m₂ part_cells l.part → m₄ ≡ answered m₃ l.number k.terms k.used →
        held m₄ table arena ≡ lookup_made (held m table arena)
    unfolding lookup_made
    lookup_is d e f₁ n f₂ f₃ f₄ = let e₁ = rw (c, d) at e in let f = rw c at f₄ in rw (f, f₃, f₂, n, f₁, ← e₁) refl

    pub whole_is : (b : Lent) {r : RunResult} → r ≡ run_gives (contents table arena k) b → {m₁ : List ℕ} →
        m₁ ≡ answered (counted m r.answer.count r.answer.counts) r.answer.number r.contents.terms r.contents.used →
        run_held (held m₁ r.contents.table r.contents.arena) r.answer.store r.answer.findings r.answer.work ≡
        whole_part (held m table arena) b
    unfolding whole_part
    whole_is b e f = let e₁ = rw c at e in rw (f, ← e₁) refl

    pub turn_is : (call : ℕ) (b : Lent) {r : TurnResult} → r ≡ turn_gives (past (eqb call 6)) (contents table arena k) b →
        {m₁ m₂ : List ℕ} → m₁ ≡ set m done_cell r.answer.done →
        m₂ ≡ answered (counted m₁ r.answer.run.count r.answer.run.counts) r.answer.run.number r.contents.terms
        r.contents.used →
        run_held (held m₂ r.contents.table r.contents.arena) r.answer.run.store r.answer.run.findings
        r.answer.run.work ≡
        turn_part call (held m table arena) b
    unfolding turn_part
    turn_is call b e f g = let e₁ = rw c at e in rw (g, f, ← e₁) refl

    pub read_is : (file load : List ℕ) {r : ReadResult} → r ≡ read_gives (contents table arena k) load file → {m₁ m₂ : List ℕ} →
        m₁ ≡ set m count_cell r.answer.count →
        m₂ ≡ answered m₁ r.answer.number r.contents.terms r.contents.used →
        read_held (held m₂ r.contents.table r.contents.arena) r.answer.load ≡ read_part (held m table arena) file load
    unfolding read_part
    read_is file load e f g = let e₁ = rw c at e in rw (g, f, ← e₁) refl

    pub write_is : (store page : List ℕ) {n : ℕ} → n ≡ get_or m triples_cell 0 → {a : WriteAnswer} →
        a ≡ write_gives (contents table arena k) store n page → {w : ℕ} → w ≡ narrowed a.used → {m₁ m₂ m₃ : List ℕ} →
        m₁ ≡ set m text_length_cell w → m₂ ≡ set m₁ left_out_cell a.left → m₃ ≡ answered m₂ a.number k.terms k.used →
        write_held (held m₃ table arena) a.page ≡ write_part (held m table arena) store page
    unfolding write_part
    write_is store page d e n f₁ f₂ f₃ = let e₁ = rw (c, d) at e in let f = rw c at f₃ in rw (f, f₂, f₁, n, ← e₁) refl

-- in parts of its buffers
module _ (call : ℕ) (h : Held) where
  pub run_lent_is : (b : Lent) {l s f w : ℕ} → l ≡ length_at h.memory load_length_cell (length b.load) →
      s ≡ length_at h.memory store_length_cell (length b.store) →
      f ≡ length_at h.memory findings_length_cell (length b.findings) →
      w ≡ length_at h.memory work_length_cell (length b.work) → {r : RunHeld} →
      r ≡ run_part call h (lent (take l b.load) (take s b.store) (take f b.findings) (take w b.work)) →
      run_held r.held (r.store ++ drop s b.store) (r.findings ++ drop f b.findings) (r.work ++ drop w b.work) ≡
      run_lent call h b
  unfolding run_lent
  run_lent_is b el es ef ew e = let e₁ = rw (el, es, ef, ew) at e in rw (es, ef, ew, ← e₁) refl

  -- in buffers that were taken from the cells
  pub run_taken_is : (s f w : ℕ) {load store findings work : List ℕ} → load ≡ numbers_from h.memory load_cells load_room →
      store ≡ numbers_from h.memory store_cells s → findings ≡ numbers_from h.memory findings_cells f →
      work ≡ numbers_from h.memory work_cells w →
      {r : RunHeld} → r ≡ run_lent call h (lent load store findings work) → r ≡ run_taken call h s f w
  unfolding run_taken
  run_taken_is s f w el es ef ew e = rw (el, es, ef, ew) at e

  -- and are given back
  pub run_made_is : {s f w : ℕ} → s ≡ store_room → f ≡ findings_room → w ≡ work_room → {r : RunHeld} →
      r ≡ run_taken call h s f w → {m₁ m₂ m₃ : List ℕ} →
      m₁ ≡ give r.held.memory store_cells r.store → m₂ ≡ give m₁ findings_cells r.findings → m₃ ≡ give m₂ work_cells r.work →
      held m₃ r.held.table r.held.arena ≡ run_made call h
  unfolding run_made
  run_made_is es ef ew e f₁ f₂ f₃ = let e₁ = rw (es, ef, ew) at e in rw (f₃, f₂, f₁, ← e₁) refl

-- a read in a part of its load
module _ (h : Held) where
  pub read_lent_is : (file load : List ℕ) {f l : ℕ} → f ≡ length_at h.memory term_length_cell (length file) →
      l ≡ length_at h.memory load_length_cell (length load) → {r : ReadHeld} → r ≡ read_part h (take f file) (take l load) →
      read_held r.held (r.load ++ drop l load) ≡ read_lent h file load
  unfolding read_lent
  read_lent_is file load ef el e = let e₁ = rw (ef, el) at e in rw (el, ← e₁) refl

  -- which was taken from the cells and is given back
  pub read_made_is : {file load : List ℕ} → file ≡ bytes_from h.memory term_cells term_room →
      load ≡ numbers_from h.memory load_cells load_room → {r : ReadHeld} → r ≡ read_lent h file load → {m₁ : List ℕ} →
      m₁ ≡ give r.held.memory load_cells r.load →
      held m₁ r.held.table r.held.arena ≡ read_made h
  unfolding read_made
  read_made_is ef el e f₁ = let e₁ = rw (ef, el) at e in rw (f₁, ← e₁) refl

  -- a write in a part of its page
  pub write_lent_is : (store page : List ℕ) {s p : ℕ} → s ≡ length_at h.memory store_length_cell (length store) →
      p ≡ length_at h.memory page_length_cell (length page) → {r : WriteHeld} → r ≡ write_part h (take s store) (take p page) →
      write_held r.held (r.page ++ drop p page) ≡ write_lent h store page
  unfolding write_lent
  write_lent_is store page es ep e = let e₁ = rw (es, ep) at e in rw (ep, ← e₁) refl

  -- which was taken from the cells and is given back
  pub write_made_is : {store page : List ℕ} → store ≡ numbers_from h.memory store_cells store_room →
      page ≡ bytes_from h.memory part_cells part_room → {r : WriteHeld} → r ≡ write_lent h store page → {m₁ : List ℕ} →
      m₁ ≡ give r.held.memory part_cells r.page →
      held m₁ r.held.table r.held.arena ≡ write_made h
  unfolding write_made
  write_made_is es ep e f₁ = let e₁ = rw (es, ep) at e in rw (f₁, ← e₁) refl

-- on parts of table and arena
pub made_lent_is : (call : ℕ) (h : Held) {t a : ℕ} → t ≡ length_at h.memory table_length_cell (length h.table) →
    a ≡ length_at h.memory arena_length_cell (length h.arena) → {r : Held} →
    r ≡ made_on call (held h.memory (take t h.table) (take a h.arena)) →
    held r.memory (r.table ++ drop t h.table) (r.arena ++ drop a h.arena) ≡ made_lent call h
unfolding made_lent
made_lent_is call h et ea e = let e₁ = rw (et, ea) at e in rw (et, ea, ← e₁) refl

-- which are taken from the cells and given back
pub made_is : (call : ℕ) (m : List ℕ) {table arena : List ℕ} → table ≡ numbers_from m table_cells table_room →
    arena ≡ bytes_from m arena_cells arena_room → {h : Held} →
    h ≡ made_lent call (held m table arena) → {m₁ m₂ : List ℕ} → m₁ ≡ give h.memory table_cells h.table →
    m₂ ≡ give m₁ arena_cells h.arena →
    m₂ ≡ made call m
unfolding made
made_is call m et ea e f₁ f₂ = let e₁ = rw (et, ea) at e in rw (← e₁, ← f₁) f₂
