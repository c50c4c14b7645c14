-- The calls on a memory: what each takes from the cells and leaves there. Assumes nothing.
use Rattle.std.specs.Prelude.{List, ◌++◌, ℕ, ◌%◌, eqb, ltb, length, get_or, set, take, drop}
use Rattle.common.specs.Triples.{if}
use Rattle.dictionary_layout.specs.Terms.{term}
use Rattle.dictionary_layout.specs.Layout.{Dict, dict, span}
use Rattle.dictionary_layout.specs.Calls.{start_gives, put_gives, lookup_gives}
use Rattle.driver_refusals.specs.Lent.{Lent, lent}
use Rattle.driver_run.specs.Run.{run_gives}
use Rattle.driver_turns.specs.Turns.{turn_gives, past}
use Rattle.ntriples.specs.Reading.{read_gives}
use Rattle.ntriples_canonical.specs.Calls.{write_gives}
use Rattle.trial_buffers.specs.Memory.{cell_from, length_at, given}
use Rattle.trial_replay.specs.Cells.{table_length_cell, arena_length_cell, term_length_cell, load_length_cell, store_length_cell}
use Rattle.trial_replay.specs.Cells.{findings_length_cell, work_length_cell, page_length_cell, put_kind_cell, lookup_id_cell}
use Rattle.trial_replay.specs.Cells.{triples_cell, terms_cell, used_cell, number_cell, id_cell, kind_cell, part_length_cell}
use Rattle.trial_replay.specs.Cells.{count_cell, counts_cells, done_cell, text_length_cell, left_out_cell, table_cells, arena_cells}
use Rattle.trial_replay.specs.Cells.{term_cells, part_cells, store_cells, findings_cells, work_cells, load_cells, table_room}
use Rattle.trial_replay.specs.Cells.{arena_room, term_room, part_room, store_room, findings_room, work_room, load_room}

-- n numbers from a cell on, and n bytes
unfoldable pub numbers_from : List ℕ → ℕ → ℕ → List ℕ
numbers_from m at n = span n 0 (λ k. get_or m (cell_from at k) 0)

unfoldable pub bytes_from : List ℕ → ℕ → ℕ → List ℕ
bytes_from m at n = span n 0 (λ k. get_or m (cell_from at k) 0 % 256)

-- the memory with the row in the cells from one on
abbrev pub give : List ℕ → ℕ → List ℕ → List ℕ
give m at row = given m at row (length row)

-- a memory, and the table and the arena that a call on it is lent
pub record Held : Type 0 where
  pub memory : List ℕ
  pub table : List ℕ
  pub arena : List ℕ

abbrev pub held : List ℕ → List ℕ → List ℕ → Held
held m t a = record { memory = m; table = t; arena = a }

-- table and arena with the counters of the memory
abbrev pub dictionary : Held → Dict
dictionary h = dict h.table h.arena (get_or h.memory terms_cell 0) (get_or h.memory used_cell 0)

-- the call's number, and the counters after it, in their cells
abbrev pub answered : List ℕ → ℕ → ℕ → ℕ → List ℕ
answered m number terms used = set (set (set m number_cell number) terms_cell terms) used_cell used

-- the contents that a call left, with its number and a memory
abbrev pub left : List ℕ → ℕ → Dict → Held
left m number d = held (answered m number d.terms d.used) d.table d.arena

-- START
unfoldable pub start_made : Held → Held
start_made h = let s = start_gives h.table h.arena in left h.memory s.number s.contents

-- PUT of so many of these bytes as the memory says, and of its kind
unfoldable pub put_made : Held → List ℕ → Held
put_made h bytes =
    let m = h.memory in
    let p = put_gives (dictionary h) (term (get_or m put_kind_cell 0) (take (length_at m term_length_cell (length bytes)) bytes)) in
    left (set m id_cell p.id) p.number p.contents

-- a length as a number of the memory: no part and no text is so long that it is none
abbrev pub narrowed : ℕ → ℕ
narrowed n = if (ltb n 4294967296) (λ _. n) (λ _. 0)

-- LOOKUP of the id that the memory names; the part is given to its cells
unfoldable pub lookup_made : Held → Held
lookup_made h =
    let m = h.memory in
    let l = lookup_gives (dictionary h) (get_or m lookup_id_cell 0) in
    let m₁ = set (set m kind_cell l.kind) part_length_cell (narrowed (length l.part)) in
    left (give m₁ part_cells l.part) l.number (dictionary h)

-- what a run, an opening call or a pass leaves: the memory with the dictionary, and its store, findings and list work buffer
pub record RunHeld : Type 0 where
  pub held : Held
  pub store : List ℕ
  pub findings : List ℕ
  pub work : List ℕ

abbrev pub run_held : Held → List ℕ → List ℕ → List ℕ → RunHeld
run_held h s f w = record { held = h; store = s; findings = f; work = w }

-- the memory with the count and the five counts
abbrev pub counted : List ℕ → ℕ → List ℕ → List ℕ
counted m count counts = give (set m count_cell count) counts_cells counts

-- RUN in the buffers that it is lent
unfoldable pub whole_part : Held → Lent → RunHeld
whole_part h b =
    let r = run_gives (dictionary h) b in
    let a = r.answer in
    run_held (left (counted h.memory a.count a.counts) a.number r.contents) a.store a.findings a.work

-- PASS, call 6, or OPEN, in the buffers that it is lent
unfoldable pub turn_part : ℕ → Held → Lent → RunHeld
turn_part call h b =
    let r = turn_gives (past (eqb call 6)) (dictionary h) b in
    let a = r.answer.run in
    let m = set h.memory done_cell r.answer.done in
    run_held (left (counted m a.count a.counts) a.number r.contents) a.store a.findings a.work

-- the call with a number, 3, 5 or 6, in the buffers that it is lent
unfoldable pub run_part : ℕ → Held → Lent → RunHeld
run_part call h b = if (eqb call 3) (λ _. whole_part h b) (λ _. turn_part call h b)

-- as much of each buffer as the memory says, the rest of it as it was
unfoldable pub run_lent : ℕ → Held → Lent → RunHeld
run_lent call h b =
    let m = h.memory in
    let s = length_at m store_length_cell (length b.store) in
    let f = length_at m findings_length_cell (length b.findings) in
    let w = length_at m work_length_cell (length b.work) in
    let l = take (length_at m load_length_cell (length b.load)) b.load in
    let r = run_part call h (lent l (take s b.store) (take f b.findings) (take w b.work)) in
    run_held r.held (r.store ++ drop s b.store) (r.findings ++ drop f b.findings) (r.work ++ drop w b.work)

-- buffers of so many numbers, taken from the cells
unfoldable pub run_taken : ℕ → Held → ℕ → ℕ → ℕ → RunHeld
run_taken call h s f w =
    let m = h.memory in
    let load = numbers_from m load_cells load_room in
    run_lent call h (lent load (numbers_from m store_cells s) (numbers_from m findings_cells f) (numbers_from m work_cells w))

-- and given back to them
unfoldable pub run_made : ℕ → Held → Held
run_made call h =
    let r = run_taken call h store_room findings_room work_room in
    let m = give (give (give r.held.memory store_cells r.store) findings_cells r.findings) work_cells r.work in
    held m r.held.table r.held.arena

-- what a read leaves: the memory with the dictionary, and its load
pub record ReadHeld : Type 0 where
  pub held : Held
  pub load : List ℕ

abbrev pub read_held : Held → List ℕ → ReadHeld
read_held h l = record { held = h; load = l }

-- READ of a file into the load that it is lent
unfoldable pub read_part : Held → List ℕ → List ℕ → ReadHeld
read_part h file load =
    let r = read_gives (dictionary h) load file in
    let a = r.answer in
    read_held (left (set h.memory count_cell a.count) a.number r.contents) a.load

-- as much of the file and of the load as the memory says, the rest of the load as it was
unfoldable pub read_lent : Held → List ℕ → List ℕ → ReadHeld
read_lent h file load =
    let m = h.memory in
    let l = length_at m load_length_cell (length load) in
    let r = read_part h (take (length_at m term_length_cell (length file)) file) (take l load) in
    read_held r.held (r.load ++ drop l load)

-- file and load taken from the cells, the load given back to them: the file is in those of a term
unfoldable pub read_made : Held → Held
read_made h =
    let m = h.memory in
    let r = read_lent h (bytes_from m term_cells term_room) (numbers_from m load_cells load_room) in
    held (give r.held.memory load_cells r.load) r.held.table r.held.arena

-- what a write leaves: the memory with the dictionary, and its page
pub record WriteHeld : Type 0 where
  pub held : Held
  pub page : List ℕ

abbrev pub write_held : Held → List ℕ → WriteHeld
write_held h p = record { held = h; page = p }

-- WRITE of the first triples of a store, as many as the memory says, to the page that it is lent
unfoldable pub write_part : Held → List ℕ → List ℕ → WriteHeld
write_part h store page =
    let m = h.memory in
    let a = write_gives (dictionary h) store (get_or m triples_cell 0) page in
    let m₁ = set (set m text_length_cell (narrowed a.used)) left_out_cell a.left in
    write_held (left m₁ a.number (dictionary h)) a.page

-- as much of the store and of the page as the memory says, the rest of the page as it was
unfoldable pub write_lent : Held → List ℕ → List ℕ → WriteHeld
write_lent h store page =
    let m = h.memory in
    let p = length_at m page_length_cell (length page) in
    let r = write_part h (take (length_at m store_length_cell (length store)) store) (take p page) in
    write_held r.held (r.page ++ drop p page)

-- store and page taken from the cells, the page given back to them: it is in those of a part
unfoldable pub write_made : Held → Held
write_made h =
    let m = h.memory in
    let r = write_lent h (numbers_from m store_cells store_room) (bytes_from m part_cells part_room) in
    held (give r.held.memory part_cells r.page) r.held.table r.held.arena

-- THE CALL with a number, on what it is lent: 0 start, 1 put, 2 lookup, 4 read, 7 write, and the others below 7, which are 3 run, 5 open
-- and 6 pass; another number makes none
unfoldable pub made_on : ℕ → Held → Held
made_on call h =
    if (eqb call 0)
    (λ _. start_made h)
    (λ _. if (eqb call 1)
    (λ _. put_made h (bytes_from h.memory term_cells term_room))
    (λ _. if (eqb call 2)
    (λ _. lookup_made h)
    (λ _. if (eqb call 4)
    (λ _. read_made h)
    (λ _. if (eqb call 7) (λ _. write_made h) (λ _. if (ltb call 7) (λ _. run_made call h) (λ _. h))))))

-- as much of table and arena as the memory says, the rest as it was
unfoldable pub made_lent : ℕ → Held → Held
made_lent call h =
    let t = length_at h.memory table_length_cell (length h.table) in
    let a = length_at h.memory arena_length_cell (length h.arena) in
    let r = made_on call (held h.memory (take t h.table) (take a h.arena)) in
    held r.memory (r.table ++ drop t h.table) (r.arena ++ drop a h.arena)

-- table and arena taken from the cells, and given back
unfoldable pub made : ℕ → List ℕ → List ℕ
made call m =
    let h = made_lent call (held m (numbers_from m table_cells table_room) (bytes_from m arena_cells arena_room)) in
    give (give h.memory table_cells h.table) arena_cells h.arena
