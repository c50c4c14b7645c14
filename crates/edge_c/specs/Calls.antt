-- What the C entry points give, and what each leaves in the buffers of bytes that it is lent, for all inputs: what the calls on numbers
-- give for the numbers of the buffers, written back as bytes. REFERENCE 9. Assumes nothing.
use Rattle.std.specs.Prelude.{Bool, not, ◌||◌, List, ◌≡◌, ℕ, eqb, length, take, drop}
use Rattle.common.specs.Triples.{if}
use Rattle.dictionary_layout.specs.Terms.{Term}
use Rattle.dictionary_layout.specs.Layout.{Dict, dict}
use Rattle.dictionary_layout.specs.Dictionary.{LookupAnswer}
use Rattle.dictionary_entries.specs.Entries.{start_of}
use Rattle.dictionary_layout.specs.Calls.{StartResult, start_result, start_gives, PutResult, put_result, put_gives, lookup_gives}
use Rattle.dictionary_index.specs.Values.{begin_at}
use Rattle.driver_refusals.specs.Lent.{Lent, lent}
use Rattle.driver_load.specs.Closed.{AnswerOfRun}
use Rattle.driver_run.specs.Run.{RunResult, run_gives}
use Rattle.driver_turns.specs.Turns.{Past7, TurnResult, turn_gives}
use Rattle.ntriples.specs.Reading.{ReadAnswer, read_answer, ReadResult, read_gives}
use Rattle.ntriples_canonical.specs.Calls.{WriteAnswer, write_gives}
use Rattle.edge_bytes.specs.Bytes.{bytes_of, read_buffer, left_bytes}

-- a dictionary whose table is bytes, as numbers
abbrev pub read_dict : Dict → Dict
read_dict d = dict (read_buffer d.table) d.arena d.terms d.used

-- the contents that a call left, over a table of bytes, where it answered n
abbrev pub left_dict : ℕ → List ℕ → Dict → Dict
left_dict n table d = dict (left_bytes n table d.table) d.arena d.terms d.used

-- START, lent a table of bytes and an arena
abbrev pub start_in_bytes : List ℕ → StartResult → StartResult
start_in_bytes table r = start_result r.number (left_dict r.number table r.contents)

unfoldable pub start_bytes_give : List ℕ → List ℕ → StartResult
start_bytes_give table arena = start_in_bytes table (start_gives (read_buffer table) arena)

-- PUT, of a term in a dictionary whose table is bytes
abbrev pub put_in_bytes : List ℕ → PutResult → PutResult
put_in_bytes table r = put_result r.number r.id (left_dict r.number table r.contents)

unfoldable pub put_bytes_give : Dict → Term → PutResult
put_bytes_give d t = put_in_bytes d.table (put_gives (read_dict d) t)

-- LOOKUP: the number, the kind, and where the term's bytes lie: their place in the arena, as the table's entry names it, and their
-- length, both 0 where the lookup is refused
pub record PlaceAnswer : Type 0 where
  pub number : ℕ
  pub kind : ℕ
  pub begin : ℕ
  pub len : ℕ

abbrev pub place_answer : ℕ → ℕ → ℕ → ℕ → PlaceAnswer
place_answer n k i l = record { number = n; kind = k; begin = i; len = l }

-- the answer r of a lookup of a term whose bytes begin at n
abbrev pub place_at : ℕ → LookupAnswer → PlaceAnswer
place_at n r = place_answer r.number r.kind (begin_at n r) (length r.part)

-- in a dictionary of numbers
unfoldable pub place_gives : Dict → ℕ → PlaceAnswer
place_gives d i = place_at (start_of d.table i) (lookup_gives d i)

-- the answer p to a lookup of the id i, and that the term's bytes lie there
pub record Places (d : Dict) (i : ℕ) (p : PlaceAnswer) : Type 0 where
  pub answers : p ≡ place_gives d i
  pub lies : take p.len (drop p.begin d.arena) ≡ (lookup_gives d i).part

-- RUN: the load, the store, the findings and the list work buffer are bytes too
abbrev pub read_lent : Lent → Lent
read_lent b = lent (read_buffer b.load) (read_buffer b.store) (read_buffer b.findings) (read_buffer b.work)

-- the answer a of a run that was lent the buffers b of bytes
abbrev pub answer_in_bytes : Lent → AnswerOfRun → AnswerOfRun
answer_in_bytes b a = record {
  number = a.number;
  count = a.count;
  counts = a.counts;
  store = left_bytes a.number b.store a.store;
  findings = left_bytes a.number b.findings a.findings;
  work = left_bytes a.number b.work a.work;
}

abbrev pub run_in_bytes : List ℕ → Lent → RunResult → RunResult
run_in_bytes table b r = record { answer = answer_in_bytes b r.answer; contents = left_dict r.answer.number table r.contents }

unfoldable pub run_bytes_give : Dict → Lent → RunResult
run_bytes_give d b = run_in_bytes d.table b (run_gives (read_dict d) (read_lent b))

-- the answer of a run, with all that it is lent as it is left
abbrev pub run_result : ℕ → ℕ → List ℕ → List ℕ → List ℕ → List ℕ → Dict → RunResult
run_result n count counts s f w d =
    record { answer = record { number = n; count = count; counts = counts; store = s; findings = f; work = w }; contents = d }

-- OPEN AND PASS, which are lent what a run is
abbrev pub turn_in_bytes : List ℕ → Lent → TurnResult → TurnResult
turn_in_bytes table b r = record {
  answer = record { run = answer_in_bytes b r.answer.run; done = r.answer.done };
  contents = left_dict r.answer.run.number table r.contents;
}

unfoldable pub turn_bytes_give : Past7 → Dict → Lent → TurnResult
turn_bytes_give f d b = turn_in_bytes d.table b (turn_gives f (read_dict d) (read_lent b))

-- the answer of an opening call or a pass, with all that it is lent as it is left
abbrev pub turn_result : ℕ → ℕ → ℕ → List ℕ → List ℕ → List ℕ → List ℕ → Dict → TurnResult
turn_result n count done counts s f w d = record {
  answer = record { run = record { number = n; count = count; counts = counts; store = s; findings = f; work = w }; done = done };
  contents = d;
}

-- READ: its load is bytes too. Refusals 1 and 2 leave the load as it was; the others, which leave the dictionary, make it zero
unfoldable pub changes_load : ℕ → Bool
changes_load n = not (eqb n 1 || eqb n 2)

-- the bytes of a load after a read that answered n and left these numbers in it
unfoldable pub left_load : ℕ → List ℕ → List ℕ → List ℕ
left_load n b l = if (changes_load n) (λ _. bytes_of l) (λ _. b)

-- the answer a of a read that was lent the bytes of a load
abbrev pub load_in_bytes : List ℕ → ReadAnswer → ReadAnswer
load_in_bytes load a = read_answer a.number a.count (left_load a.number load a.load)

abbrev pub read_in_bytes : List ℕ → List ℕ → ReadResult → ReadResult
read_in_bytes table load r =
    record { answer = load_in_bytes load r.answer; contents = left_dict r.answer.number table r.contents }

unfoldable pub read_bytes_give : Dict → List ℕ → List ℕ → ReadResult
read_bytes_give d load file = read_in_bytes d.table load (read_gives (read_dict d) (read_buffer load) file)

-- the answer of a read, with all that it is lent as it is left
abbrev pub read_result : ℕ → ℕ → List ℕ → Dict → ReadResult
read_result n count load d = record { answer = read_answer n count load; contents = d }

-- WRITE: its store is bytes too; its page is bytes in the call on numbers already. Dictionary and store are lent to be read
unfoldable pub write_bytes_give : Dict → List ℕ → ℕ → List ℕ → WriteAnswer
write_bytes_give d store n page = write_gives (read_dict d) (read_buffer store) n page
