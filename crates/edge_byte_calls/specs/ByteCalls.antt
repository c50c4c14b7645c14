-- Lists of calls through the C entry points: each put, lookup, run, open, pass, read and write is lent the dictionary, its table as
-- bytes, as the call before left it, so what one call writes the next reads. What each gives over bytes, and what it must give, computed
-- from the lengths of table and arena in bytes and the calls' other arguments alone. REFERENCE 8.4 and 9. Assumes nothing.
use Rattle.std.specs.Prelude.{List, [], ◌∷◌, map, ℕ, ◌/◌, take}
use Rattle.dictionary_layout.specs.Terms.{Term, start_terms}
use Rattle.dictionary_layout.specs.Layout.{Dict, dict, size, layout}
use Rattle.dictionary_layout.specs.Dictionary.{abstract_put, abstract_lookup}
use Rattle.driver_refusals.specs.Lent.{Lent}
use Rattle.driver_load.specs.Closed.{AnswerOfRun}
use Rattle.driver_run.specs.Run.{abstract_run}
use Rattle.driver_step.specs.Step.{AnswerOfTurn}
use Rattle.driver_turns.specs.Turns.{open_past, pass_past, abstract_turn}
use Rattle.ntriples.specs.Reading.{ReadAnswer, abstract_read}
use Rattle.ntriples_canonical.specs.Calls.{WriteAnswer, abstract_write}
use Rattle.driver_calls.specs.Calls.{Call, put, lookup, run_on, open_on, pass_on, read_in, write_in, abstract_call, terms_after}
use Rattle.edge_bytes.specs.Bytes.{bytes_of, read_buffer}
use Rattle.edge_c.specs.Calls.{read_dict, put_bytes_give, PlaceAnswer, place_at, place_gives, read_lent, answer_in_bytes}
use Rattle.edge_c.specs.Calls.{run_bytes_give, turn_bytes_give, load_in_bytes, read_bytes_give, write_bytes_give}

-- what a call gives: a put its number and id, a lookup the term's place in the arena, a run, an opening call, a pass, a read and a write
-- their answer and the bytes that they leave
pub data ByteOut : Type 0 where
  put_out : ℕ → ℕ → ByteOut
  place_out : PlaceAnswer → ByteOut
  run_out : AnswerOfRun → ByteOut
  turn_out : AnswerOfTurn → ByteOut
  read_out : ReadAnswer → ByteOut
  write_out : WriteAnswer → ByteOut

-- OVER BYTES: what the contracts of the C entry points promise. The buffers of a run, an opening call and a pass, a read's load, a write's
-- store and the dictionary's table are bytes.
pub record ByteLeft : Type 0 where
  pub out : ByteOut
  pub contents : Dict

unfoldable pub byte_call_gives : Dict → Call → ByteLeft
byte_call_gives d (put t) = let a = put_bytes_give d t in record { out = put_out a.number a.id; contents = a.contents }
byte_call_gives d (lookup i) = record { out = place_out (place_gives (read_dict d) i); contents = d }
byte_call_gives d (run_on b) = let a = run_bytes_give d b in record { out = run_out a.answer; contents = a.contents }
byte_call_gives d (open_on b) = let a = turn_bytes_give open_past d b in record { out = turn_out a.answer; contents = a.contents }
byte_call_gives d (pass_on b) = let a = turn_bytes_give pass_past d b in record { out = turn_out a.answer; contents = a.contents }
byte_call_gives d (read_in l f) = let a = read_bytes_give d l f in record { out = read_out a.answer; contents = a.contents }
byte_call_gives d (write_in s n p) = record { out = write_out (write_bytes_give d s n p); contents = d }

-- a call and what it gave
pub record ByteEvent : Type 0 where
  pub call : Call
  pub out : ByteOut

abbrev pub byte_event : Call → ByteOut → ByteEvent
byte_event c o = record { call = c; out = o }

-- A LIST OF CALLS: what each gave, and the contents at the end; a refused call stays in the list
pub record ByteListLeft : Type 0 where
  pub events : List ByteEvent
  pub contents : Dict

unfoldable pub byte_calls_give : Dict → List Call → ByteListLeft
byte_calls_give d [] = record { events = []; contents = d }
byte_calls_give d (c ∷ cs) =
    let l = byte_call_gives d c in
    let r = byte_calls_give l.contents cs in
    record { events = byte_event c l.out ∷ r.events; contents = r.contents }

-- COMPUTED from the terms held. A call with its buffers as numbers: the terms held after it are those that `compute` gives for it.
abbrev pub read_call : Call → Call
read_call (put t) = put t
read_call (lookup i) = lookup i
read_call (run_on b) = run_on (read_lent b)
read_call (open_on b) = open_on (read_lent b)
read_call (pass_on b) = pass_on (read_lent b)
read_call (read_in l f) = read_in (read_buffer l) f
read_call (write_in s n p) = write_in (read_buffer s) n p

-- terms' bytes follow each other without gaps, so a term's begin where those of the terms before it end; 0 and 0 after a refusal
unfoldable pub abstract_place : List Term → ℕ → PlaceAnswer
abstract_place ts i = place_at (size (take i ts)) (abstract_lookup ts i)

-- the answer a of an opening call or a pass that was lent the buffers b of bytes
abbrev pub turn_answer_in_bytes : Lent → AnswerOfTurn → AnswerOfTurn
turn_answer_in_bytes b a = record { run = answer_in_bytes b a.run; done = a.done }

unfoldable pub abstract_out : ℕ → ℕ → List Term → Call → ByteOut
abstract_out tl al ts (put t) = let p = abstract_put tl al ts t in put_out p.number p.id
abstract_out tl al ts (lookup i) = place_out (abstract_place ts i)
abstract_out tl al ts (run_on b) = run_out (answer_in_bytes b (abstract_run tl al ts (read_lent b)).answer)
abstract_out tl al ts (open_on b) = turn_out (turn_answer_in_bytes b (abstract_turn open_past tl al ts (read_lent b)).answer)
abstract_out tl al ts (pass_on b) = turn_out (turn_answer_in_bytes b (abstract_turn pass_past tl al ts (read_lent b)).answer)
abstract_out tl al ts (read_in l f) = read_out (load_in_bytes l (abstract_read tl al ts (read_buffer l) f).answer)
abstract_out tl al ts (write_in s n p) = write_out (abstract_write ts (read_buffer s) n p)

unfoldable pub byte_events_of : ℕ → ℕ → List Term → List Call → List ByteEvent
byte_events_of tl al ts [] = []
byte_events_of tl al ts (c ∷ cs) =
    byte_event c (abstract_out tl al ts c) ∷ byte_events_of tl al (abstract_call tl al ts (read_call c)).held cs

-- contents with the table as bytes
abbrev pub dict_in_bytes : Dict → Dict
dict_in_bytes d = dict (bytes_of d.table) d.arena d.terms d.used

-- the whole list, from the terms ts on: events, and the contents that the terms computed have
abbrev pub byte_abstract_from : ℕ → ℕ → List Term → List Call → ByteListLeft
byte_abstract_from tl al ts cs = record {
  events = byte_events_of tl al ts cs;
  contents = dict_in_bytes (layout tl al (terms_after tl al ts (map read_call cs)));
}

-- and from a start, lent a table of n bytes and an arena of al
abbrev pub abstract_bytes : ℕ → ℕ → List Call → ByteListLeft
abstract_bytes n al cs = byte_abstract_from (n / 4) al start_terms cs

-- the number of a call's result
abbrev pub byte_number_of : ByteOut → ℕ
byte_number_of (put_out n i) = n
byte_number_of (place_out p) = p.number
byte_number_of (run_out o) = o.number
byte_number_of (turn_out o) = o.run.number
byte_number_of (read_out o) = o.number
byte_number_of (write_out o) = o.number
