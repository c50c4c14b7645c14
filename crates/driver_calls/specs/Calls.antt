-- Lists of calls: each put, lookup, run, open, pass, read and write is lent the dictionary as the call before left it. What each gives
-- over contents, and what it must give, computed from the lengths of table and arena and the calls' other arguments alone. REFERENCE 8.1
-- and 8.2. A further kind of call that is lent the dictionary is one more constructor of `Call`, and a line in each definition. Assumes
-- nothing.
use Rattle.std.specs.Prelude.{List, [], ◌∷◌, ℕ}
use Rattle.dictionary_layout.specs.Terms.{Term}
use Rattle.dictionary_layout.specs.Layout.{Dict}
use Rattle.dictionary_layout.specs.Dictionary.{LookupAnswer, abstract_put, abstract_lookup}
use Rattle.dictionary_layout.specs.Calls.{put_gives, lookup_gives}
use Rattle.driver_refusals.specs.Lent.{Lent}
use Rattle.driver_load.specs.Closed.{AnswerOfRun}
use Rattle.driver_run.specs.Run.{abstract_run, run_gives}
use Rattle.driver_step.specs.Step.{AnswerOfTurn}
use Rattle.driver_turns.specs.Turns.{open_past, pass_past, abstract_turn, turn_gives}
use Rattle.ntriples.specs.Reading.{ReadAnswer, abstract_read, read_gives}
use Rattle.ntriples_canonical.specs.Calls.{WriteAnswer, abstract_write, write_gives}

-- a call, with what it is lent besides the dictionary: an opening call and a pass what a run is, a read its load and its file, a write its
-- store, the store's triple count and the bytes for the text
pub data Call : Type 0 where
  put : Term → Call
  lookup : ℕ → Call
  run_on : Lent → Call
  open_on : Lent → Call
  pass_on : Lent → Call
  read_in : (load file : List ℕ) → Call
  write_in : (store : List ℕ) (count : ℕ) (page : List ℕ) → Call

-- what it gives, and leaves in what it was lent besides the dictionary: a put its number and id
pub data Out : Type 0 where
  put_gave : ℕ → ℕ → Out
  lookup_gave : LookupAnswer → Out
  run_gave : AnswerOfRun → Out
  turn_gave : AnswerOfTurn → Out
  read_gave : ReadAnswer → Out
  write_gave : WriteAnswer → Out

-- OVER CONTENTS: what the contracts of put, lookup, run, open, pass, read and write promise
pub record Left : Type 0 where
  pub out : Out
  pub contents : Dict

unfoldable pub call_gives : Dict → Call → Left
call_gives d (put t) = let a = put_gives d t in record { out = put_gave a.number a.id; contents = a.contents }
call_gives d (lookup i) = record { out = lookup_gave (lookup_gives d i); contents = d }
call_gives d (run_on b) = let a = run_gives d b in record { out = run_gave a.answer; contents = a.contents }
call_gives d (open_on b) = let a = turn_gives open_past d b in record { out = turn_gave a.answer; contents = a.contents }
call_gives d (pass_on b) = let a = turn_gives pass_past d b in record { out = turn_gave a.answer; contents = a.contents }
call_gives d (read_in l f) = let a = read_gives d l f in record { out = read_gave a.answer; contents = a.contents }
call_gives d (write_in s n p) = record { out = write_gave (write_gives d s n p); contents = d }

-- COMPUTED from the terms held: urn:_, the start's, then each new one that an accepted put, a run or an opening call that passes 7, a
-- pass that passes 7 with a store that it takes, or an accepted read puts, in order
pub record AbstractResult : Type 0 where
  pub out : Out
  pub held : List Term

unfoldable pub abstract_call : ℕ → ℕ → List Term → Call → AbstractResult
abstract_call tl al ts (put t) = let p = abstract_put tl al ts t in record { out = put_gave p.number p.id; held = p.held }
abstract_call tl al ts (lookup i) = record { out = lookup_gave (abstract_lookup ts i); held = ts }
abstract_call tl al ts (run_on b) = let r = abstract_run tl al ts b in record { out = run_gave r.answer; held = r.held }
abstract_call tl al ts (open_on b) = let r = abstract_turn open_past tl al ts b in record { out = turn_gave r.answer; held = r.held }
abstract_call tl al ts (pass_on b) = let r = abstract_turn pass_past tl al ts b in record { out = turn_gave r.answer; held = r.held }
abstract_call tl al ts (read_in l f) = let r = abstract_read tl al ts l f in record { out = read_gave r.answer; held = r.held }
abstract_call tl al ts (write_in s n p) = record { out = write_gave (abstract_write ts s n p); held = ts }

-- a call and what it gave
pub record Event : Type 0 where
  pub call : Call
  pub out : Out

abbrev pub event : Call → Out → Event
event c o = record { call = c; out = o }

-- a run, and its answer
abbrev pub ran : Lent → AnswerOfRun → Event
ran b o = event (run_on b) (run_gave o)

-- A LIST OF CALLS over contents: what each gave, and the contents at the end; a refused call stays in the list
pub record ListLeft : Type 0 where
  pub events : List Event
  pub contents : Dict

unfoldable pub calls_give : Dict → List Call → ListLeft
calls_give d [] = record { events = []; contents = d }
calls_give d (c ∷ cs) =
    let l = call_gives d c in
    let r = calls_give l.contents cs in
    record { events = event c l.out ∷ r.events; contents = r.contents }

-- the same, computed: what each must give, and the terms held at the end
unfoldable pub events_of : ℕ → ℕ → List Term → List Call → List Event
events_of tl al ts [] = []
events_of tl al ts (c ∷ cs) = let r = abstract_call tl al ts c in event c r.out ∷ events_of tl al r.held cs

unfoldable pub terms_after : ℕ → ℕ → List Term → List Call → List Term
terms_after tl al ts [] = ts
terms_after tl al ts (c ∷ cs) = terms_after tl al (abstract_call tl al ts c).held cs

-- the number of a call's result
abbrev pub number_of : Out → ℕ
number_of (put_gave n i) = n
number_of (lookup_gave l) = l.number
number_of (run_gave o) = o.number
number_of (turn_gave o) = o.run.number
number_of (read_gave o) = o.number
number_of (write_gave o) = o.number
