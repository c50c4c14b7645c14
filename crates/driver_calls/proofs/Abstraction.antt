-- What calls give over contents is what is computed from the terms, call by call and over a whole list. Assumes nothing.
use mathlib.Core.Path.{◌≡◌, refl, ◌∙◌, ap}
use mathlib.Core.List.{List, [], ◌∷◌}
use Prim.Native.Nat.{ℕ, zero, suc}
use lib.ListN.{length}
use Rattle.driver_refusals.specs.Lent.{Lent}
use Rattle.driver_run.specs.Run.{unchanged, run_all_put, run_passed, abstract_run, RunResult, run_laid, run_gives}
use Rattle.driver_step.specs.Step.{kept}
use Rattle.driver_turns.specs.Turns.{Past7, open_past, pass_past, TurnResult, turn_laid, turn_gives}
use Rattle.driver_refusals.specs.RunRefusals.{first_refusal, run_refusals}
use Rattle.dictionary_layout.specs.Terms.{Term, start_terms, run_terms}
use Rattle.dictionary_layout.specs.Layout.{Dict, layout}
use Rattle.dictionary_layout.specs.Dictionary.{AllPut, full, all_put, put_all, LookupAnswer, lookup_answer, abstract_lookup}
use Rattle.dictionary_layout.specs.Calls.{start_gives, PutResult, put_result, put_laid, put_gives, lookup_gives}
use Rattle.dictionary_layout.proofs.Holding.{Holds, holds_put, put_all_holds}
use Rattle.dictionary_layout.proofs.Reachable.{on_layout, start_holds, start_leaves}
use Rattle.ntriples.specs.Reading.{read_answer, ReadResult, read_laid, read_gives}
use Rattle.ntriples.proofs.Growing.{read_keeps}
use Rattle.ntriples_canonical.specs.Calls.{WriteAnswer, write_answer, abstract_write, write_gives}
use Rattle.driver_calls.specs.Calls.{Call, put, lookup, run_on, open_on, pass_on, read_in, write_in, put_gave, lookup_gave}
use Rattle.driver_calls.specs.Calls.{run_gave, turn_gave, read_gave, write_gave, Left}
use Rattle.driver_calls.specs.Calls.{call_gives, AbstractResult, abstract_call, event, ListLeft, calls_give, events_of, terms_after}
use Rattle.driver_calls.specs.Demand3.{abstract_list}
use Rattle.driver_calls.proofs.Turns.{open_shows, pass_shows, turn_keeps}

-- one call
abbrev pub laid : ℕ → ℕ → AbstractResult → Left
laid tl al r = record { out = r.out; contents = layout tl al r.held }

-- an opening call or a pass
abbrev turn_left : TurnResult → Left
turn_left a = record { out = turn_gave a.answer; contents = a.contents }

turn_abstract : (f : Past7) (tl al : ℕ) (ts : List Term) (b : Lent) → Holds tl al ts
    → turn_left (turn_gives f (layout tl al ts) b) ≡ turn_left (turn_laid f b tl al ts)
unfolding turn_gives
turn_abstract f tl al ts b h =
    ap turn_left (on_layout tl al ts (turn_laid f b) (λ _. record { answer = kept 1 b; contents = layout tl al ts }) h)

pub call_abstract : (tl al : ℕ) (ts : List Term) (c : Call) → Holds tl al ts
    → call_gives (layout tl al ts) c ≡ laid tl al (abstract_call tl al ts c)
unfolding call_gives abstract_call put_gives lookup_gives run_gives read_gives write_gives
call_abstract tl al ts (put t) h =
    ap (λ (a : PutResult). record { out = put_gave a.number a.id; contents = a.contents })
    (on_layout tl al ts (put_laid t) (λ _. put_result 1 0 (layout tl al ts)) h)
call_abstract tl al ts (lookup i) h =
    ap (λ (a : LookupAnswer). record { out = lookup_gave a; contents = layout tl al ts })
    (on_layout tl al ts (λ tl al ts. abstract_lookup ts i) (λ _. lookup_answer 1 0 []) h)
call_abstract tl al ts (run_on b) h =
    ap (λ (a : RunResult). record { out = run_gave a.answer; contents = a.contents })
    (on_layout tl al ts (run_laid b) (λ _. record { answer = unchanged 1 b; contents = layout tl al ts }) h)
call_abstract tl al ts (open_on b) h = turn_abstract open_past tl al ts b h
call_abstract tl al ts (pass_on b) h = turn_abstract pass_past tl al ts b h
call_abstract tl al ts (read_in l f) h =
    ap (λ (a : ReadResult). record { out = read_gave a.answer; contents = a.contents })
    (on_layout tl al ts (read_laid l f) (λ _. record { answer = read_answer 1 0 l; contents = layout tl al ts }) h)
call_abstract tl al ts (write_in s n p) h =
    ap (λ (a : WriteAnswer). record { out = write_gave a; contents = layout tl al ts })
    (on_layout tl al ts (λ tl al ts. abstract_write ts s n p) (λ _. write_answer 1 0 0 p) h)

-- the terms held after a call can be held
run_holds : (tl al : ℕ) (ts : List Term) (b : Lent) → Holds tl al ts → Holds tl al (abstract_run tl al ts b).held
unfolding abstract_run
run_holds tl al ts b h = go (first_refusal (run_refusals (length ts) b))
  where
    three : (w : AllPut) → put_all tl al ts run_terms ≡ w → Holds tl al (run_all_put b ts w).held
    three full e = h
    three (all_put us) e = put_all_holds tl al ts run_terms us h e

    go : (n : ℕ) → Holds tl al (run_passed n tl al ts b).held
    go zero = three (put_all tl al ts run_terms) refl
    go (suc n) = h

pub abstract_holds : (tl al : ℕ) (ts : List Term) (c : Call) → Holds tl al ts → Holds tl al (abstract_call tl al ts c).held
unfolding abstract_call
abstract_holds tl al ts (put t) h = holds_put tl al ts t h
abstract_holds tl al ts (lookup i) h = h
abstract_holds tl al ts (run_on b) h = run_holds tl al ts b h
abstract_holds tl al ts (open_on b) h =
    turn_keeps open_past open_shows tl al ts b (Holds tl al) (λ us e. put_all_holds tl al ts run_terms us h e) h
abstract_holds tl al ts (pass_on b) h =
    turn_keeps pass_past pass_shows tl al ts b (Holds tl al) (λ us e. put_all_holds tl al ts run_terms us h e) h
abstract_holds tl al ts (read_in l f) h = read_keeps (Holds tl al) tl al (put_all_holds tl al) ts l f h
abstract_holds tl al ts (write_in s n p) h = h

-- THE LIST: what each call gives is as computed, and the contents are those of the terms computed
abbrev pub abstract_from : ℕ → ℕ → List Term → List Call → ListLeft
abstract_from tl al ts cs = record { events = events_of tl al ts cs; contents = layout tl al (terms_after tl al ts cs) }

pub calls_abstract : (tl al : ℕ) (ts : List Term) (cs : List Call) → Holds tl al ts
    → calls_give (layout tl al ts) cs ≡ abstract_from tl al ts cs
unfolding calls_give events_of terms_after
calls_abstract tl al ts [] h = refl
calls_abstract tl al ts (c ∷ cs) h =
    ap (λ (l : Left). more l (calls_give l.contents cs)) (call_abstract tl al ts c h)
    ∙ ap (λ (r : ListLeft). more (laid tl al (abstract_call tl al ts c)) r)
    (calls_abstract tl al (abstract_call tl al ts c).held cs (abstract_holds tl al ts c h))
  where
    more : Left → ListLeft → ListLeft
    more l r = record { events = event c l.out ∷ r.events; contents = r.contents }

-- from what an accepted start leaves
pub start_abstract : (table arena : List ℕ) (cs : List Call) → (start_gives table arena).number ≡ 0
    → calls_give (start_gives table arena).contents cs ≡ abstract_list (length table) (length arena) cs
start_abstract table arena cs e =
    ap (λ (x : Dict). calls_give x cs) (start_leaves table arena e)
    ∙ calls_abstract (length table) (length arena) start_terms cs (start_holds table arena e)
