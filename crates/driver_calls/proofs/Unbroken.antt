-- Refusal 1 is never computed. Assumes nothing.
use mathlib.Core.Path.{◌≡◌, sym, subst}
use mathlib.Core.Logic.{◌⊎◌, inl, inr, ◌≢◌}
use mathlib.Core.Bool.{Bool, true, false}
use mathlib.Core.Option.{Option, some, none}
use mathlib.Core.List.{List, [], ◌∷◌, ◌++◌}
use Prim.Native.Nat.{ℕ, zero, suc}
use native.Mathlib.Omega.{arith}
use lib.Dec.{leb, ltb}
use lib.ListN.{length}
use Rattle.driver_refusals.specs.Lent.{Lent}
use Rattle.driver_load.specs.Closed.{outcome_answer, closed}
use Rattle.driver_run.specs.Run.{run_all_put, run_passed, abstract_run}
use Rattle.driver_turns.specs.Turns.{open_past, pass_past}
use Rattle.driver_refusals.specs.RunRefusals.{first_refusal, run_refusals}
use Rattle.dictionary_layout.specs.Terms.{Term, run_terms}
use Rattle.dictionary_layout.specs.Dictionary.{place_from, kind_known, short, roomy, put_answer, put_at, abstract_put, AllPut, full}
use Rattle.dictionary_layout.specs.Dictionary.{all_put, put_all, LookupAnswer, lookup_answer, term_of, abstract_lookup}
use Rattle.common.specs.Triples.{Row, In, if, all}
use Rattle.common.specs.Rows.{filled, zeros}
use Rattle.meaning.specs.Run.{Outcome, store_full, findings_full, accepted}
use Rattle.common.proofs.Lists.{in_nil, in_cons}
use Rattle.ntriples.proofs.Growing.{read_not_1}
use Rattle.ntriples_canonical.specs.Writing.{text_of, left_out, as_terms}
use Rattle.ntriples_canonical.specs.Calls.{WriteAnswer, write_answer, lengths_hold, first_triples, known, written_on, abstract_write}
use Rattle.driver_calls.specs.Calls.{Call, put, lookup, run_on, open_on, pass_on, read_in, write_in, abstract_call, Event, event}
use Rattle.driver_calls.specs.Calls.{events_of, number_of}
use Rattle.driver_calls.proofs.Turns.{run_refusal_not_1, open_shows, pass_shows, turn_not_1}

put_not_1 : (tl al : ℕ) (ts : List Term) (t : Term) → (abstract_put tl al ts t).number ≢ 1
unfolding abstract_put
put_not_1 tl al ts t = go (kind_known t) (short t)
  where
    room : (b : Bool) → (if b (λ _. put_answer 0 (length ts) (ts ++ (t ∷ []))) (λ _. put_answer 7 0 ts)).number ≢ 1
    room true = omega arith
    room false = omega arith

    place : (q : Option ℕ) → (put_at tl al ts t q).number ≢ 1
    place (some i) = omega arith
    place none = room (roomy tl al ts t)

    go : (a b : Bool) → (if a (λ _. if b (λ _. put_at tl al ts t (place_from 0 t ts)) (λ _. put_answer 11 0 ts))
        (λ _. put_answer 10 0 ts)).number ≢ 1
    go true true = place (place_from 0 t ts)
    go true false = omega arith
    go false b = omega arith

lookup_not_1 : (ts : List Term) (i : ℕ) → (abstract_lookup ts i).number ≢ 1
unfolding abstract_lookup
lookup_not_1 ts i =
    go (ltb i (length ts)) (lookup_answer 0 (term_of ts i).kind (term_of ts i).bytes) (lookup_answer 12 0 []) (omega arith)
    (omega arith)
  where
    go : (b : Bool) (x y : LookupAnswer) → x.number ≢ 1 → y.number ≢ 1 → (if {A = LookupAnswer} b (λ _. x) (λ _. y)).number ≢ 1
    go true x y f g = f
    go false x y f g = g

run_not_1 : (tl al : ℕ) (ts : List Term) (b : Lent) → (abstract_run tl al ts b).answer.number ≢ 1
unfolding abstract_run
run_not_1 tl al ts b = passed (first_refusal (run_refusals (length ts) b)) (run_refusal_not_1 (length ts) b)
  where
    judge : (o : Outcome Row) → (outcome_answer b o).number ≢ 1
    judge store_full = omega arith
    judge findings_full = omega arith
    judge (accepted N F n k) = omega arith

    three : (w : AllPut) → (run_all_put b ts w).answer.number ≢ 1
    three full = omega arith
    three (all_put us) = judge (closed b us)

    passed : (n : ℕ) → n ≢ 1 → (run_passed n tl al ts b).answer.number ≢ 1
    passed zero h = three (put_all tl al ts run_terms)
    passed (suc n) h = h

-- a write refuses with 4, 6 or 15
write_not_1 : (ts : List Term) (store : List ℕ) (n : ℕ) (page : List ℕ) → (abstract_write ts store n page).number ≢ 1
unfolding abstract_write written_on
write_not_1 ts store n page =
    let w = as_terms ts (first_triples store n) in
    go (lengths_hold (length store) n) (all (known (length ts)) (first_triples store n)) (leb (length (text_of w)) (length page))
    (write_answer 0 (length (text_of w)) (left_out w) (filled page (text_of w))) (omega arith)
  where
    go : (a b c : Bool) (x : WriteAnswer) → x.number ≢ 1
        → (if {A = WriteAnswer} a (λ _. if b (λ _. if c (λ _. x) (λ _. write_answer 15 0 0 (zeros page))) (λ _. write_answer 6 0 0 page))
        (λ _. write_answer 4 0 0 page)).number ≢ 1
    go true true true x h = h
    go true true false x h = omega arith
    go true false c x h = omega arith
    go false b c x h = omega arith

pub never_1 : (tl al : ℕ) (ts : List Term) (c : Call) → number_of (abstract_call tl al ts c).out ≢ 1
unfolding abstract_call
never_1 tl al ts (put t) = put_not_1 tl al ts t
never_1 tl al ts (lookup i) = lookup_not_1 ts i
never_1 tl al ts (run_on b) = run_not_1 tl al ts b
never_1 tl al ts (open_on b) = turn_not_1 open_past open_shows tl al ts b
never_1 tl al ts (pass_on b) = turn_not_1 pass_past pass_shows tl al ts b
never_1 tl al ts (read_in l f) = read_not_1 tl al ts l f
never_1 tl al ts (write_in s n p) = write_not_1 ts s n p

pub events_unbroken : (tl al : ℕ) (ts : List Term) (cs : List Call) (e : Event) → In e (events_of tl al ts cs) → number_of e.out ≢ 1
unfolding events_of
events_unbroken tl al ts [] e i = absurd (in_nil i)
events_unbroken tl al ts (c ∷ cs) e i = go (in_cons i) (events_unbroken tl al (abstract_call tl al ts c).held cs e)
  where
    go : (e ≡ event c (abstract_call tl al ts c).out) ⊎ In e (events_of tl al (abstract_call tl al ts c).held cs)
        → (In e (events_of tl al (abstract_call tl al ts c).held cs) → number_of e.out ≢ 1) → number_of e.out ≢ 1
    go (inl q) k = subst (λ (x : Event). number_of x.out ≢ 1) (sym q) (never_1 tl al ts c)
    go (inr j) k = k j
