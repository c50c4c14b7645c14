-- The events of a list over bytes: an accepted run, read as numbers, is a run of the list read as numbers, and an accepted lookup names
-- the place of a term that is held at the end. Assumes nothing.
use mathlib.Core.Path.{◌≡◌, refl, sym, ◌∙◌, ap, subst}
use mathlib.Core.Logic.{◌⊎◌, inl, inr, ◌≢◌}
use mathlib.Core.Bool.{Bool, true, false}
use mathlib.Core.List.{List, [], ◌∷◌, map}
use Prim.Native.Nat.{ℕ, ◌≤◌, ◌<◌}
use native.Mathlib.Omega.{arith}
use lib.Dec.{T, ltb, ltb→lt}
use lib.ListN.{length, take, get_or-append}
use lib.Seq.{take-append-le}
use Rattle.common.specs.Triples.{In, here, there, if}
use Rattle.common.proofs.Lists.{in_nil, in_cons}
use Rattle.dictionary_layout.specs.Terms.{Term, no_term}
use Rattle.dictionary_layout.specs.Layout.{size}
use Rattle.dictionary_layout.specs.Dictionary.{LookupAnswer, lookup_answer, term_of, abstract_lookup}
use Rattle.dictionary_layout.proofs.Holding.{Holds}
use Rattle.driver_refusals.specs.Lent.{Lent}
use Rattle.driver_load.specs.Closed.{AnswerOfRun}
use Rattle.driver_run.specs.Run.{abstract_run}
use Rattle.driver_run.proofs.PuttingAll.{Grown, grown_length, grown_trans}
use Rattle.driver_calls.specs.Calls.{Call, put, lookup, run_on, open_on, pass_on, read_in, write_in, run_gave, abstract_call, event}
use Rattle.driver_calls.specs.Calls.{events_of, terms_after, number_of}
use Rattle.driver_calls.proofs.Abstraction.{abstract_holds}
use Rattle.driver_calls.proofs.Growth.{abstract_grows, calls_grow}
use Rattle.driver_calls.proofs.Unbroken.{never_1}
use Rattle.edge_c.specs.Calls.{PlaceAnswer, place_at, read_lent, answer_in_bytes}
use Rattle.edge_byte_calls.specs.ByteCalls.{place_out, run_out, ByteEvent, byte_event, read_call, abstract_place, abstract_out}
use Rattle.edge_byte_calls.specs.ByteCalls.{byte_events_of, byte_number_of}
use Rattle.edge_byte_calls.specs.Demand3.{read_answer, NextLoad}
use Rattle.edge_byte_calls.proofs.Answers.{answer_read, answer_loads}

-- AN EVENT OF A LIST: what was computed from the terms held before the call, which are held at the end too, and the same call in the
-- list read as numbers
pub record Occurs (tl al : ℕ) (ts : List Term) (cs : List Call) (e : ByteEvent) : Type 0 where
  pub before : List Term
  pub holds : Holds tl al before
  pub gave : e.out ≡ abstract_out tl al before e.call
  pub grown : Grown before (terms_after tl al ts (map read_call cs))
  pub read : In (event (read_call e.call) (abstract_call tl al before (read_call e.call)).out)
      (events_of tl al ts (map read_call cs))

occurs : {tl al : ℕ} {ts : List Term} (cs : List Call) → Holds tl al ts → (e : ByteEvent) → In e (byte_events_of tl al ts cs)
    → Occurs tl al ts cs e
unfolding byte_events_of events_of terms_after
occurs [] h e i = absurd (in_nil i)
occurs {tl} {al} {ts} (c ∷ cs) h e i = go (in_cons i)
    (occurs {ts = (abstract_call tl al ts (read_call c)).held} cs (abstract_holds tl al ts (read_call c) h) e)
  where
    us : List Term
    us = (abstract_call tl al ts (read_call c)).held

    ws : List Term
    ws = terms_after tl al us (map read_call cs)

    first : Occurs tl al ts (c ∷ cs) (byte_event c (abstract_out tl al ts c))
    first = record {
      before = ts;
      holds = h;
      gave = refl;
      grown = grown_trans ts us ws (abstract_grows tl al ts (read_call c)) (calls_grow tl al us (map read_call cs));
      read = here refl;
    }

    go : (e ≡ byte_event c (abstract_out tl al ts c)) ⊎ In e (byte_events_of tl al us cs)
        → (In e (byte_events_of tl al us cs) → Occurs tl al us cs e) → Occurs tl al ts (c ∷ cs) e
    go (inl q) k = subst (Occurs tl al ts (c ∷ cs)) (sym q) first
    go (inr j) k =
        let o = k j in
        record { before = o.before; holds = o.holds; gave = o.gave; grown = o.grown; read = there o.read }

-- the number computed is that of the call read as numbers
same_number : (tl al : ℕ) (ts : List Term) (c : Call)
    → byte_number_of (abstract_out tl al ts c) ≡ number_of (abstract_call tl al ts (read_call c)).out
unfolding abstract_out abstract_call abstract_place
same_number tl al ts (put t) = refl
same_number tl al ts (lookup i) = refl
same_number tl al ts (run_on b) = refl
same_number tl al ts (open_on b) = refl
same_number tl al ts (pass_on b) = refl
same_number tl al ts (read_in l f) = refl
same_number tl al ts (write_in s n p) = refl

-- the place of a term that is held
pub record Placed (ws : List Term) (i : ℕ) (p : PlaceAnswer) : Type 0 where
  pub held : i < length ws
  pub begins : p.begin ≡ size (take i ws)
  pub long : p.len ≡ length (term_of ws i).bytes

place_known : (ts : List Term) (i : ℕ) → (abstract_place ts i).number ≡ 0 → Placed ts i (abstract_place ts i)
unfolding abstract_place abstract_lookup
place_known ts i n = go (ltb i (length ts)) (ltb→lt i (length ts)) n
  where
    answer : Bool → LookupAnswer
    answer b = if b (λ _. lookup_answer 0 (term_of ts i).kind (term_of ts i).bytes) (λ _. lookup_answer 12 0 [])

    go : (b : Bool) → (T b → i < length ts) → (answer b).number ≡ 0 → Placed ts i (place_at (size (take i ts)) (answer b))
    go true f n = record { held = f tt; begins = refl; long = refl }
    go false f n = absurd (omega arith)

-- terms that follow move none of those before
placed_later : (ts ws : List Term) (i : ℕ) (p : PlaceAnswer) → Grown ts ws → Placed ts i p → Placed ws i p
placed_later ts ws i p g a =
    let h = a.held in
    let k : i ≤ length ts = omega arith in
    let t = ap (λ (l : List Term). term_of l i) g.1 ∙ get_or-append ts g.0 no_term i h in
    record {
      held = omega (arith, grown_length ts ws g);
      begins = a.begins ∙ sym (ap (λ (l : List Term). size (take i l)) g.1 ∙ ap size (take-append-le i ts g.0 k));
      long = a.long ∙ sym (ap (λ (x : Term). length x.bytes) t);
    }

module _ (tl al : ℕ) (ts : List Term) (cs : List Call) (h : Holds tl al ts) where
  -- REFUSAL 1 is never computed
  pub byte_events_unbroken : (e : ByteEvent) → In e (byte_events_of tl al ts cs) → byte_number_of e.out ≢ 1
  byte_events_unbroken e i n =
      let o = occurs cs h e i in
      let us = o.before in
      never_1 tl al us (read_call e.call) (sym (same_number tl al us e.call) ∙ (sym (ap byte_number_of o.gave) ∙ n))

  -- AN ACCEPTED RUN
  pub run_read : (b : Lent) (o : AnswerOfRun) → In (byte_event (run_on b) (run_out o)) (byte_events_of tl al ts cs) → o.number ≡ 0
      → In (event (run_on (read_lent b)) (run_gave (read_answer o))) (events_of tl al ts (map read_call cs)) × NextLoad o
  unfolding abstract_out abstract_call
  run_read b o i n =
      let x = occurs cs h (byte_event (run_on b) (run_out o)) i in
      let m = read_lent b in
      let a = (abstract_run tl al x.before m).answer in
      let f : run_out o ≡ run_out (answer_in_bytes b a) = x.gave in
      let q : o ≡ answer_in_bytes b a = cc in
      let z : a.number ≡ 0 = sym (ap (λ (r : AnswerOfRun). r.number) q) ∙ n in
      let r : read_answer o ≡ a = ap (λ (y : AnswerOfRun). read_answer y) q ∙ answer_read x.holds b m z in (
        subst (λ (y : AnswerOfRun). In (event (run_on m) (run_gave y)) (events_of tl al ts (map read_call cs))) (sym r) x.read,
        subst (λ (y : AnswerOfRun). NextLoad y) (sym q) (answer_loads x.holds b m z),
      )

  -- AN ACCEPTED LOOKUP
  pub place_read : (i : ℕ) (p : PlaceAnswer) → In (byte_event (lookup i) (place_out p)) (byte_events_of tl al ts cs) → p.number ≡ 0
      → Placed (terms_after tl al ts (map read_call cs)) i p
  unfolding abstract_out
  place_read i p j n =
      let x = occurs cs h (byte_event (lookup i) (place_out p)) j in
      let us = x.before in
      let f : place_out p ≡ place_out (abstract_place us i) = x.gave in
      let q : p ≡ abstract_place us i = cc in
      let a = place_known us i (sym (ap (λ (r : PlaceAnswer). r.number) q) ∙ n) in
      placed_later us (terms_after tl al ts (map read_call cs)) i p x.grown (subst (Placed us i) (sym q) a)
