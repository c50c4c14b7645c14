-- The terms only grow, so every accepted run of a list may be read with the terms of its end. Assumes nothing.
use mathlib.Core.Path.{◌≡◌, refl, sym, ◌∙◌, ap, subst}
use mathlib.Core.Logic.{◌⊎◌, inl, inr}
use mathlib.Core.Bool.{◌&&◌, not}
use mathlib.Core.List.{List, [], ◌∷◌}
use Prim.Native.Nat.{ℕ, zero, suc, ◌≤◌, ◌<◌}
use native.Mathlib.Omega.{arith}
use lib.Dec.{T, ltb, eqb, ltb→lt}
use lib.ListN.{length, get_or, get_or-append}
use Rattle.driver_refusals.specs.Lent.{Lent}
use Rattle.driver_load.specs.Closed.{AnswerOfRun, store_room, findings_room, outcome_answer, containers, closed}
use Rattle.driver_run.specs.Run.{AbstractRunResult, run_all_put, run_passed, abstract_run}
use Rattle.driver_turns.specs.Turns.{open_past, pass_past}
use Rattle.driver_refusals.specs.RunRefusals.{first_refusal, run_refusals}
use Rattle.dictionary_layout.specs.Terms.{Term, no_term, property_term, membership_term, member_term, run_terms}
use Rattle.dictionary_layout.specs.Dictionary.{place_from, id_of, AllPut, full, all_put, put_all}
use Rattle.common.specs.Triples.{Triple, Row, Finding, In, here, there, all, no_zero}
use Rattle.dictionary_containers.specs.Containers.{is_container_term}
use Rattle.meaning.specs.Run.{accepted}
use Rattle.meaning.specs.RowsRun.{run_rows}
use Rattle.common.specs.Rows.{triples}
use Rattle.common.proofs.Lists.{in_nil, in_cons, and←}
use Rattle.meaning.proofs.RowsRun.{same_dictionary}
use Rattle.driver_run.proofs.PuttingAll.{Grown, grown_none, grown_trans, grown_length, put_grows, put_all_grows, Has, put_all_has}
use Rattle.dictionary_run_terms.proofs.Places.{place_stays}
use Rattle.driver_refusals.proofs.Refusing.{all_in}
use Rattle.ntriples.proofs.Growing.{read_keeps}
use Rattle.driver_calls.specs.Calls.{Call, put, lookup, run_on, open_on, pass_on, read_in, write_in, run_gave, abstract_call}
use Rattle.driver_calls.specs.Calls.{Event, event, ran, events_of, terms_after}
use Rattle.driver_calls.proofs.Turns.{open_shows, pass_shows, turn_keeps}
use Rattle.driver_run.proofs.Accepting.{AcceptedRun, run_accepted}

run_grows : (tl al : ℕ) (ts : List Term) (b : Lent) → Grown ts (abstract_run tl al ts b).held
unfolding abstract_run
run_grows tl al ts b = go (first_refusal (run_refusals (length ts) b))
  where
    three : (w : AllPut) → put_all tl al ts run_terms ≡ w → Grown ts (run_all_put b ts w).held
    three full e = grown_none ts
    three (all_put us) e = put_all_grows tl al ts run_terms us e

    go : (n : ℕ) → Grown ts (run_passed n tl al ts b).held
    go zero = three (put_all tl al ts run_terms) refl
    go (suc n) = grown_none ts

pub abstract_grows : (tl al : ℕ) (ts : List Term) (c : Call) → Grown ts (abstract_call tl al ts c).held
unfolding abstract_call
abstract_grows tl al ts (put t) = put_grows tl al ts t
abstract_grows tl al ts (lookup i) = grown_none ts
abstract_grows tl al ts (run_on b) = run_grows tl al ts b
abstract_grows tl al ts (open_on b) =
    turn_keeps open_past open_shows tl al ts b (Grown ts) (put_all_grows tl al ts run_terms) (grown_none ts)
abstract_grows tl al ts (pass_on b) =
    turn_keeps pass_past pass_shows tl al ts b (Grown ts) (put_all_grows tl al ts run_terms) (grown_none ts)
abstract_grows tl al ts (read_in l f) =
    read_keeps (Grown ts) tl al (λ us r ws g e. grown_trans ts us ws g (put_all_grows tl al us r ws e)) ts l f (grown_none ts)
abstract_grows tl al ts (write_in s n p) = grown_none ts

pub calls_grow : (tl al : ℕ) (ts : List Term) (cs : List Call) → Grown ts (terms_after tl al ts cs)
unfolding terms_after
calls_grow tl al ts [] = grown_none ts
calls_grow tl al ts (c ∷ cs) =
    grown_trans ts (abstract_call tl al ts c).held (terms_after tl al (abstract_call tl al ts c).held cs) (abstract_grows tl al ts c)
    (calls_grow tl al (abstract_call tl al ts c).held cs)

pub load_clean : (l : List ℕ) → T (all (λ i. not (eqb i 0)) l) → (t : Triple) → In t (triples l) → T (no_zero t)
load_clean l h t i =
    let (x, y, z) = all_in (λ i. not (eqb i 0)) l h t i in
    and← (not (eqb t.s 0) && not (eqb t.p 0)) (not (eqb t.o 0)) (and← (not (eqb t.s 0)) (not (eqb t.p 0)) x y) z

-- the terms of a later moment say the same of a load whose ids are known
pub later : (us ws : List Term) → Grown us ws → ((t : Term) → In t run_terms → Has us t) → (load : List Triple)
    → ((t : Triple) → In t load → t.p < length us) → (cap fcap : ℕ)
    → run_rows (containers us) cap fcap load ≡ run_rows (containers ws) cap fcap load
unfolding containers run_terms
later us ws g h load k cap fcap =
    same_dictionary (containers us) (containers ws) load
    (same property_term (h property_term (here refl)))
    (same membership_term (h membership_term (there (here refl))))
    (same member_term (h member_term (there (there (here refl)))))
    (λ t i. ap (λ (x : Term). is_container_term x.kind x.bytes)
    (sym (ap (λ l. get_or l t.p no_term) g.1 ∙ get_or-append us g.0 no_term t.p (k t i))))
    cap fcap
  where
    same : (t : Term) → Has us t → id_of (place_from 0 t us) ≡ id_of (place_from 0 t ws)
    same t x = ap id_of (x.1 ∙ sym (ap (place_from 0 t) g.1 ∙ place_stays 0 t us g.0 x.0 x.1))

-- EVERY ACCEPTED RUN OF A LIST, read with the terms of the list's end
pub record Reading (ws : List Term) (b : Lent) (o : AnswerOfRun) : Type 0 where
  pub rows : List Row
  pub row : List Finding
  pub n : ℕ
  pub k : List ℕ
  pub runs : closed b ws ≡ accepted rows row n k
  pub gives : o ≡ outcome_answer b (accepted rows row n k)
  pub clean : (t : Triple) → In t (triples b.load) → T (no_zero t)

accepted_reading : (tl al : ℕ) (ts ws : List Term) (b : Lent) (l : AbstractRunResult) → AcceptedRun tl al ts b l → Grown l.held ws
    → Reading ws b l.answer
accepted_reading tl al ts ws b l a g =
    let us = a.terms in
    let n = grown_length ts us (put_all_grows tl al ts run_terms us a.puts_all) in
    record {
      rows = a.rows;
      row = a.row;
      n = a.n;
      k = a.k;
      runs = sym (later us ws (subst (λ x. Grown x ws) a.held g) (put_all_has tl al ts run_terms us a.puts_all)
          (triples b.load) (λ t i. below t i n) (store_room b) (findings_room b)) ∙ a.runs;
      gives = a.gives;
      clean = load_clean b.load a.unblank;
    }
  where
    below : (t : Triple) → In t (triples b.load) → length ts ≤ length a.terms → t.p < length a.terms
    below t i n = let h = ltb→lt t.p (length ts) (all_in (λ i. ltb i (length ts)) b.load a.known t i).1 in omega arith

first_reading : (tl al : ℕ) (ts ws : List Term) (c : Call) (b : Lent) (o : AnswerOfRun)
    → ran b o ≡ event c (abstract_call tl al ts c).out → Grown (abstract_call tl al ts c).held ws → o.number ≡ 0
    → Reading ws b o
unfolding abstract_call
first_reading tl al ts ws (put t) b o e g n =
    let f : run_on b ≡ put t = ap (λ (x : Event). x.call) e in
    let z : ◌≡◌ {A = ℕ} 0 1 = cc in
    absurd (omega arith)
first_reading tl al ts ws (lookup x) b o e g n =
    let f : run_on b ≡ lookup x = ap (λ (x : Event). x.call) e in
    let z : ◌≡◌ {A = ℕ} 0 1 = cc in
    absurd (omega arith)
first_reading tl al ts ws (read_in l f) b o e g n =
    let f : run_on b ≡ read_in l f = ap (λ (x : Event). x.call) e in
    let z : ◌≡◌ {A = ℕ} 0 1 = cc in
    absurd (omega arith)
first_reading tl al ts ws (write_in s m p) b o e g n =
    let f : run_on b ≡ write_in s m p = ap (λ (x : Event). x.call) e in
    let z : ◌≡◌ {A = ℕ} 0 1 = cc in
    absurd (omega arith)
first_reading tl al ts ws (open_on x) b o e g n =
    let f : run_on b ≡ open_on x = ap (λ (x : Event). x.call) e in
    let z : ◌≡◌ {A = ℕ} 0 1 = cc in
    absurd (omega arith)
first_reading tl al ts ws (pass_on x) b o e g n =
    let f : run_on b ≡ pass_on x = ap (λ (x : Event). x.call) e in
    let z : ◌≡◌ {A = ℕ} 0 1 = cc in
    absurd (omega arith)
first_reading tl al ts ws (run_on b') b o e g n =
    let f : run_on b ≡ run_on b' = ap (λ (x : Event). x.call) e in
    let f₂ : run_gave o ≡ run_gave (abstract_run tl al ts b').answer = ap (λ (x : Event). x.out) e in
    let q : b ≡ b' = cc in
    let q₂ : o ≡ (abstract_run tl al ts b').answer = cc in
    subst (λ (x : Lent). Reading ws x o) (sym q)
    (subst (Reading ws b') (sym q₂) (accepted_reading tl al ts ws b' (abstract_run tl al ts b')
    (run_accepted tl al ts b' (ap (λ (x : AnswerOfRun). x.number) (sym q₂) ∙ n)) g))

pub reading : (tl al : ℕ) (ts : List Term) (cs : List Call) (b : Lent) (o : AnswerOfRun)
    → In (ran b o) (events_of tl al ts cs) → o.number ≡ 0 → Reading (terms_after tl al ts cs) b o
unfolding events_of terms_after
reading tl al ts [] b o i n = absurd (in_nil i)
reading tl al ts (c ∷ cs) b o i n =
    go (in_cons i) (calls_grow tl al (abstract_call tl al ts c).held cs) (λ j. reading tl al (abstract_call tl al ts c).held cs b o j n)
  where
    go : (ran b o ≡ event c (abstract_call tl al ts c).out)
        ⊎ In (ran b o) (events_of tl al (abstract_call tl al ts c).held cs)
        → Grown (abstract_call tl al ts c).held (terms_after tl al (abstract_call tl al ts c).held cs)
        → (In (ran b o) (events_of tl al (abstract_call tl al ts c).held cs)
        → Reading (terms_after tl al (abstract_call tl al ts c).held cs) b o)
        → Reading (terms_after tl al (abstract_call tl al ts c).held cs) b o
    go (inl e) g k = first_reading tl al ts (terms_after tl al (abstract_call tl al ts c).held cs) c b o e g n
    go (inr j) g k = k j
