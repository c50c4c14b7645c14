-- DEMAND 3 OVER BYTES, proved: every list of calls through the C entry points, from what an accepted start leaves. Assumes nothing.
use mathlib.Core.Path.{◌≡◌, sym, ◌∙◌, ap, subst}
use mathlib.Core.Logic.{◌≢◌}
use mathlib.Core.List.{List, ◌++◌, map}
use Prim.Native.Nat.{ℕ}
use lib.ListN.{length, take, drop}
use Rattle.common.specs.Triples.{In}
use Rattle.common.specs.Rows.{triples}
use Rattle.meaning.specs.Batch.{Conditions}
use Rattle.dictionary_layout.specs.Terms.{Term, start_terms}
use Rattle.dictionary_layout.specs.Layout.{decode}
use Rattle.dictionary_layout.specs.Dictionary.{term_of}
use Rattle.dictionary_layout.specs.Calls.{start_gives}
use Rattle.dictionary_layout.proofs.Chains.{arena_part}
use Rattle.dictionary_layout.proofs.Decoding.{decode_layout}
use Rattle.driver_refusals.specs.Lent.{Lent}
use Rattle.driver_load.specs.Closed.{AnswerOfRun, containers}
use Rattle.driver_calls.specs.Calls.{Call, lookup, run_on, run_gave, event, ListLeft, calls_give, terms_after}
use Rattle.driver_calls.specs.Demand3.{answer, Agree, Exact, Demand3}
use Rattle.driver_calls.proofs.Demand3.{demand_3}
use Rattle.edge_bytes.specs.Bytes.{read_buffer}
use Rattle.edge_c.specs.Calls.{read_dict, start_bytes_give, PlaceAnswer, read_lent}
use Rattle.edge_byte_calls.specs.ByteCalls.{place_out, run_out, ByteEvent, byte_event, ByteListLeft, read_call, byte_events_of}
use Rattle.edge_byte_calls.specs.ByteCalls.{byte_abstract_from, byte_number_of}
use Rattle.edge_byte_calls.specs.Demand3.{read_answer, NextLoad, list_gives, terms_named, Demand3Bytes}
use Rattle.edge_byte_calls.proofs.Fitting.{read_back}
use Rattle.edge_byte_calls.proofs.Abstraction.{calls_hold, started, starts, whole_table, list_abstract}
use Rattle.edge_byte_calls.proofs.Reading.{byte_events_unbroken, run_read, place_read}

module _ (table arena : List ℕ) (s : (start_bytes_give table arena).number ≡ 0) (cs : List Call) where
  -- the table's numbers, and the calls read as numbers
  abbrev numbers : List ℕ
  numbers = read_buffer table

  abbrev tl : ℕ
  tl = length (read_buffer table)

  abbrev al : ℕ
  al = length arena

  abbrev ns : List Call
  ns = map read_call cs

  -- the terms held at the end
  abbrev ws : List Term
  ws = terms_after tl al start_terms ns

  over_numbers : Demand3 numbers arena ns
  over_numbers = demand_3 numbers arena (started table arena s) ns

  abstract_list : list_gives table arena cs ≡ byte_abstract_from tl al start_terms cs
  abstract_list = list_abstract table arena s cs

  events : (list_gives table arena cs).events ≡ byte_events_of tl al start_terms cs
  events = ap (λ (l : ByteListLeft). l.events) abstract_list

  named : terms_named table arena cs ≡ ws
  named =
      ap (λ (l : ByteListLeft). decode (read_dict l.contents)) abstract_list
      ∙ (ap decode (read_back (calls_hold tl al start_terms ns (starts table arena s))) ∙ decode_layout tl al ws)

  -- the list read as numbers names the same terms
  abbrev given : ListLeft
  given = calls_give (start_gives numbers arena).contents ns

  same_terms : decode given.contents ≡ terms_named table arena cs
  same_terms = ap (λ (l : ListLeft). decode l.contents) over_numbers.each ∙ (decode_layout tl al ws ∙ sym named)

  unbroken : (e : ByteEvent) → In e (list_gives table arena cs).events → byte_number_of e.out ≢ 1
  unbroken e i = byte_events_unbroken tl al start_terms cs (starts table arena s) e (subst (In e) events i)

  -- an accepted run of the list is a run of the list read as numbers
  run_of : (b : Lent) (o : AnswerOfRun) → In (byte_event (run_on b) (run_out o)) (list_gives table arena cs).events → o.number ≡ 0
      → In (event (run_on (read_lent b)) (run_gave (read_answer o))) given.events × NextLoad o
  run_of b o i n =
      let (j, x) = run_read tl al start_terms cs (starts table arena s) b o (subst (In (byte_event (run_on b) (run_out o))) events i) n in
      let e = ap (λ (l : ListLeft). l.events) over_numbers.each in
      (subst (In (event (run_on (read_lent b)) (run_gave (read_answer o)))) (sym e) j, x)

  place_lies : (i : ℕ) (p : PlaceAnswer) → In (byte_event (lookup i) (place_out p)) (list_gives table arena cs).events → p.number ≡ 0
      → take p.len (drop p.begin (list_gives table arena cs).contents.arena) ≡ (term_of (terms_named table arena cs) i).bytes
  place_lies i p j n =
      let a = place_read tl al start_terms cs (starts table arena s) i p (subst (In (byte_event (lookup i) (place_out p))) events j) n in
      (λ k. take (a.long k) (drop (a.begins k) (abstract_list k).contents.arena))
      ∙ (arena_part tl al ws i a.held ∙ ap (λ (ts : List Term). (term_of ts i).bytes) (sym named))

pub demand_3_bytes : (table arena : List ℕ) → (start_bytes_give table arena).number ≡ 0 → (cs : List Call) → Demand3Bytes table arena cs
demand_3_bytes table arena s cs =
    let d = over_numbers table arena s cs in
    let q = same_terms table arena s cs in
    let r = run_of table arena s cs in
    record {
      each =
          abstract_list table arena s cs
          ∙ ap (λ (n : ℕ). byte_abstract_from n (length arena) start_terms cs) (whole_table table arena s);
      unbroken = unbroken table arena s cs;
      lookups = place_lies table arena s cs;
      exact_each = λ b o i n.
          subst (λ (ts : List Term). Exact (containers ts) (triples (read_buffer b.load)) (read_answer o)) q
          (d.exact_each (read_lent b) (read_answer o) (r b o i n).0 n);
      next_load = λ b o i n. (r b o i n).1;
      batch = λ b₁ b₂ b₃ o₁ o₂ o₃ i₁ i₂ i₃ n₁ n₂ n₃ A B s₁ s₂ s₃ h.
          subst (λ (ts : List Term). Agree (read_answer o₂) (read_answer o₃) × Exact (containers ts) (A ++ B) (read_answer o₃)) q
          (d.batch (read_lent b₁) (read_lent b₂) (read_lent b₃) (read_answer o₁) (read_answer o₂) (read_answer o₃)
          (r b₁ o₁ i₁ n₁).0 (r b₂ o₂ i₂ n₂).0 (r b₃ o₃ i₃ n₃).0 n₁ n₂ n₃ A B s₁ s₂ s₃
          (subst (λ (ts : List Term). Conditions (containers ts).is A B (answer (read_answer o₁))) (sym q) h));
    }
