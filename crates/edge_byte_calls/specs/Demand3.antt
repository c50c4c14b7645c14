-- DEMAND 3 OVER BYTES: one claim about every list of calls through the C entry points, from what an accepted start leaves. REFERENCE 8.4.
-- The loads and answers of runs are read from the bytes as numbers; the rest is `Demand3` of calls. proofs/Demand3.antt proves it.
-- Assumes nothing.
use Rattle.std.specs.Prelude.{◌≡◌, ◌≢◌, List, [], ◌++◌, ℕ, zero, suc, ◌*◌, length, take, drop}
use Rattle.common.specs.Sizes.{load_width, store_width}
use Rattle.common.specs.Triples.{Triple, In}
use Rattle.common.specs.Rows.{flat, triples}
use Rattle.meaning.specs.Batch.{Same, Conditions}
use Rattle.dictionary_layout.specs.Terms.{Term}
use Rattle.dictionary_layout.specs.Layout.{decode}
use Rattle.dictionary_layout.specs.Dictionary.{term_of}
use Rattle.driver_refusals.specs.Lent.{Lent}
use Rattle.driver_load.specs.Closed.{AnswerOfRun, containers}
use Rattle.driver_calls.specs.Calls.{Call, lookup, run_on}
use Rattle.driver_calls.specs.Demand3.{answer, Agree, Exact}
use Rattle.edge_bytes.specs.Bytes.{bytes_of, FitBytes, read_buffer}
use Rattle.edge_c.specs.Calls.{read_dict, start_bytes_give, PlaceAnswer}
use Rattle.edge_byte_calls.specs.ByteCalls.{place_out, run_out, ByteEvent, byte_event, ByteListLeft, byte_calls_give}
use Rattle.edge_byte_calls.specs.ByteCalls.{abstract_bytes, byte_number_of}

-- the answer of a run, with the bytes that it left read as numbers
abbrev pub read_answer : AnswerOfRun → AnswerOfRun
read_answer o = record {
  number = o.number;
  count = o.count;
  counts = o.counts;
  store = read_buffer o.store;
  findings = read_buffer o.findings;
  work = read_buffer o.work;
}

-- the triples of a run's load
abbrev pub loaded : Lent → List Triple
loaded b = triples (read_buffer b.load)

-- the bytes of a triple of a load, and of a row of a store
abbrev pub triple_bytes : ℕ
triple_bytes = 4 * load_width

abbrev pub row_bytes : ℕ
row_bytes = 4 * store_width

-- the bytes of the triples of the first n rows: of each row its first three numbers
abbrev pub copied : ℕ → List ℕ → List ℕ
copied zero store = []
copied (suc n) store = take triple_bytes store ++ copied n (drop row_bytes store)

-- the bytes of the triples that a run left, copied so, and then those of any B are a load of the run's answer with B
abbrev pub NextLoad : AnswerOfRun → Type 0
NextLoad o =
    (B : List Triple) → FitBytes (flat B)
    → triples (read_buffer (copied o.count o.store ++ bytes_of (flat B))) ≡ answer (read_answer o) ++ B

-- what the list of calls gives from what the start leaves, and the terms that the contents name then
abbrev pub list_gives : List ℕ → List ℕ → List Call → ByteListLeft
list_gives table arena cs = byte_calls_give (start_bytes_give table arena).contents cs

abbrev pub terms_named : List ℕ → List ℕ → List Call → List Term
terms_named table arena cs = decode (read_dict (list_gives table arena cs).contents)

-- the table and the arena are those that the start was lent, cs the calls after it
pub record Demand3Bytes (table arena : List ℕ) (cs : List Call) : Type 1 where
  -- call by call: what each gives over the bytes that the call before left is what is computed from the lengths and the calls' other
  -- arguments, and so are the contents that the list leaves
  pub each : list_gives table arena cs ≡ abstract_bytes (length table) (length arena) cs
  -- refusal 1 never occurs
  pub unbroken : (e : ByteEvent) → In e (list_gives table arena cs).events → byte_number_of e.out ≢ 1
  -- where an accepted lookup says that a term's bytes lie, there the arena that the list leaves holds them: a list that ends with the
  -- lookup leaves the arena that the lookup was lent, and no later call moves them
  pub lookups : (i : ℕ) (p : PlaceAnswer) → In (byte_event (lookup i) (place_out p)) (list_gives table arena cs).events → p.number ≡ 0
      → take p.len (drop p.begin (list_gives table arena cs).contents.arena) ≡ (term_of (terms_named table arena cs) i).bytes
  -- every accepted run of the list: exactly what the closure of its load says
  pub exact_each : (b : Lent) (o : AnswerOfRun)
      → In (byte_event (run_on b) (run_out o)) (list_gives table arena cs).events → o.number ≡ 0
      → Exact (containers (terms_named table arena cs)) (loaded b) (read_answer o)
  -- what it writes the next run reads
  pub next_load : (b : Lent) (o : AnswerOfRun)
      → In (byte_event (run_on b) (run_out o)) (list_gives table arena cs).events → o.number ≡ 0 → NextLoad o
  -- wherever three accepted runs of the list load A, then A's answer, read from the bytes of the first run's store, with B, then A and B
  -- together, each load in any order and with any repeats; under the conditions of `Demand3`: the last two give the same, and it is
  -- what the closure of A and B together says
  pub batch : (b₁ b₂ b₃ : Lent) (o₁ o₂ o₃ : AnswerOfRun)
      → In (byte_event (run_on b₁) (run_out o₁)) (list_gives table arena cs).events
      → In (byte_event (run_on b₂) (run_out o₂)) (list_gives table arena cs).events
      → In (byte_event (run_on b₃) (run_out o₃)) (list_gives table arena cs).events
      → o₁.number ≡ 0 → o₂.number ≡ 0 → o₃.number ≡ 0
      → (A B : List Triple) → Same (loaded b₁) A → Same (loaded b₂) (answer (read_answer o₁) ++ B) → Same (loaded b₃) (A ++ B)
      → Conditions (containers (terms_named table arena cs)).is A B (answer (read_answer o₁))
      → Agree (read_answer o₂) (read_answer o₃) × Exact (containers (terms_named table arena cs)) (A ++ B) (read_answer o₃)
