-- DEMAND 3: one claim about every list of calls from what an accepted start leaves: every call gives what it must, and closing A, then
-- A's answer with B, gives the same as closing A and B together. REFERENCE 8. proofs/Demand3.antt proves it. Assumes nothing.
use Rattle.std.specs.Prelude.{◌≡◌, ◌≢◌, List, ◌++◌, ℕ, ◌*◌, T, length, take}
use Rattle.common.specs.Triples.{Triple, triple, Row, Finding, finding, In, key_triple, key_finding, Ascending, no_zero, erase}
use Rattle.meaning.specs.Rules.{Graph, Found}
use Rattle.meaning.specs.Containers.{Containers}
use Rattle.meaning.specs.Closure.{IsClosure, five_counts, total}
use Rattle.meaning.specs.Passes.{Lies}
use Rattle.common.specs.Sizes.{store_width, finding_width}
use Rattle.common.specs.Rows.{triples, rows_of, findings_of}
use Rattle.meaning.specs.Batch.{Same, Conditions}
use Rattle.dictionary_layout.specs.Terms.{start_terms}
use Rattle.dictionary_layout.specs.Layout.{layout, decode}
use Rattle.dictionary_layout.specs.Calls.{start_gives}
use Rattle.driver_refusals.specs.Lent.{Lent}
use Rattle.driver_load.specs.Closed.{AnswerOfRun, containers}
use Rattle.driver_calls.specs.Calls.{Call, Event, ran, ListLeft, calls_give, events_of, terms_after, number_of}

-- the rows that a run's store holds, by its triple count, and the records of its findings, by its five counts
abbrev pub stored : AnswerOfRun → List Row
stored o = rows_of (take (store_width * o.count) o.store)

-- the answer: the triples of the rows, without pass and rule. Answers are compared, and loaded again, by this. REFERENCE 6.4
abbrev pub answer : AnswerOfRun → List Triple
answer o = erase (stored o)

abbrev pub found : AnswerOfRun → List Finding
found o = findings_of (take (finding_width * total o.counts) o.findings)

-- the same triples, findings, triple count and five counts. REFERENCE 8.3
pub record Agree (o o' : AnswerOfRun) : Type 0 where
  pub same_triples : answer o ≡ answer o'
  pub same_findings : found o ≡ found o'
  pub same_count : o.count ≡ o'.count
  pub same_counts : o.counts ≡ o'.counts

-- The triples are exactly those of the load's closure without a zero id, ascending; the findings exactly the records whose check holds
-- in that closure, zero ids included, ascending; each row has the pass and the rule that REFERENCE 6.5 says; and the six counts are those
-- of the rows written.
pub record Exact (c : Containers) (load : List Triple) (o : AnswerOfRun) : Type 1 where
  pub ascending : Ascending key_triple (answer o)
  pub sound : (C : Graph) → IsClosure c load C → (x y z : ℕ) → In (triple x y z) (answer o) → C x y z × T (no_zero (triple x y z))
  pub complete : (C : Graph) → IsClosure c load C → (x y z : ℕ) → C x y z → T (no_zero (triple x y z)) → In (triple x y z) (answer o)
  pub passes : (r : Row) → In r (stored o) → Lies c load r
  pub findings_ascending : Ascending key_finding (found o)
  pub findings_sound : (C : Graph) → IsClosure c load C → (n x y z w : ℕ) → In (finding n x y z w) (found o) → Found C n x y z w
  pub findings_complete : (C : Graph) → IsClosure c load C → (n x y z w : ℕ) → Found C n x y z w → In (finding n x y z w) (found o)
  pub count : o.count ≡ length (answer o)
  pub counts : o.counts ≡ five_counts (found o)

-- what is computed of a list: events, and the contents that the terms computed have
abbrev pub abstract_list : ℕ → ℕ → List Call → ListLeft
abstract_list tl al cs = record { events = events_of tl al start_terms cs; contents = layout tl al (terms_after tl al start_terms cs) }

-- what the list cs leaves after an accepted start that was lent this table and arena, and what it says of container properties
abbrev pub list_gives : List ℕ → List ℕ → List Call → ListLeft
list_gives table arena cs = calls_give (start_gives table arena).contents cs

abbrev pub containers_after : List ℕ → List ℕ → List Call → Containers
containers_after table arena cs = containers (decode (list_gives table arena cs).contents)

-- the table and the arena are those that the start was lent, cs the calls after it
pub record Demand3 (table arena : List ℕ) (cs : List Call) : Type 1 where
  -- call by call: what each gives over the contents that the call before left is what is computed from the lengths and the calls'
  -- other arguments, and so are the contents that the list leaves
  pub each : list_gives table arena cs ≡ abstract_list (length table) (length arena) cs
  -- refusal 1 never occurs
  pub unbroken : (e : Event) → In e (list_gives table arena cs).events → number_of e.out ≢ 1
  -- every accepted run of the list: exactly what the closure of its load says
  pub exact_each : (b : Lent) (o : AnswerOfRun)
      → In (ran b o) (list_gives table arena cs).events → o.number ≡ 0
      → Exact (containers_after table arena cs) (triples b.load) o
  -- wherever three accepted runs of the list load A, then A's answer with B, then A and B together, each load in any order and with any
  -- repeats; under the conditions on list triples and container properties, an id's term being read in the dictionary that the list leaves:
  -- the last two give the same, and it is what the closure of A and B together says
  pub batch : (b₁ b₂ b₃ : Lent) (o₁ o₂ o₃ : AnswerOfRun)
      → In (ran b₁ o₁) (list_gives table arena cs).events
      → In (ran b₂ o₂) (list_gives table arena cs).events
      → In (ran b₃ o₃) (list_gives table arena cs).events
      → o₁.number ≡ 0 → o₂.number ≡ 0 → o₃.number ≡ 0
      → (A B : List Triple) → Same (triples b₁.load) A → Same (triples b₂.load) (answer o₁ ++ B) → Same (triples b₃.load) (A ++ B)
      → Conditions (containers_after table arena cs).is A B (answer o₁)
      → Agree o₂ o₃ × Exact (containers_after table arena cs) (A ++ B) o₃
