-- What program closer prints for an input: it puts the named nodes urn:t1 to urn:tN, closes the load in its store, and prints the answer
-- and the findings, or the refusal. REFERENCE 10. Assumes nothing.
use Rattle.std.specs.Prelude.{List, ℕ, zero, suc, replicate}
use Rattle.meaning.specs.Closure.{total}
use Rattle.dictionary_layout.specs.Terms.{term}
use Rattle.dictionary_layout.specs.Layout.{Dict}
use Rattle.dictionary_layout.specs.Calls.{start_gives, put_gives}
use Rattle.driver_refusals.specs.Lent.{lent}
use Rattle.driver_load.specs.Closed.{AnswerOfRun}
use Rattle.driver_run.specs.Run.{run_gives}
use Rattle.edge_closer_text.specs.Sizes.{store_length, findings_length}
use Rattle.edge_closer_text.specs.Input.{Parsed, bad_line, input, parse}
use Rattle.edge_closer_text.specs.Output.{answer, refusal, bad_line_text, name}
use Rattle.edge_closer_run.specs.Sizes.{table_length, arena_length, work_length}

-- a dictionary after the names urn:t1 to urn:tN were put
unfoldable pub named : ℕ → Dict → Dict
named zero d = d
named (suc n) d = (put_gives (named n d) (term 1 (name (suc n)))).contents

-- the dictionary of a run
unfoldable pub dictionary : ℕ → Dict
dictionary n = named n (start_gives (replicate table_length 0) (replicate arena_length 0)).contents

-- a run over it, in this store and these findings
unfoldable pub ran : ℕ → List ℕ → List ℕ → List ℕ → AnswerOfRun
ran n load store findings = (run_gives (dictionary n) (lent load store findings (replicate work_length 0))).answer

-- a run in print, by its number
abbrev pub by_number : ℕ → AnswerOfRun → List ℕ
by_number zero r = answer r.store r.count r.findings (total r.counts)
by_number (suc n) r = refusal (suc n)

-- the run of a load in print
unfoldable pub printed_run : ℕ → List ℕ → List ℕ
printed_run n load = let r = ran n load (replicate store_length 0) (replicate findings_length 0) in by_number r.number r

-- by what was read
abbrev pub printed : Parsed → List ℕ
printed (bad_line k) = bad_line_text k
printed (input n ids) = printed_run n ids

-- WHAT THE PROGRAM PRINTS
unfoldable pub output : List ℕ → List ℕ
output text = printed (parse text)
