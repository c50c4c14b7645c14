-- The numbers that an accepted run leaves in its buffers are below 2 ^ 32, so that its answer is read back from the bytes, and can be
-- loaded again. Assumes nothing.
use mathlib.Core.Path.{◌≡◌, refl, sym, ◌∙◌, ap, subst}
use mathlib.Core.List.{List, [], ◌∷◌, ◌++◌}
use Prim.Native.Nat.{ℕ, suc, ◌-◌, ◌/◌, ◌<◌}
use native.Mathlib.Omega.{arith}
use lib.Dec.{ltb, ltb→lt}
use lib.ListN.{length, replicate}
use Rattle.common.specs.Sizes.{store_width, finding_width}
use Rattle.common.specs.Triples.{Triple, triple, Row, Finding, In, here, there, erase}
use Rattle.meaning.specs.Containers.{Containers}
use Rattle.meaning.specs.Table.{graph_of}
use Rattle.meaning.specs.Closure.{Sub, closure}
use Rattle.common.specs.Rows.{flat, flat_rows, flat_findings, triples, filled}
use Rattle.meaning.proofs.Checks.{findings→}
use Rattle.meaning.proofs.LoadClosure.{Closure, computed→}
use Rattle.meaning.proofs.Batch.{in_without_zero→}
use Rattle.meaning.proofs.Ids.{Each, closure_below, found_each}
use Rattle.common.proofs.Rows.{triples_flat}
use Rattle.common.proofs.RowLists.{length_erase, in_erase}
use Rattle.meaning.proofs.RowsRun.{accepted_small}
use Rattle.meaning.proofs.Counts.{found_check}
use Rattle.meaning.proofs.Run.{Accepted, accepted→}
use Rattle.dictionary_layout.specs.Terms.{Term, run_terms, property_term, membership_term, member_term}
use Rattle.dictionary_layout.specs.Dictionary.{place_of, id_of}
use Rattle.dictionary_layout.proofs.Holding.{Holds, put_all_holds}
use Rattle.driver_refusals.specs.Lent.{Lent}
use Rattle.driver_load.specs.Closed.{AnswerOfRun, containers}
use Rattle.driver_run.specs.Run.{AbstractRunResult, abstract_run}
use Rattle.driver_run.proofs.Accepting.{AcceptedRun, runs_triples, run_accepted}
use Rattle.driver_run.proofs.PuttingAll.{grown_length, put_all_grows, put_all_below}
use Rattle.driver_refusals.proofs.Refusing.{all_in}
use Rattle.driver_calls.specs.Demand3.{answer}
use Rattle.driver_calls.proofs.Demand3.{answer_of_accepted}
use Rattle.edge_bytes.specs.Bytes.{to_bytes, bytes_of, FitBytes, read_buffer, left_bytes}
use Rattle.edge_bytes.proofs.Coding.{changes_0, left_written}
use Rattle.edge_bytes.proofs.RoundTrip.{read_bytes, bytes_append, fit_append, fit_zeros}
use Rattle.edge_c.specs.Calls.{answer_in_bytes}
use Rattle.edge_byte_calls.specs.Demand3.{read_answer, copied, NextLoad}
use Rattle.edge_byte_calls.proofs.Fitting.{some, few}

-- rows of triples and of findings whose ids are below 2 ^ 32
abbrev Id : ℕ → Type 0
Id i = i < 4294967296

fit_flat : (ts : List Triple) → ((t : Triple) → In t ts → Each Id t.s t.p t.o) → FitBytes (flat ts)
fit_flat [] f = tt
fit_flat (t ∷ ts) f = let (x, y, z) = f t (here refl) in (x, (y, (z, fit_flat ts (λ u i. f u (there i)))))

-- and of rows, whose passes and rules are below it too
fit_rows : (rs : List Row) → ((r : Row) → In r rs → Each Id r.it.s r.it.p r.it.o × Id r.pass × Id r.rule)
    → FitBytes (flat_rows rs)
fit_rows [] f = tt
fit_rows (r ∷ rs) f =
    let ((x, y, z), p, k) = f r (here refl) in
    (x, (y, (z, (p, (k, fit_rows rs (λ q i. f q (there i)))))))

-- the bytes of the triples of rows, whatever stands behind the rows
copied_rows : (rs : List Row) (z : List ℕ) → copied (length rs) (bytes_of (flat_rows rs ++ z)) ≡ bytes_of (flat (erase rs))
unfolding bytes_of
copied_rows [] z = refl
copied_rows (r ∷ rs) z = ap (λ l. to_bytes r.it.s (to_bytes r.it.p (to_bytes r.it.o l))) (copied_rows rs z)

abbrev Ids : Finding → Type 0
Ids x = Id x.check × Id x.a × Id x.b × Id x.c × Id x.d

fit_flat_findings : (xs : List Finding) → ((x : Finding) → In x xs → Ids x) → FitBytes (flat_findings xs)
fit_flat_findings [] f = tt
fit_flat_findings (x ∷ xs) f = let (n, a, b, c, d) = f x (here refl) in
    (n, (a, (b, (c, (d, fit_flat_findings xs (λ y i. f y (there i)))))))

fit_filled : (buffer row : List ℕ) → FitBytes row → FitBytes (filled buffer row)
fit_filled buffer row f = fit_append row (replicate (length buffer - length row) 0) f (fit_zeros (length buffer - length row))

-- AN ACCEPTED RUN over numbers
module _ {tl al : ℕ} {ts : List Term} (h : Holds tl al ts) {b : Lent} {l : AbstractRunResult} (a : AcceptedRun tl al ts b l) where
  abbrev us : List Term
  us = a.terms

  abbrev c : Containers
  c = containers us

  abbrev cap : ℕ
  cap = length b.store / store_width

  abbrev finding_cap : ℕ
  finding_cap = length b.findings / finding_width

  abbrev rows : List Triple
  rows = closure c (suc cap) (triples b.load)

  -- its triples
  abbrev N : List Triple
  N = erase a.rows

  accepted_run : Accepted c cap finding_cap (triples b.load) N a.row a.n a.k
  accepted_run = accepted→ c cap finding_cap (triples b.load) N a.row a.n a.k (runs_triples b us a.runs)

  held : Holds tl al us
  held = put_all_holds tl al ts run_terms us h a.puts_all

  load_known : (x y z : ℕ) → In (triple x y z) (triples b.load) → Each (λ i. i < length us) x y z
  load_known x y z i =
      let (p, q, r) = all_in (λ i. ltb i (length ts)) b.load a.known (triple x y z) i in
      let n = grown_length ts us (put_all_grows tl al ts run_terms us a.puts_all) in
      (omega (arith, ltb→lt x (length ts) p), omega (arith, ltb→lt y (length ts) q), omega (arith, ltb→lt z (length ts) r))

  put_known : (t : Term) → In t run_terms → id_of (place_of t us) < length us
  put_known = put_all_below tl al ts run_terms us a.puts_all

  closure_known : Sub (Closure c (triples b.load)) (Each (λ i. i < length us))
  unfolding containers run_terms
  closure_known =
      closure_below c (triples b.load) (length us) (some held) load_known
      (put_known property_term (here refl))
      (put_known membership_term (there (here refl)))
      (put_known member_term (there (there (here refl))))

  ids : Sub (graph_of rows) (Each Id)
  ids x y z i =
      let (p, q, r) = closure_known x y z (computed→ c (suc cap) (triples b.load) x y z i) in
      let n = few held in
      (omega arith, omega arith, omega arith)

  answer_ids : (t : Triple) → In t N → Each Id t.s t.p t.o
  answer_ids t i = ids t.s t.p t.o (in_without_zero→ rows t (subst (In t) accepted_run.answer i)).0

  fit_stored : FitBytes (flat_rows a.rows)
  fit_stored =
      fit_rows a.rows (λ r i. let (p, k) = accepted_small c cap finding_cap (triples b.load) a.runs r i in
      (answer_ids r.it (in_erase i), omega (arith, a.few), omega arith))

  fit_store : FitBytes l.answer.store
  fit_store = subst (λ (o : AnswerOfRun). FitBytes o.store) (sym a.gives) (fit_filled b.store (flat_rows a.rows) fit_stored)

  fit_findings : FitBytes l.answer.findings
  fit_findings =
      subst (λ (o : AnswerOfRun). FitBytes o.findings) (sym a.gives)
      (fit_filled b.findings (flat_findings a.row) (fit_flat_findings a.row known))
    where
      known : (x : Finding) → In x a.row → Ids x
      known x i =
          let f = findings→ rows (subst (In x) accepted_run.found i) in
          let (p, q, r, s) = found_each Id (graph_of rows) (omega arith) ids f in
          let n = found_check f in
          (omega arith, p, q, r, s)

  fit_work : FitBytes l.answer.work
  fit_work = subst (λ (o : AnswerOfRun). FitBytes o.work) (sym a.gives) (fit_zeros (length b.work))

  -- the triples that it left, copied from its store, and then those of B are a load of its answer with B
  left_copied : copied l.answer.count (bytes_of l.answer.store) ≡ bytes_of (flat N)
  left_copied =
      let R = flat_rows a.rows in
      ap (λ (o : AnswerOfRun). copied o.count (bytes_of o.store)) a.gives
      ∙ (ap (λ (k : ℕ). copied k (bytes_of (filled b.store R))) (accepted_run.count ∙ length_erase a.rows)
      ∙ copied_rows a.rows (replicate (length b.store - length R) 0))

  answered : answer l.answer ≡ N
  answered =
      ap answer a.gives
      ∙ answer_of_accepted c b cap finding_cap (triples b.load) a.rows a.row a.n a.k a.runs

  load_again : (B : List Triple) → FitBytes (flat B)
      → triples (read_buffer (copied l.answer.count (bytes_of l.answer.store) ++ bytes_of (flat B))) ≡ answer l.answer ++ B
  load_again B f =
      ap (λ (x : List ℕ). triples (read_buffer (x ++ bytes_of (flat B)))) left_copied
      ∙ (ap (λ (x : List ℕ). triples (read_buffer x)) (sym (bytes_append (flat N) (flat B)))
      ∙ (ap triples (read_bytes (flat N ++ flat B) (fit_append (flat N) (flat B) (fit_flat N answer_ids) f))
      ∙ (triples_flat N B ∙ ap (λ (x : List Triple). x ++ B) (sym answered))))

-- a buffer that was written is read back
read_left : (n : ℕ) (b l : List ℕ) → n ≡ 0 → FitBytes l → read_buffer (left_bytes n b l) ≡ l
read_left n b l e f = sym (ap read_buffer (left_written n b l (changes_0 n e) refl)) ∙ read_bytes l f

-- THE ANSWER OF AN ACCEPTED RUN is read back from the bytes that it left: b are its buffers of bytes, m what it read in them
pub answer_read : {tl al : ℕ} {ts : List Term} → Holds tl al ts → (b m : Lent) → (abstract_run tl al ts m).answer.number ≡ 0
    → read_answer (answer_in_bytes b (abstract_run tl al ts m).answer) ≡ (abstract_run tl al ts m).answer
answer_read {tl} {al} {ts} h b m e =
    let r = abstract_run tl al ts m in
    let o = r.answer in
    let a = run_accepted tl al ts m e in
    let s = read_left o.number b.store o.store e (fit_store h a) in
    let f = read_left o.number b.findings o.findings e (fit_findings h a) in
    let w = read_left o.number b.work o.work e (fit_work h a) in
    λ i. record { number = o.number; count = o.count; counts = o.counts; store = s i; findings = f i; work = w i }

-- and can be loaded again
pub answer_loads : {tl al : ℕ} {ts : List Term} → Holds tl al ts → (b m : Lent) → (abstract_run tl al ts m).answer.number ≡ 0
    → NextLoad (answer_in_bytes b (abstract_run tl al ts m).answer)
answer_loads {tl} {al} {ts} h b m e B f =
    let r = abstract_run tl al ts m in
    let o = r.answer in
    let w = left_written o.number b.store o.store (changes_0 o.number e) refl in
    ap (λ (x : List ℕ). triples (read_buffer (copied o.count x ++ bytes_of (flat B)))) (sym w)
    ∙ (load_again h (run_accepted tl al ts m e) B f
    ∙ ap (λ (x : AnswerOfRun). answer x ++ B) (sym (answer_read h b m e)))
