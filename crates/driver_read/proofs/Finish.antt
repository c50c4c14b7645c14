-- What a read answers and leaves: refusal 1 or 2, the file's triples, or the dictionary as before the file. Assumes nothing.
use mathlib.Core.Path.{◌≡◌, refl, sym, ◌∙◌, ap, subst}
use mathlib.Core.Logic.{◌≢◌}
use mathlib.Core.List.{List, [], ◌++◌}
use Prim.Native.Nat.{ℕ, zero, suc, ◌-◌, ◌/◌, ◌%◌, ◌≤◌}
use lib.Dec.{T}
use lib.ListN.{length, replicate, length-replicate}
use Rattle.common.specs.Sizes.{load_width}
use Rattle.common.specs.Rows.{flat, filled, cleared, zeros}
use Rattle.common.proofs.Filling.{clear_all}
use Rattle.dictionary_layout.specs.declared.values.Counters.{Counters}
use Rattle.dictionary_layout.specs.Terms.{start_count}
use Rattle.dictionary_layout.specs.Layout.{Dict, layout, decode}
use Rattle.dictionary_layout.specs.Dictionary.{valid}
use Rattle.dictionary_layout.specs.Values.{contents}
use Rattle.dictionary_layout.proofs.Holding.{valid→}
use Rattle.dictionary_entries.proofs.Reading.{lengths}
use Rattle.dictionary_puts.specs.Indexed.{Indexed, retracted}
use Rattle.ntriples.specs.Reading.{lines, Outcome, read_lines, read_file, read_answer, AbstractReadResult, shown, ReadResult, read_gives}
use Rattle.ntriples.proofs.Growing.{read_valid, read_broken, read_whole, read_ragged}
use Rattle.driver_read.specs.declared.values.ReadNext.{ReadNext}
use Rattle.driver_read.specs.Values.{read_left}
use Rattle.driver_read.specs.Lines.{so_far, lines_come, outcome_of, Between, ComesTo}
use Rattle.driver_read.proofs.Loads.{none_read, so_far_count, so_far_filled}
use Rattle.driver_read.proofs.Outcomes.{answer}

-- a load that was cleared is as long
cleared_long : (load : List ℕ) {m : List ℕ} → m ≡ cleared 0 load → length m ≡ length load
cleared_long load {m} e = ap length (clear_all load e) ∙ length-replicate {A = ℕ} (length load) 0

-- REFUSALS 1 and 2 leave everything as it was
module _ (d : Dict) (load file : List ℕ) where
  pub read_1 : (T (valid d) → ⊥) → record { answer = read_answer 1 0 load; contents = d } ≡ read_gives d load file
  read_1 n = sym (read_broken d load file n)

  pub read_2 : T (valid d) → length load % load_width ≢ 0 → record { answer = read_answer 2 0 load; contents = d } ≡ read_gives d load file
  read_2 v n =
      let tl = length d.table in
      let al = length d.arena in
      ap (λ (e : Dict). record { answer = read_answer 2 0 load; contents = e }) (sym (valid→ d v).1)
      ∙ (ap (λ (r : AbstractReadResult). record { answer = r.answer; contents = layout tl al r.held })
      (sym (read_ragged tl al (decode d) load file n)) ∙ sym (read_valid d load file v))

-- BEFORE THE FIRST LINE
pub before_lines : (load : List ℕ) {table arena hash m : List ℕ} {c : Counters} {r : ReadNext} → Indexed (contents table arena c) hash
    → m ≡ cleared 0 load → r ≡ answer 0 0 c → Between table arena hash m r × (r.number ≡ 0)
before_lines load {table} {arena} {hash} {m} {c} {r} x e f =
    subst (λ (y : ReadNext). Between table arena hash m y × (y.number ≡ 0)) (sym f)
    (record { indexed = x; rows = none_read load e }, refl)

module _ (d : Dict) (load file : List ℕ) (v : T (valid d)) (w : length load % load_width ≡ 0) {first : List ℕ} (e : first ≡ cleared 0 load)
    {table arena hash last : List ℕ} {next : ReadNext} (x : ComesTo (lines_come d first 0 (lines file)) d table arena hash last next) where
  abbrev tl : ℕ
  tl = length d.table

  abbrev al : ℕ
  al = length d.arena

  -- what the lines came to is what the file comes to
  outcome_is : outcome_of next.number (contents table arena next.counters) last next.count
      ≡ read_file tl al (length load / load_width) (decode d) file
  unfolding read_file
  outcome_is = x.outcome ∙ ap (λ (n : ℕ). read_lines tl al (n / load_width) (decode d) [] (lines file)) (cleared_long load e)

  abbrev laid : AbstractReadResult → ReadResult
  laid r = record { answer = r.answer; contents = layout (length d.table) (length d.arena) r.held }

  gives : laid (shown (decode d) load (outcome_of next.number (contents table arena next.counters) last next.count))
      ≡ read_gives d load file
  gives =
      ap (λ (o : Outcome). laid (shown (decode d) load o)) outcome_is
      ∙ (ap laid (sym (read_whole tl al (decode d) load file w)) ∙ sym (read_valid d load file v))

  -- ACCEPTED
  pub read_accepts : length last ≡ length load → next.number ≡ 0 → read_left next table arena last ≡ read_gives d load file
  read_accepts l z =
      let xs = so_far last next.count in
      let d' = contents table arena next.counters in
      let rows = x.between.rows in
      let full : last ≡ filled load (flat xs) = so_far_filled rows ∙ ap (λ (n : ℕ). flat xs ++ replicate (n - length (flat xs)) 0) l in
      let v' = x.between.indexed.unbroken in
      let same = (λ i. layout (sym x.kept.table i) (sym x.kept.arena i) (decode d')) ∙ (valid→ d' v').1 in
      (λ i. record { answer = read_answer (z i) (sym (so_far_count rows) i) (full i); contents = sym same i })
      ∙ (ap (λ (n : ℕ). laid (shown (decode d) load (outcome_of n d' last next.count))) (sym z) ∙ gives)

  -- REFUSED: the terms are taken back, and the load is cleared
  pub retractable : T (valid (contents table arena next.counters)) × (start_count ≤ d.terms) × (d.terms ≤ next.counters.terms)
  retractable = (x.between.indexed.unbroken, (lengths d v).some, x.kept.more)

  pub read_refuses : {table' arena' load' : List ℕ} {c : Counters} → length last ≡ length load → next.number ≢ 0
      → contents table' arena' c ≡ retracted (contents table arena next.counters) d.terms → load' ≡ cleared 0 last
      → read_left (answer next.number 0 c) table' arena' load' ≡ read_gives d load file
  read_refuses {table'} {arena'} {load'} {c} l n b f =
      let zero_load : load' ≡ zeros load = clear_all last f ∙ ap (λ (m : ℕ). replicate m 0) l in
      let back = b ∙ (λ i. layout (x.kept.table i) (x.kept.arena i) (x.kept.first i)) in
      (λ i. record { answer = read_answer next.number 0 (zero_load i); contents = back i }) ∙ (go next.number n ∙ gives)
    where
      go : (m : ℕ) → m ≢ 0 → ◌≡◌ {A = ReadResult}
          (record { answer = read_answer m 0 (zeros load); contents = layout tl al (decode d) })
          (laid (shown (decode d) load (outcome_of m (contents table arena next.counters) last next.count)))
      go zero h = absurd (h refl)
      go (suc m) h = refl
