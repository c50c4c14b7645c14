-- What a read leaves in buffers of bytes. Assumes nothing.
use mathlib.Core.Path.{◌≡◌, refl, sym, ap, subst, ◌∙◌}
use mathlib.Core.Logic.{◌⊎◌, inl, inr, ⊎_elim, ◌≢◌}
use mathlib.Core.Bool.{Bool, true, false}
use mathlib.Core.List.{List, [], ◌++◌, append_assoc}
use Prim.Native.Nat.{ℕ, ◌+◌, ◌*◌, ◌-◌, ◌/◌, ◌%◌, ◌≤◌}
use native.Mathlib.Omega.{arith}
use lib.Dec.{T, eqb}
use lib.ListN.{length, drop, replicate, length-append, length-replicate, replicate-append-replicate}
use borrow.Author.Tests.{ne_eqb, eqb-true, eqb-false}
use Rattle.common.specs.Triples.{if}
use Rattle.common.specs.Sizes.{load_width}
use Rattle.common.specs.Rows.{flat, filled, zeros}
use Rattle.common.proofs.Rows.{length_flat}
use Rattle.dictionary_layout.specs.Terms.{Term}
use Rattle.dictionary_layout.specs.Layout.{Dict, dict, layout, decode}
use Rattle.dictionary_layout.specs.Dictionary.{valid}
use Rattle.dictionary_layout.proofs.Choice.{is_true, true→T, false→not_T, decide_bool}
use Rattle.dictionary_entries.proofs.Appending.{drop_zeros}
use Rattle.ntriples.specs.Reading.{Outcome, refused, read, read_file, AbstractReadResult, shown, abstract_read, ReadResult, read_gives}
use Rattle.ntriples.proofs.Growing.{read_valid, read_broken, read_whole, read_ragged, read_few, file_long}
use Rattle.driver_read.specs.Values.{read_left}
use Rattle.driver_read.specs.declared.values.ReadNext.{ReadNext}
use Rattle.edge_bytes.specs.Bytes.{bytes_of, read_buffer, changes, left_bytes}
use Rattle.edge_bytes.proofs.Coding.{bytes_zeros}
use Rattle.edge_bytes.proofs.RoundTrip.{length_bytes, bytes_append}
use Rattle.edge_c.specs.Calls.{read_dict, left_dict, changes_load, left_load, read_in_bytes, read_bytes_give, read_result}
use Rattle.edge_c.specs.Forwarded.{front_load}
use Rattle.edge_c.proofs.Forwarding.{whole, ragged, long, FullForwarded, ReadTable}
use Rattle.edge_c.proofs.Tables.{same_left, quiet_1, with_table, dict_alike, dict_room}

-- the bytes of a row in front of zeros, and more zeros behind
row_bytes : (row : List ℕ) (m : ℕ) → bytes_of (row ++ replicate m 0) ≡ bytes_of row ++ replicate (4 * m) 0
row_bytes row m = bytes_append row (replicate m 0) ∙ ap (λ (x : List ℕ). bytes_of row ++ x) (bytes_zeros m)

more_zeros : (row : List ℕ) (x y z : ℕ) → x + y ≡ z → (row ++ replicate x 0) ++ replicate y 0 ≡ row ++ replicate z 0
more_zeros row x y z e =
    append_assoc row (replicate x 0) (replicate y 0)
    ∙ ap (λ (l : List ℕ). row ++ l) (replicate-append-replicate x y 0 ∙ ap (λ (k : ℕ). replicate {A = ℕ} k 0) e)

-- so a row in the front of a buffer of bytes is a row in the buffer
front_filled : (b l own row : List ℕ) → length b ≡ 4 * length own → length l ≤ length own → length row ≤ length l
    → filled b (bytes_of (filled l row)) ≡ bytes_of (filled own row)
front_filled b l own row e h k =
    let m = length l - length row in
    let n = length own - length row in
    let x = length b - length (bytes_of (filled l row)) in
    let z = replicate {A = ℕ} m 0 in
    let q : 4 * m + x ≡ 4 * n = omega (arith, length_bytes (row ++ z), length-append row z, length-replicate {A = ℕ} m 0) in
    ap (λ (r : List ℕ). r ++ replicate x 0) (row_bytes row m) ∙ (more_zeros (bytes_of row) (4 * m) x (4 * n) q ∙ sym (row_bytes row n))

-- numbers written to the front of a buffer b that was made zero, z, as x
pub front_zeros : (b numbers : List ℕ) {x z : List ℕ} → x ≡ bytes_of numbers → z ≡ replicate (length b) 0
    → x ++ drop (4 * length numbers) z ≡ filled b (bytes_of numbers)
front_zeros b numbers p q =
    let k = 4 * length numbers in
    (λ i. p i ++ drop k (q i))
    ∙ ap (λ (l : List ℕ). bytes_of numbers ++ l)
    (drop_zeros k (length b) ∙ ap (λ (n : ℕ). replicate {A = ℕ} (length b - n) 0) (sym (length_bytes numbers)))

-- zeros are a buffer with no row
no_row : (l : List ℕ) → zeros l ≡ filled l []
no_row l = let e : length l ≡ length l - 0 = omega arith in ap (λ (n : ℕ). replicate {A = ℕ} n 0) e

-- THE LOAD of bytes b, for which the numbers l are passed: neither they nor the load's own are whole triples
abbrev BothRagged : List ℕ → List ℕ → Type 0
BothRagged b l = (length l % load_width ≢ 0) × (length (read_buffer b) % load_width ≢ 0)

-- or a file is read into both alike
record BothRead (b l : List ℕ) : Type 0 where
  bytes : length b ≡ 4 * length (read_buffer b)
  within : length l ≤ length (read_buffer b)
  triples : length l % load_width ≡ 0
  own_triples : length (read_buffer b) % load_width ≡ 0
  alike : (tl al : ℕ) (ts : List Term) (file : List ℕ)
      → read_file tl al (length l / load_width) ts file ≡ read_file tl al (length (read_buffer b) / load_width) ts file

-- one of both, for numbers that leave the remainder of the load's own
by_remainder : (b l : List ℕ) → length b ≡ 4 * length (read_buffer b) → length l ≤ length (read_buffer b)
    → length l % load_width ≡ length (read_buffer b) % load_width
    → ((tl al : ℕ) (ts : List Term) (file : List ℕ)
    → read_file tl al (length l / load_width) ts file ≡ read_file tl al (length (read_buffer b) / load_width) ts file)
    → BothRagged b l ⊎ BothRead b l
by_remainder b l p u r f = pick (eqb (length l % load_width) 0) refl
  where
    pick : (c : Bool) → eqb (length l % load_width) 0 ≡ c → BothRagged b l ⊎ BothRead b l
    pick true j =
        let z = eqb-true (length l % load_width) 0 j in
        inr (record { bytes = p; within = u; triples = z; own_triples = sym r ∙ z; alike = f })
    pick false j = let z = eqb-false (length l % load_width) 0 j in inl (z, λ w. z (r ∙ w))

load_alike : (b l : List ℕ) → FullForwarded b (length l) → BothRagged b l ⊎ BothRead b l
load_alike b l (whole p u q r) =
    by_remainder b l (omega arith) (omega arith) (ap (λ (n : ℕ). n % load_width) q)
    (λ tl al ts file. ap (λ (n : ℕ). read_file tl al (n / load_width) ts file) q)
load_alike b l (ragged p q) = inl (λ z. omega arith, λ z. omega arith)
load_alike b l (long p e q r) =
    by_remainder b l (omega arith) (omega arith) (omega arith)
    (λ tl al ts file.
    file_long tl al (length l / load_width) (length (read_buffer b) / load_width) (omega arith) (omega arith) ts file)

-- WHETHER A LOAD CHANGED, as the code finds it
pub loads_1 : false ≡ changes_load 1
unfolding changes_load
loads_1 = refl

pub loads_2 : false ≡ changes_load 2
unfolding changes_load
loads_2 = refl

pub load_kept : (n k : ℕ) → false ≡ changes_load k → n ≡ k → false ≡ changes_load n
load_kept n k e q = e ∙ ap changes_load (sym q)

pub load_changed : (n : ℕ) → (n ≡ 1 → ⊥) → (n ≡ 2 → ⊥) → T (changes_load n)
unfolding changes_load
load_changed n p q = true→T (changes_load n) (simp (ne_eqb n 1 p, ne_eqb n 2 q))

module _ (n : ℕ) (b l : List ℕ) where
  abbrev front : Bool → List ℕ
  front t = if t (λ _. filled b (bytes_of l)) (λ _. b)

  pub front_kept : false ≡ changes_load n → b ≡ front_load n b l
  unfolding front_load
  front_kept e = ap front e

  pub front_written : {x : List ℕ} → T (changes_load n) → x ≡ filled b (bytes_of l) → x ≡ front_load n b l
  unfolding front_load
  front_written t e = e ∙ ap front (is_true (changes_load n) t)

-- a load that is left as it was
kept : (n : ℕ) (b l m : List ℕ) → false ≡ changes_load n → front_load n b l ≡ left_load n b m
unfolding left_load
kept n b l m e = sym (front_kept n b l e) ∙ ap (λ (t : Bool). if t (λ _. bytes_of m) (λ _. b)) e

-- the dictionary d has a table of bytes, from which the numbers t were read; the numbers l are passed for the load b
module _ (d : Dict) {t : List ℕ} (h : ReadTable d.table t) (b l : List ℕ) (k : FullForwarded b (length l)) (file : List ℕ) where
  abbrev passed : Dict
  passed = with_table t d

  abbrev own : Dict
  own = read_dict d

  abbrev tl : ℕ
  tl = length own.table

  abbrev al : ℕ
  al = length d.arena

  -- what the code leaves, and what the definition gives
  abbrev left : ReadResult → ReadResult
  left r =
      let a = r.answer in
      read_result a.number a.count (front_load a.number b a.load) (left_dict a.number d.table r.contents)

  abbrev given : ReadResult → ReadResult
  given r = read_in_bytes d.table b r

  -- what a read computes, with the terms laid out again
  abbrev laid_out : AbstractReadResult → ReadResult
  laid_out r = record { answer = r.answer; contents = layout tl al r.held }

  broken : (x : List ℕ) → (T (valid (with_table x d)) → ⊥) → (T (valid own) → ⊥)
      → left (read_gives (with_table x d) l file) ≡ given (read_gives own (read_buffer b) file)
  broken x p q =
      ap left (read_broken (with_table x d) l file p)
      ∙ ((λ i. read_result 1 0 (kept 1 b l (read_buffer b) loads_1 i)
      (with_table (same_left 1 d.table x (read_buffer d.table) quiet_1 i) d))
      ∙ sym (ap given (read_broken own (read_buffer b) file q)))

  -- a row in front of zeros
  row_alike : BothRead b l → (n : ℕ) (row : List ℕ) → length row ≤ length l
      → front_load n b (filled l row) ≡ left_load n b (filled (read_buffer b) row)
  unfolding front_load left_load
  row_alike s n row f =
      ap (λ (x : List ℕ). if (changes_load n) (λ _. x) (λ _. b)) (front_filled b l (read_buffer b) row s.bytes s.within f)

  outcome_alike : BothRead b l → (o : Outcome) → read_file tl al (length l / load_width) (decode own) file ≡ o
      → left (laid_out (shown (decode own) l o)) ≡ given (laid_out (shown (decode own) (read_buffer b) o))
  outcome_alike s (refused n) e =
      let p = row_alike s n [] (omega arith) in
      let x = left_dict n d.table (layout tl al (decode own)) in
      (λ i. read_result n 0 (front_load n b (no_row l i)) x)
      ∙ ((λ i. read_result n 0 (p i) x) ∙ (λ i. read_result n 0 (left_load n b (sym (no_row (read_buffer b)) i)) x))
  outcome_alike s (read us xs) e =
      let (f, g) = read_few tl al (length l / load_width) (decode own) file us xs e in
      let p = row_alike s 0 (flat xs) (omega (arith, length_flat xs)) in
      λ i. read_result 0 (length xs) (p i) (left_dict 0 d.table (layout tl al us))

  abbrev computed : List ℕ → ReadResult
  computed load = laid_out (abstract_read tl al (decode own) load file)

  computed_alike : BothRagged b l ⊎ BothRead b l → left (computed l) ≡ given (computed (read_buffer b))
  computed_alike (inl (p, q)) =
      let ts = decode own in
      let x = left_dict 2 d.table (layout tl al ts) in
      ap (λ (r : AbstractReadResult). left (laid_out r)) (read_ragged tl al ts l file p)
      ∙ ((λ i. read_result 2 0 (kept 2 b l (read_buffer b) loads_2 i) x)
      ∙ sym (ap (λ (r : AbstractReadResult). given (laid_out r)) (read_ragged tl al ts (read_buffer b) file q)))
  computed_alike (inr s) =
      let ts = decode own in
      ap (λ (r : AbstractReadResult). left (laid_out r)) (read_whole tl al ts l file s.triples)
      ∙ (outcome_alike s (read_file tl al (length l / load_width) ts file) refl
      ∙ (ap (λ (o : Outcome). given (laid_out (shown ts (read_buffer b) o))) (s.alike tl al ts file)
      ∙ sym (ap (λ (r : AbstractReadResult). given (laid_out r)) (read_whole tl al ts (read_buffer b) file s.own_triples))))

  alike : left (read_gives passed l file) ≡ read_bytes_give d b file
  unfolding read_bytes_give
  alike = ⊎_elim by_numbers (λ p. broken t p.0 p.1) (dict_alike d h)
    where
      sound : T (valid own) → left (read_gives own l file) ≡ given (read_gives own (read_buffer b) file)
      sound v =
          ap left (read_valid own l file v)
          ∙ (computed_alike (load_alike b l k) ∙ sym (ap given (read_valid own (read_buffer b) file v)))

      by_numbers : passed ≡ own → left (read_gives passed l file) ≡ given (read_gives own (read_buffer b) file)
      by_numbers e =
          ap (λ (x : Dict). left (read_gives x l file)) e
          ∙ ⊎_elim sound (λ z. broken (read_buffer d.table) z z) (decide_bool (valid own))

  module _ (r : ReadNext) {t' a' l' : List ℕ} (e : read_left r t' a' l' ≡ read_gives passed l file) where
    -- a read of a broken dictionary answers 1, and one with a load that is no whole triples 2
    broken_number : (T (valid passed) → ⊥) → r.number ≡ 1
    broken_number f = ap (λ (x : ReadResult). x.answer.number) (e ∙ read_broken passed l file f)

    ragged_number : T (valid passed) → length l % load_width ≢ 0 → r.number ≡ 2
    ragged_number v z =
        ap (λ (x : ReadResult). x.answer.number) (e ∙ read_valid passed l file v)
        ∙ ap (λ (x : AbstractReadResult). x.answer.number) (read_ragged (length t) al (decode passed) l file z)

    pub table_room : length t' ≡ length t → T (changes r.number) → length d.table ≡ 4 * length t'
    table_room i c =
        ⊎_elim (λ v. dict_room d h t' i v)
        (λ f. absurd (false→not_T (changes 1) quiet_1 (subst (λ (n : ℕ). T (changes n)) (broken_number f) c)))
        (decide_bool (valid passed))

    pub load_room : length l' ≡ length l → T (changes_load r.number) → 4 * length l' ≤ length b
    load_room i c = ⊎_elim (λ v. room v (load_alike b l k)) (λ f. absurd (no 1 loads_1 (broken_number f))) (decide_bool (valid passed))
      where
        no : (n : ℕ) → false ≡ changes_load n → r.number ≡ n → ⊥
        no n q p = false→not_T (changes_load n) q (subst (λ (m : ℕ). T (changes_load m)) p c)

        room : T (valid passed) → BothRagged b l ⊎ BothRead b l → 4 * length l' ≤ length b
        room v (inl z) = absurd (no 2 loads_2 (ragged_number v z.0))
        room v (inr s) = omega (arith, s.bytes, s.within)

    pub read_done : {tb' lb' : List ℕ} → tb' ≡ left_bytes r.number d.table t' → lb' ≡ front_load r.number b l'
        → read_result r.number r.count lb' (dict tb' a' r.counters.terms r.counters.used) ≡ read_bytes_give d b file
    read_done p q =
        (λ i. read_result r.number r.count (q i) (dict (p i) a' r.counters.terms r.counters.used))
        ∙ (ap left e ∙ alike)
