-- The test for a broken dictionary as a whole: its end, the tests before the entries are scanned, and that it is exact. Assumes nothing.
use mathlib.Core.Path.{◌≡◌, refl, sym, ◌∙◌, ap, subst}
use mathlib.Core.Logic.{◌≢◌}
use mathlib.Core.Bool.{Bool, true, false}
use mathlib.Core.List.{List, ◌++◌, append_assoc}
use Prim.Native.Nat.{ℕ, ◌*◌, ◌-◌, ◌<◌}
use native.Mathlib.Omega.{arith}
use lib.Dec.{T}
use lib.ListN.{length, take, drop, length-append, length-drop, take-append-drop}
use lib.Seq.{take_at, drop_at, drop-drop}
use Rattle.common.specs.Sizes.{heads_width}
use Rattle.dictionary_layout.specs.Terms.{Term, start_count}
use Rattle.dictionary_layout.specs.Layout.{Dict, dict, all_bytes, size, all_heads, all_entries, span, layout, decode, entry_at}
use Rattle.dictionary_layout.specs.Dictionary.{same_row, start_refusal, valid}
use Rattle.dictionary_valid.specs.Scanning.{named, Scanned}
use Rattle.dictionary_layout.proofs.Choice.{is_false, true→T, false→not_T, same_test}
use Rattle.dictionary_layout.proofs.Equality.{same_row→, same_rows}
use Rattle.dictionary_layout.proofs.Rows.{zero_row, rest_part}
use Rattle.dictionary_layout.proofs.Decoding.{length_span, length_all_entries, length_all_bytes}
use Rattle.dictionary_layout.proofs.Holding.{holds→, valid_layout, valid→}
use Rattle.dictionary_layout.proofs.Reachable.{no_refusal}
use Rattle.dictionary_entries.proofs.Reading.{held, bytes_used, lengths}
use Rattle.dictionary_valid.proofs.Naming.{named_length}

-- THE END
module _ {table arena heads : List ℕ} {n at : ℕ} (s : Scanned table arena heads n at) (used : ℕ) where
  abbrev d : Dict
  d = dict table arena n used

  abbrev ts : List Term
  ts = named table arena n

  terms_named : decode d ≡ named table arena n
  unfolding decode
  terms_named = refl

  parts : T (valid d) → d ≡ layout (length table) (length arena) (named table arena n)
  parts v = sym (valid→ d v).1 ∙ ap (layout (length table) (length arena)) terms_named

  -- what valid contents end with
  pub valid_used : T (valid d) → at ≡ used
  valid_used v = s.used ∙ sym (bytes_used d v ∙ ap size terms_named)

  pub valid_heads : T (valid d) → take heads_width table ≡ take heads_width heads
  unfolding layout
  valid_heads v =
      ap (λ (x : Dict). take heads_width x.table) (parts v)
      ∙ (take_at (span heads_width 0 (all_heads ts)) (all_entries ts ++ zero_row (length table - entry_at (length ts))) heads_width
      (length_span heads_width 0 (all_heads ts)) ∙ sym s.chains)

  pub valid_table_rest : T (valid d) → drop (entry_at n) table ≡ zero_row (length table - entry_at n)
  unfolding layout
  valid_table_rest v =
      let l = named_length table arena n in
      let p = span heads_width 0 (all_heads ts) ++ all_entries ts in
      let q : length p ≡ entry_at n = omega (
        arith,
        length-append (span heads_width 0 (all_heads ts)) (all_entries ts),
        length_span heads_width 0 (all_heads ts),
        length_all_entries ts,
      ) in
      ap (λ (x : Dict). drop (entry_at n) x.table) (parts v)
      ∙ (ap (drop (entry_at n)) (sym (append_assoc (span heads_width 0 (all_heads ts)) (all_entries ts)
      (zero_row (length table - entry_at (length ts)))))
      ∙ (drop_at p (zero_row (length table - entry_at (length ts))) (entry_at n) q
      ∙ ap (λ (k : ℕ). zero_row (length table - entry_at k)) l))

  pub valid_arena_rest : T (valid d) → drop at arena ≡ zero_row (length arena - at)
  unfolding layout
  valid_arena_rest v =
      ap (λ (x : Dict). drop at x.arena) (parts v)
      ∙ (drop_at (all_bytes ts) (zero_row (length arena - size ts)) at (length_all_bytes ts ∙ sym s.used)
      ∙ ap (λ (k : ℕ). zero_row (length arena - k)) (sym s.used))

  -- and contents that end so are valid
  pub scanned_valid : at ≡ used → take heads_width table ≡ take heads_width heads
      → drop (entry_at n) table ≡ zero_row (length table - entry_at n) → drop at arena ≡ zero_row (length arena - at)
      → T (valid d)
  unfolding layout
  scanned_valid e h t a =
      subst (λ (x : Dict). T (valid x)) whole (valid_layout (length table) (length arena) ts
      (holds→ (length table) (length arena) ts s.holds))
    where
      entries_part : drop heads_width table ≡ all_entries ts ++ zero_row (length table - entry_at (length ts))
      entries_part =
          sym (take-append-drop (4 * n) (drop heads_width table))
          ∙ (λ i. s.entries i ++ (drop-drop (4 * n) heads_width table
          ∙ (t ∙ ap (λ (k : ℕ). zero_row (length table - entry_at k)) (sym (named_length table arena n)))) i)

      whole : layout (length table) (length arena) ts ≡ d
      whole =
          sym (λ i. dict
          ((sym (take-append-drop heads_width table) ∙ (λ j. (h ∙ s.chains) j ++ entries_part j)) i)
          ((sym (take-append-drop at arena) ∙ (λ j. s.bytes j
          ++ (a ∙ ap (λ (k : ℕ). zero_row (length arena - k)) s.used) j)) i)
          (sym (named_length table arena n) i)
          ((sym e ∙ s.used) i))

-- THE TESTS OF THE END
abbrev pub rest_of : ℕ → List ℕ → List ℕ
rest_of n a = take (length a - n) (drop n a)

-- from a place on a row is zero
abbrev zero_from : ℕ → List ℕ → Bool
zero_from n a = same_row (rest_of n a) (zero_row (length (rest_of n a)))

rest_long : (n : ℕ) (a : List ℕ) → length (rest_of n a) ≡ length a - n
rest_long n a = ap (λ (l : List ℕ). length l) (rest_part n a) ∙ length-drop n a

zeros→ : (n : ℕ) (a : List ℕ) → T (zero_from n a) → drop n a ≡ zero_row (length a - n)
zeros→ n a h =
    sym (rest_part n a) ∙ (same_row→ (rest_of n a) (zero_row (length (rest_of n a))) h ∙ ap zero_row (rest_long n a))

zeros← : (n : ℕ) (a : List ℕ) → drop n a ≡ zero_row (length a - n) → T (zero_from n a)
zeros← n a e = same_rows (rest_part n a ∙ (e ∙ ap zero_row (sym (rest_long n a))))

module _ {table arena heads : List ℕ} {n at : ℕ} (s : Scanned table arena heads n at) (used : ℕ) where
  abbrev valid_so : Bool
  valid_so = valid (dict table arena n used)

  abbrev same_heads : Bool
  same_heads = same_row (take heads_width table) (take heads_width heads)

  pub ends_other_used : at ≢ used → false ≡ valid (dict table arena n used)
  ends_other_used h = is_false valid_so (λ v. h (valid_used s used v))

  pub ends_other_heads : false ≡ same_row (take heads_width table) (take heads_width heads) → false ≡ valid (dict table arena n used)
  ends_other_heads e = is_false valid_so (λ v. false→not_T same_heads e (same_rows (valid_heads s used v)))

  pub ends_more_entries : false ≡ zero_from (entry_at n) table → false ≡ valid (dict table arena n used)
  ends_more_entries e =
      is_false valid_so (λ v. false→not_T (zero_from (entry_at n) table) e (zeros← (entry_at n) table (valid_table_rest s used v)))

  pub ends_by_bytes : {r : Bool} → at ≡ used → true ≡ same_row (take heads_width table) (take heads_width heads)
      → true ≡ zero_from (entry_at n) table → r ≡ zero_from at arena → r ≡ valid (dict table arena n used)
  ends_by_bytes {r} e h t a =
      let heads_same = same_row→ (take heads_width table) (take heads_width heads) (true→T same_heads h) in
      let table_rest = zeros→ (entry_at n) table (true→T (zero_from (entry_at n) table) t) in
      same_test r (zero_from at arena) valid_so a (λ z. scanned_valid s used e heads_same table_rest (zeros→ at arena z))
      (λ v. zeros← at arena (valid_arena_rest s used v))

-- THE TESTS BEFORE
module _ (d : Dict) where
  pub other_sizes : {r : ℕ} → r ≡ start_refusal (length d.table) (length d.arena) → r ≢ 0 → false ≡ valid d
  other_sizes e n =
      is_false (valid d) (λ v. let h = held d v in n
      (e ∙ sym (no_refusal (length d.table) (length d.arena) h.sizes h.starts)))

  pub few_terms : d.terms < start_count → false ≡ valid d
  few_terms h = is_false (valid d) (λ v. omega (arith, (lengths d v).some))

  pub many_terms : length d.table < entry_at d.terms → false ≡ valid d
  many_terms h = is_false (valid d) (λ v. omega (arith, (lengths d v).entries))
