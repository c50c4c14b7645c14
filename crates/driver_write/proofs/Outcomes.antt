-- What a write answers and leaves: refusal 1, 4 or 6, refusal 15 with bytes all zero, or the text, then zeros. Assumes nothing.
use Rattle.std.specs.Prelude.{Result, Ok, Err}
use Rattle.common.specs.declared.refusal.Refusal.{Refusal}
use Rattle.common.specs.declared.refusal.Refusal.TheVariants.{BrokenDictionary, IllSizedStore, UnknownTerm, PageFull}
use mathlib.Core.Path.{◌≡◌, sym, ap, ap₂, subst, ◌∙◌}
use mathlib.Core.List.{List, ◌++◌, append-nil}
use Prim.Native.Nat.{ℕ, ◌-◌, ◌*◌, ◌/◌, ◌%◌, ◌≤◌, ◌<◌}
use native.Mathlib.Omega.{arith}
use lib.Dec.{T, leb, eqb, leb→le, le→leb}
use lib.ListN.{length, take, drop, replicate, length-drop, drop_of_length-le}
use lib.Seq.{length-take-le}
use Rattle.common.specs.Sizes.{store_width, store_limit, entry_limit}
use Rattle.common.specs.Triples.{all}
use Rattle.common.specs.Rows.{filled}
use Rattle.common.proofs.Lists.{and→}
use Rattle.dictionary_layout.specs.Layout.{Dict, decode}
use Rattle.dictionary_layout.specs.Dictionary.{valid}
use Rattle.dictionary_layout.proofs.Choice.{if_yes, if_no}
use Rattle.dictionary_entries.proofs.Reading.{count, lengths}
use Rattle.ntriples.specs.Grammar.{Terms}
use Rattle.ntriples_utf8.specs.Promises.{Wrote}
use Rattle.ntriples_canonical.specs.Writing.{text_of, left_out}
use Rattle.ntriples_canonical.specs.Calls.{lengths_hold, known, written_on, abstract_write, write_gives}
use Rattle.driver_write.specs.declared.values.WriteNext.{WriteNext}
use Rattle.driver_write.specs.Values.{write_left}
use Rattle.driver_write.specs.Lines.{row_triples, all_lines, KnownRows}

-- room for a number of each term
pub entries_few : (d : Dict) → T (valid d) → length (decode d) ≤ entry_limit
entries_few d v = omega (arith, count d v, (lengths d v).few)

-- THE TEXT OF ALL LINES, measured, on a page
module _ (page : List ℕ) (w : List Terms) {all : WriteNext} (a : all ≡ record { used = length (text_of w); left = left_out w }) where
  long : all.used ≡ length (text_of w)
  long = ap (λ (x : WriteNext). x.used) a

  -- without room
  pub page_small : {r : Result WriteNext Refusal} {new : List ℕ} → length page < all.used → r ≡ Err PageFull
      → new ≡ replicate (length page) 0 → write_left r new ≡ written_on page w
  unfolding written_on
  page_small h e z =
      ap₂ write_left e z ∙ sym (if_no (leb (length (text_of w)) (length page)) _ _
      (λ t. omega (arith, long, leb→le (length (text_of w)) (length page) t)))

  -- with room
  module _ (h : all.used ≤ length page) where
    pub text_fits : length (text_of w) ≤ length page
    text_fits = omega (arith, long)

    -- written from the first byte on, and zeros behind it
    module _ {b : List ℕ} {end : ℕ} (v : Wrote page 0 (text_of w) b end) where
      pub end_within : end ≤ length b
      end_within = omega (arith, text_fits, v.end, v.same)

      -- the page then
      page_filled : {ys : List ℕ} → ys ≡ replicate (length (take (length b - end) (drop end b))) 0
          → take end b ++ (ys ++ drop (length b - end) (drop end b)) ≡ filled page (text_of w)
      page_filled {ys} z =
          let m = length-drop end b in
          let k : length (take (length b - end) (drop end b)) ≡ length page - length (text_of w) =
          length-take-le (length b - end) (drop end b) (omega arith) ∙ omega (arith, v.end, v.same) in
          ap₂ ◌++◌ v.front (ap (λ l. ys ++ l) (drop_of_length-le (drop end b) {i = length b - end} (omega arith))
          ∙ (append-nil ys ∙ (z ∙ ap (λ (n : ℕ). replicate n 0) k)))

      pub page_written : {ys : List ℕ} → ys ≡ replicate (length (take (length b - end) (drop end b))) 0
          → write_left (Ok all) (take end b ++ (ys ++ drop (length b - end) (drop end b))) ≡ written_on page w
      unfolding written_on
      page_written z =
          ap₂ write_left (ap Ok a) (page_filled z)
          ∙ sym (if_yes (leb (length (text_of w)) (length page)) _ _ (le→leb (length (text_of w)) (length page) text_fits))

-- THE CALL, with lengths that hold
module _ (store : List ℕ) (n : ℕ) (h : T (lengths_hold (length store) n)) where
  -- the store is not too long, and has the rows
  bounds : (length store ≤ store_width * store_limit) × (n ≤ length store / store_width)
  bounds =
      let (r, s) = and→ (eqb (length store % store_width) 0) _ h in
      let (l, c) = and→ (leb (length store) (store_width * store_limit)) (leb n (length store / store_width)) s in
      (leb→le (length store) (store_width * store_limit) l, leb→le n (length store / store_width) c)

  -- so many numbers are lent: whole rows,
  pub lent_long : length (take (store_width * n) store) ≡ store_width * n
  lent_long = length-take-le (store_width * n) store (let (l, c) = bounds in omega arith)

  pub lent_whole : length (take (store_width * n) store) % store_width ≡ 0
  lent_whole = let e = lent_long in omega arith

  -- of known ids
  pub lent_known : (d : Dict) → T (all (known d.terms) (row_triples (take (store_width * n) store)))
      → KnownRows d (take (store_width * n) store)
  lent_known d k = record {
    whole = lent_whole;
    few = let e = lent_long in let (l, c) = bounds in omega arith;
    ids = k;
  }

-- what is refused, and what is written
module _ (d : Dict) (store : List ℕ) (n : ℕ) (page : List ℕ) where
  -- a broken dictionary
  pub write_1 : {r : Result WriteNext Refusal} → r ≡ Err BrokenDictionary → (T (valid d) → ⊥)
      → write_left r page ≡ write_gives d store n page
  unfolding write_gives
  write_1 e b = ap (λ x. write_left x page) e ∙ sym (if_no (valid d) _ _ b)

  module _ (v : T (valid d)) where
    -- what the terms give
    on_terms : abstract_write (decode d) store n page ≡ write_gives d store n page
    unfolding write_gives
    on_terms = sym (if_yes (valid d) _ _ v)

    -- lengths that do not hold
    pub write_4 : {r : Result WriteNext Refusal} → r ≡ Err IllSizedStore → (T (lengths_hold (length store) n) → ⊥)
        → write_left r page ≡ write_gives d store n page
    unfolding abstract_write
    write_4 e b = ap (λ x. write_left x page) e ∙ (sym (if_no (lengths_hold (length store) n) _ _ b) ∙ on_terms)

    module _ (h : T (lengths_hold (length store) n)) where
      abbrev lent : List ℕ
      lent = take (store_width * n) store

      -- an id that no term has
      pub write_6 : {r : Result WriteNext Refusal} → r ≡ Err UnknownTerm → (T (all (known d.terms) (row_triples lent)) → ⊥)
          → write_left r page ≡ write_gives d store n page
      unfolding abstract_write
      write_6 e b =
          ap (λ x. write_left x page) e
          ∙ (sym (if_yes (lengths_hold (length store) n) _ _ h
          ∙ if_no (all (known (length (decode d))) (row_triples lent)) _ _
          (λ t. b (subst (λ k. T (all (known k) (row_triples lent))) (sym (count d v)) t))) ∙ on_terms)

      -- all ids known
      pub write_rows : T (all (known d.terms) (row_triples lent)) → written_on page (all_lines d lent) ≡ write_gives d store n page
      unfolding abstract_write
      write_rows k =
          sym (if_yes (lengths_hold (length store) n) _ _ h
          ∙ if_yes (all (known (length (decode d))) (row_triples lent)) _ _
          (subst (λ m. T (all (known m) (row_triples lent))) (count d v) k)) ∙ on_terms
