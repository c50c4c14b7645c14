-- What a write gives for the numbers that it is passed is what it would give for those of the buffers. Assumes nothing.
use mathlib.Core.Path.{◌≡◌, refl, sym, ap, subst, ◌∙◌}
use mathlib.Core.Logic.{⊎_elim}
use mathlib.Core.Bool.{◌&&◌}
use mathlib.Core.List.{List, [], ◌∷◌, ◌++◌}
use Prim.Native.Nat.{ℕ, zero, suc, ◌*◌, ◌/◌, ◌%◌, ◌≤◌}
use native.Mathlib.Omega.{arith}
use lib.Dec.{T, leb, eqb, eqb→eq, leb→le}
use lib.ListN.{length, take}
use lib.Seq.{take-append_seam}
use Rattle.common.specs.Sizes.{store_width}
use Rattle.common.specs.Triples.{if, all, erase}
use Rattle.common.specs.Rows.{rows_of}
use Rattle.common.proofs.Lists.{and→}
use Rattle.dictionary_layout.specs.Terms.{Term}
use Rattle.dictionary_layout.specs.Layout.{Dict, decode}
use Rattle.dictionary_layout.specs.Dictionary.{valid}
use Rattle.dictionary_layout.specs.Calls.{on_valid}
use Rattle.dictionary_layout.proofs.Choice.{if_no, decide_bool}
use Rattle.ntriples_canonical.specs.Writing.{as_terms}
use Rattle.ntriples_canonical.specs.Calls.{write_answer, lengths_hold, known, written_on, abstract_write, write_gives}
use Rattle.edge_bytes.specs.Bytes.{from_bytes, numbers_of, read_buffer}
use Rattle.edge_c.specs.Calls.{read_dict, write_bytes_give}
use Rattle.edge_c.specs.Forwarded.{longest_store, store_forwarded, RowsRead}
use Rattle.edge_c.proofs.Forwarding.{StoreForwarded, whole, ragged, long, by_length, ReadTable}
use Rattle.edge_c.proofs.Tables.{with_table, dict_alike}

-- THE FIRST ROWS: as many numbers as they have are lent only where the bytes have four for each
pub rows_within : (b s : List ℕ) (n : ℕ) → length s ≡ store_forwarded (length b) → store_width * n ≤ length s
    → 4 * (store_width * n) ≤ length b
rows_within b s n e h = go (by_length e)
  where
    go : StoreForwarded b (length s) → 4 * (store_width * n) ≤ length b
    go (whole p u q r) = omega arith
    go (ragged p q) = omega arith
    go (long p u q r) = omega arith

-- the numbers of the first bytes are the first numbers
take_numbers : (n : ℕ) (b : List ℕ) → numbers_of (take (4 * n) b) ≡ take n (numbers_of b)
unfolding numbers_of
take_numbers zero b = refl
take_numbers (suc n) b = let e : 4 * suc n ≡ suc (suc (suc (suc (4 * n)))) = omega arith in rw e (go b (take_numbers n))
  where
    go : (b : List ℕ) → ((l : List ℕ) → numbers_of (take (4 * n) l) ≡ take n (numbers_of l))
        → numbers_of (take (suc (suc (suc (suc (4 * n))))) b) ≡ take (suc n) (numbers_of b)
    go [] k = refl
    go (x ∷ []) k = refl
    go (x ∷ y ∷ []) k = refl
    go (x ∷ y ∷ z ∷ []) k = refl
    go (x ∷ y ∷ z ∷ w ∷ l) k = ap (λ (m : List ℕ). from_bytes x y z w ∷ m) (k l)

-- n numbers x, read from as many bytes of b, in front of others
pub front_numbers : (n : ℕ) (b rest : List ℕ) {x : List ℕ} → length x ≡ n → x ≡ numbers_of (take (4 * n) b)
    → take n (x ++ rest) ≡ take n (numbers_of b)
front_numbers n b rest {x} k e =
    subst (λ (m : ℕ). take m (x ++ rest) ≡ x) k (take-append_seam x rest) ∙ (e ∙ take_numbers n b)

-- A WRITE looks at a store's length and its first rows
module _ (ts : List Term) (n : ℕ) (page : List ℕ) where
  refused_4 : (store : List ℕ) → (T (lengths_hold (length store) n) → ⊥) → abstract_write ts store n page ≡ write_answer 4 0 0 page
  unfolding abstract_write
  refused_4 store h = if_no (lengths_hold (length store) n) _ (λ _. write_answer 4 0 0 page) h

  rows_alike : (s t : List ℕ) → length s ≡ length t → take (store_width * n) s ≡ take (store_width * n) t
      → abstract_write ts s n page ≡ abstract_write ts t n page
  unfolding abstract_write
  rows_alike s t e q = λ i.
      if (lengths_hold (e i) n) (λ _.
      if (all (known (length ts)) (erase (rows_of (q i)))) (λ _. written_on page (as_terms ts (erase (rows_of (q i)))))
      (λ _. write_answer 6 0 0 page))
      (λ _. write_answer 4 0 0 page)

-- the lengths that are not refused
record Held (len n : ℕ) : Type 0 where
  rows : len % store_width ≡ 0
  few : len ≤ longest_store
  counted : store_width * n ≤ len

held : (len n : ℕ) → T (lengths_hold len n) → Held len n
held len n h =
    let (a, k) = and→ (eqb (len % store_width) 0) (leb len longest_store && leb n (len / store_width)) h in
    let (b, c) = and→ (leb len longest_store) (leb n (len / store_width)) k in
    record {
      rows = eqb→eq (len % store_width) 0 a;
      few = leb→le len longest_store b;
      counted = omega (arith, leb→le n (len / store_width) c);
    }

-- a broken dictionary
broken : (d : Dict) (store : List ℕ) (n : ℕ) (page : List ℕ) → (T (valid d) → ⊥) → write_gives d store n page ≡ write_answer 1 0 0 page
unfolding write_gives
broken d store n page h = if_no (valid d) (λ _. abstract_write (decode d) store n page) (λ _. write_answer 1 0 0 page) h

-- the numbers s are passed for the store b
module _ (b s : List ℕ) (k : StoreForwarded b (length s)) (n : ℕ) (r : RowsRead b n s) (page : List ℕ) where
  abbrev own : List ℕ
  own = read_buffer b

  store_alike : (ts : List Term) → abstract_write ts s n page ≡ abstract_write ts own n page
  store_alike ts = go k
    where
      both : (T (lengths_hold (length s) n) → ⊥) → (T (lengths_hold (length own) n) → ⊥)
          → abstract_write ts s n page ≡ abstract_write ts own n page
      both p q = refused_4 ts n page s p ∙ sym (refused_4 ts n page own q)

      go : StoreForwarded b (length s) → abstract_write ts s n page ≡ abstract_write ts own n page
      go (whole p u q w) =
          ⊎_elim (λ h. rows_alike ts n page s own q (r (held (length s) n h).counted p ∙ ap (take (store_width * n)) (sym w)))
          (λ h. both h (subst (λ (m : ℕ). T (lengths_hold m n) → ⊥) q h)) (decide_bool (lengths_hold (length s) n))
      go (ragged p q) =
          both (λ h. omega (arith, (held (length s) n h).rows)) (λ h. omega (arith, (held (length own) n h).rows))
      go (long p u q w) =
          both (λ h. omega (arith, (held (length s) n h).rows)) (λ h. omega (arith, (held (length own) n h).few))

  -- THE CALL, in a dictionary d whose table is bytes, from which the numbers t were read
  pub write_alike : (d : Dict) {t : List ℕ} → ReadTable d.table t → write_gives (with_table t d) s n page ≡ write_bytes_give d b n page
  unfolding write_bytes_give write_gives
  write_alike d {t} h =
      ⊎_elim by_numbers (λ p. broken (with_table t d) s n page p.0 ∙ sym (broken (read_dict d) own n page p.1)) (dict_alike d h)
    where
      by_numbers : with_table t d ≡ read_dict d → write_gives (with_table t d) s n page ≡ write_gives (read_dict d) own n page
      by_numbers e =
          ap (λ (x : Dict). write_gives x s n page) e
          ∙ (λ i. on_valid (read_dict d) (λ tl al ts. store_alike ts i) (λ _. write_answer 1 0 0 page))
