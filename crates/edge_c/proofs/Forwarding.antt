-- The numbers that a call is passed for a buffer of bytes. Assumes nothing.
use mathlib.Core.Path.{◌≡◌, refl, sym, ap, subst, ◌∙◌}
use mathlib.Core.Bool.{Bool, true, false}
use mathlib.Core.List.{List, [], ◌∷◌}
use Prim.Native.Nat.{ℕ, ◌*◌, ◌/◌, ◌%◌, ◌≤◌, ◌<◌}
use native.Mathlib.Omega.{arith}
use lib.Dec.{eqb, leb}
use lib.ListN.{length, take, replicate, length-replicate}
use lib.Seq.{length-take-le}
use mir.Syntax.{w64}
use mir.Val.{Fits}
use borrow.Author.Tests.{eq-eqb, ne_eqb, eqb-true, eqb-false, leb-true, leb-false}
use Rattle.common.specs.Sizes.{table_limit}
use Rattle.edge_bytes.specs.Bytes.{numbers_of, read_buffer, forwarded}
use Rattle.driver_refusals.specs.Lent.{Lent, lent}
use Rattle.edge_c.specs.Forwarded.{longest_load, longest_store, longest_findings, longest_work, longer_load, load_array}
use Rattle.edge_c.specs.Forwarded.{table_forwarded, load_forwarded, store_forwarded, findings_forwarded, work_forwarded}
use Rattle.edge_c.specs.Forwarded.{full_load, full_array, full_forwarded, ForwardedAll, Enough, ForwardedBoth, EnoughBoth}
use Rattle.edge_c.specs.Forwarded.{ForwardedStore, EnoughStore}
use Rattle.edge_bytes.proofs.Coding.{forwarded_ragged, forwarded_all, forwarded_more}

pub length_numbers : (b : List ℕ) → length (numbers_of b) ≡ length b / 4
unfolding numbers_of
length_numbers [] = omega arith
length_numbers (a ∷ []) = omega arith
length_numbers (a ∷ b ∷ []) = omega arith
length_numbers (a ∷ b ∷ c ∷ []) = omega arith
length_numbers (a ∷ b ∷ c ∷ d ∷ l) = omega (arith, length_numbers l)

-- the numbers of a buffer, by its length
module _ (b : List ℕ) where
  pub read_whole : length b % 4 ≡ 0 → read_buffer b ≡ numbers_of b
  unfolding read_buffer
  read_whole h = simp (eq-eqb (length b % 4) 0 h)

  pub read_ragged : (length b % 4 ≡ 0 → ⊥) → length (read_buffer b) ≡ 1
  unfolding read_buffer
  read_ragged h = simp (ne_eqb (length b % 4) 0 h)

-- n numbers for the buffer b: all of them, or one for a buffer whose length is no multiple of 4, or `more` for one that has over `most`
pub data Forwarded (most more : ℕ) (b : List ℕ) (n : ℕ) : Type 0 where
  whole : length b ≡ 4 * n → n ≤ most → n ≡ length (read_buffer b) → read_buffer b ≡ numbers_of b → Forwarded most more b n
  ragged : n ≡ 1 → length (read_buffer b) ≡ 1 → Forwarded most more b n
  long : n ≡ more → length b % 4 ≡ 0 → length (read_buffer b) ≡ length b / 4 → most < length b / 4 → Forwarded most more b n

pub by_length : {most more : ℕ} {b : List ℕ} {n : ℕ} → n ≡ forwarded most more (length b) → Forwarded most more b n
by_length {most} {more} {b} {n} e = go (eqb (length b % 4) 0) (leb (length b / 4) most) refl refl
  where
    all : length b % 4 ≡ 0 → length (read_buffer b) ≡ length b / 4
    all h = ap (λ (l : List ℕ). length l) (read_whole b h) ∙ length_numbers b

    go : (p q : Bool) → eqb (length b % 4) 0 ≡ p → leb (length b / 4) most ≡ q → Forwarded most more b n
    go true true i j =
        let h = eqb-true (length b % 4) 0 i in
        let k = leb-true (length b / 4) most j in
        let same = forwarded_all most more (length b) h k in
        whole (omega arith) (omega arith) (omega (arith, all h)) (read_whole b h)
    go true false i j =
        let h = eqb-true (length b % 4) 0 i in
        let k = leb-false (length b / 4) most j in
        long (e ∙ sym (forwarded_more most more (length b) h k)) h (all h) k
    go false q i j =
        let h = eqb-false (length b % 4) 0 i in
        ragged (e ∙ sym (forwarded_ragged most more (length b) h)) (read_ragged b h)

abbrev pub TableForwarded : List ℕ → ℕ → Type 0
TableForwarded b n = Forwarded table_limit 1 b n

abbrev pub LoadForwarded : List ℕ → ℕ → Type 0
LoadForwarded b n = Forwarded longest_load (longer_load (length b / 4)) b n

abbrev pub StoreForwarded : List ℕ → ℕ → Type 0
StoreForwarded b n = Forwarded longest_store 1 b n

abbrev pub FindingsForwarded : List ℕ → ℕ → Type 0
FindingsForwarded b n = Forwarded longest_findings 1 b n

abbrev pub WorkForwarded : List ℕ → ℕ → Type 0
WorkForwarded b n = Forwarded longest_work longest_work b n

abbrev pub FullForwarded : List ℕ → ℕ → Type 0
FullForwarded b n = Forwarded longest_load (full_load (length b / 4)) b n

-- NUMBERS THAT SUFFICE for every buffer: for the most that are passed on, for one, and for those in place of a longer one
pub record Suffices (most more : ℕ) (l : List ℕ) : Type 0 where
  pub room : most ≤ length l
  pub one : 1 ≤ length l
  pub rest : more ≤ length l

pub table_enough : (l : List ℕ) → table_limit ≤ length l → Suffices table_limit 1 l
table_enough l h = record { room = h; one = omega arith; rest = omega arith }

pub load_enough : (n : ℕ) (l : List ℕ) → load_array ≤ length l → Suffices longest_load (longer_load n) l
load_enough n l h = record { room = omega arith; one = omega arith; rest = omega arith }

pub store_enough : (l : List ℕ) → longest_store ≤ length l → Suffices longest_store 1 l
store_enough l h = record { room = h; one = omega arith; rest = omega arith }

pub findings_enough : (l : List ℕ) → longest_findings ≤ length l → Suffices longest_findings 1 l
findings_enough l h = record { room = h; one = omega arith; rest = omega arith }

pub work_enough : (l : List ℕ) → longest_work ≤ length l → Suffices longest_work longest_work l
work_enough l h = record { room = h; one = omega arith; rest = h }

pub full_enough : (n : ℕ) (l : List ℕ) → full_array ≤ length l → Suffices longest_load (full_load n) l
full_enough n l h = record { room = omega arith; one = omega arith; rest = omega arith }

-- the numbers in place of a longer load are few
pub few_more : (n : ℕ) → Fits w64 (longer_load n)
few_more n = record { fits = omega arith }

pub few_full : (n : ℕ) → Fits w64 (full_load n)
few_full n = record { fits = omega arith }

-- the first n numbers of l
pub record Prefix (l : List ℕ) (n : ℕ) : Type 0 where
  pub fits : n ≤ length l
  pub count : n ≡ length (take n l)

-- such numbers have as many in front as are passed for the buffer b
module _ {most more : ℕ} {l : List ℕ} (h : Suffices most more l) (b : List ℕ) {n : ℕ} (e : n ≡ forwarded most more (length b)) where
  pub prefix : Prefix l n
  prefix = let within = go (by_length e) in record { fits = within; count = sym (length-take-le n l within) }
    where
      go : Forwarded most more b n → n ≤ length l
      go (whole p u q r) = omega (arith, h.room)
      go (ragged p q) = omega (arith, h.one)
      go (long p q r s) = omega (arith, h.rest)

  pub prefix_forwarded : length (take n l) ≡ forwarded most more (length b)
  prefix_forwarded = sym prefix.count ∙ e

pub all_forwarded : {t : List ℕ} {m : Lent} → Enough t m → (table : List ℕ) (b : Lent) {i j k x y : ℕ}
    → i ≡ table_forwarded (length table) → j ≡ load_forwarded (length b.load) → k ≡ store_forwarded (length b.store)
    → x ≡ findings_forwarded (length b.findings) → y ≡ work_forwarded (length b.work)
    → ForwardedAll (take i t) (lent (take j m.load) (take k m.store) (take x m.findings) (take y m.work)) table b
all_forwarded {t} {m} h table b p q r u v = record {
  table_numbers = prefix_forwarded (table_enough t h.table_room) table p;
  load_numbers = prefix_forwarded (load_enough (length b.load / 4) m.load h.load_room) b.load q;
  store_numbers = prefix_forwarded (store_enough m.store h.store_room) b.store r;
  findings_numbers = prefix_forwarded (findings_enough m.findings h.findings_room) b.findings u;
  work_numbers = prefix_forwarded (work_enough m.work h.work_room) b.work v;
}

pub both_forwarded : {t l : List ℕ} → EnoughBoth t l → (table load : List ℕ) {i j : ℕ} → i ≡ table_forwarded (length table)
    → j ≡ full_forwarded (length load) → ForwardedBoth (take i t) (take j l) table load
both_forwarded {t} {l} h table load p q = record {
  table_numbers = prefix_forwarded (table_enough t h.table_room) table p;
  load_numbers = prefix_forwarded (full_enough (length load / 4) l h.load_room) load q;
}

pub store_forwarded_both : {t s : List ℕ} → EnoughStore t s → (table store : List ℕ) {i j : ℕ} → i ≡ table_forwarded (length table)
    → j ≡ store_forwarded (length store) → ForwardedStore (take i t) (take j s) table store
store_forwarded_both {t} {s} h table store p q = record {
  table_numbers = prefix_forwarded (table_enough t h.table_room) table p;
  store_numbers = prefix_forwarded (store_enough s h.store_room) store q;
}

-- local arrays suffice
long_enough : {m : ℕ} (n : ℕ) → m ≤ n → m ≤ length (replicate {A = ℕ} n 0)
long_enough {m} n h = subst (λ (k : ℕ). m ≤ k) (sym (length-replicate {A = ℕ} n 0)) h

pub table_array : table_limit ≤ length (replicate {A = ℕ} table_limit 0)
table_array = long_enough table_limit (omega arith)

pub arrays : Enough (replicate table_limit 0)
    (lent (replicate load_array 0) (replicate longest_store 0) (replicate longest_findings 0) (replicate longest_work 0))
arrays = record {
  table_room = table_array;
  load_room = long_enough load_array (omega arith);
  store_room = long_enough longest_store (omega arith);
  findings_room = long_enough longest_findings (omega arith);
  work_room = long_enough longest_work (omega arith);
}

pub both_arrays : EnoughBoth (replicate table_limit 0) (replicate full_array 0)
both_arrays = record { table_room = table_array; load_room = long_enough full_array (omega arith) }

pub store_arrays : EnoughStore (replicate table_limit 0) (replicate longest_store 0)
store_arrays = record { table_room = table_array; store_room = long_enough longest_store (omega arith) }

-- THE NUMBERS t READ from the bytes b: the bytes' own, where they are all
pub record Read (most more : ℕ) (b t : List ℕ) : Type 0 where
  pub passed : Forwarded most more b (length t)
  pub numbers : length b ≡ 4 * length t → t ≡ numbers_of b

abbrev pub ReadTable : List ℕ → List ℕ → Type 0
ReadTable b t = Read table_limit 1 b t

abbrev pub ReadLoad : List ℕ → List ℕ → Type 0
ReadLoad b l = Read longest_load (longer_load (length b / 4)) b l

abbrev pub ReadStore : List ℕ → List ℕ → Type 0
ReadStore b s = Read longest_store 1 b s

-- n numbers stood there before, which is what the contract of `read_numbers` speaks of
pub read_as : {most more : ℕ} {b t : List ℕ} {n : ℕ} → n ≡ forwarded most more (length b) → length t ≡ n
    → (length b ≡ 4 * n → t ≡ numbers_of b) → Read most more b t
read_as e k f = record { passed = by_length (k ∙ e); numbers = λ p. f (p ∙ ap (λ (m : ℕ). 4 * m) k) }

-- THE NUMBERS t AND m that a run, an opening call or a pass is passed for the bytes of the table and of b: the table's and the load's are
-- read; a pass reads the store's too
pub record Passed (table : List ℕ) (b : Lent) (t : List ℕ) (m : Lent) : Type 0 where
  pub table_read : ReadTable table t
  pub load_read : ReadLoad b.load m.load
  pub store_passed : StoreForwarded b.store (length m.store)
  pub findings_passed : FindingsForwarded b.findings (length m.findings)
  pub work_passed : WorkForwarded b.work (length m.work)

pub all_read : {t t' l' s' table : List ℕ} {m b : Lent} → ForwardedAll t m table b
    → length t' ≡ length t → (length table ≡ 4 * length t → t' ≡ numbers_of table)
    → length l' ≡ length m.load → (length b.load ≡ 4 * length m.load → l' ≡ numbers_of b.load)
    → length s' ≡ length m.store → Passed table b t' (lent l' s' m.findings m.work)
all_read h i p j q k = record {
  table_read = read_as h.table_numbers i p;
  load_read = read_as h.load_numbers j q;
  store_passed = by_length (k ∙ h.store_numbers);
  findings_passed = by_length h.findings_numbers;
  work_passed = by_length h.work_numbers;
}
