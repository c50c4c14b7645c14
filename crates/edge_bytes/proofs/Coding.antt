-- The loops that read and write numbers as bytes. Assumes nothing.
use Prim.Native.Nat.{ℕ, zero, suc, ◌+◌, ◌*◌, ◌/◌, ◌%◌, ◌≤◌, ◌<◌}
use mathlib.Core.Bool.{Bool, true, false}
use mathlib.Core.Path.{◌≡◌, refl, sym, ap, ◌∙◌}
use mathlib.Core.List.{List, [], ◌∷◌, ◌++◌, append-nil, append_assoc}
use native.Mathlib.Numerals.{add-one}
use native.Mathlib.Omega.{arith}
use Rattle.std.proofs.Common.{w32, slice_index}
use borrow.Rule.Slice.PartMut.{put_mid}
use Rattle.std.specs.Int.{from_le_bytes, to_le_bytes}
use Rattle.std.proofs.lemmas.Slice.{take-put_mid}
use Rattle.std.specs.Simd.{first_chunks}
use Rattle.std.proofs.lemmas.List.{get_or-take, get_or-drop}
use lib.ListN.{length, take, drop, get_or, set, drop_of_length-le, replicate}
use lib.Seq.{drop-cons, take-suc-set, append_snoc, take_all}
use borrow.Author.Tests.{eq-eqb, ne_eqb, le-leb, lt-leb}
use Rattle.common.specs.Triples.{if}
use Rattle.edge_bytes.specs.Bytes.{from_bytes, to_bytes, numbers_of, bytes_of, changes, left_bytes, forwarded, cleared}

-- the number of the four bytes from a place on
abbrev number_at : List ℕ → ℕ → ℕ
number_at l k = from_bytes (get_or l k 0) (get_or l (k + 1) 0) (get_or l (k + 2) 0) (get_or l (k + 3) 0)

numbers_step : (l : List ℕ) (k : ℕ) → k + 3 < length l
    → numbers_of (drop k l) ≡ number_at l k ∷ numbers_of (drop (k + 4) l)
unfolding numbers_of
numbers_step l k h =
    let e₁ : k + 1 ≡ suc k = omega arith in
    let e₂ : k + 2 ≡ suc (suc k) = omega arith in
    let e₃ : k + 3 ≡ suc (suc (suc k)) = omega arith in
    let e₄ : k + 4 ≡ suc (suc (suc (suc k))) = omega arith in
    rw (
      e₁,
      e₂,
      e₃,
      e₄,
      drop-cons l k 0 (omega arith),
      drop-cons l (suc k) 0 (omega arith),
      drop-cons l (suc (suc k)) 0
          (omega arith),
      drop-cons l (suc (suc (suc k))) 0 (omega arith),
    )

-- the elements of the i-th of k arrays of four
four_index : (k i j : ℕ) (l : List ℕ) → i < k → j < 4 → slice_index (get_or (first_chunks 4 k l) i []) j ≡ get_or l (4 * i + j) 0
four_index zero i j l h g = absurd (omega arith)
four_index (suc k) zero j l h g = let e : 4 * 0 + j ≡ j = omega arith in rw e (get_or-take 4 l j 0 g)
four_index (suc k) (suc i) j l h g =
    let e : 4 * suc i + j ≡ 4 + (4 * i + j) = omega arith in
    rw e (four_index k i j (drop 4 l) (omega arith) g ∙ get_or-drop 4 l (4 * i + j) 0)

-- one number more is stored
pub numbers_more : (l ws all : List ℕ) (k i w : ℕ) → i < length ws → i < k → k ≡ length l / 4
    → w ≡ from_le_bytes w32 (get_or (first_chunks 4 k l) i []) → take i ws ++ numbers_of (drop (4 * i) l) ≡ all
    → take (i + 1) (set ws i w) ++ numbers_of (drop (4 * (i + 1)) l) ≡ all
numbers_more l ws all k i w h g f e p =
    let n : 4 * (i + 1) ≡ 4 * i + 4 = omega arith in
    let four = λ (j : ℕ) (t : j < 4). four_index k i j l g t in
    let first : 4 * i + 0 ≡ 4 * i = omega arith in
    let worth : w ≡ number_at l (4 * i) = omega
    (arith, rw first at (four 0 (omega arith)), four 1 (omega arith), four 2 (omega arith), four 3 (omega arith)) in
    rw (n, add-one i, take-suc-set ws i w h, append_snoc, worth, ← numbers_step l (4 * i) (omega arith)) p

pub numbers_done : (l ws all : List ℕ) (i : ℕ) → length ws ≤ i → length l ≤ 4 * i
    → take i ws ++ numbers_of (drop (4 * i) l) ≡ all → ws ≡ all
unfolding numbers_of
numbers_done l ws all i h k p =
    let q : take i ws ++ numbers_of [] ≡ all = rw (drop_of_length-le l k) at p in
    sym (take_all i ws h) ∙ sym (append-nil (take i ws)) ∙ q

bytes_step : (l : List ℕ) (i : ℕ) → i < length l
    → bytes_of (drop i l) ≡ to_bytes (get_or l i 0) (bytes_of (drop (i + 1) l))
unfolding bytes_of
bytes_step l i h = rw (add-one i, drop-cons l i 0 h)

-- one number more is written
pub bytes_more : (ws bs all four : List ℕ) (i k : ℕ) → i < length ws → 4 * i + 4 ≤ length bs → four ≡ to_le_bytes w32 (get_or ws i 0)
    → take (4 * i) bs ++ bytes_of (drop i ws) ≡ all → take (4 * (i + 1)) (put_mid (4 * i) k bs four) ++ bytes_of (drop (i + 1) ws) ≡ all
bytes_more ws bs all four i k h g e p =
    let long : length four ≡ 4 = ap length e in
    rw (take-put_mid (4 * i) k bs four (4 * (i + 1)) (omega arith) (omega arith), append_assoc, e, ← bytes_step ws i h) p

pub bytes_done : (ws bs all : List ℕ) (i : ℕ) → length ws ≤ i → length bs ≤ 4 * i → take (4 * i) bs ++ bytes_of (drop i ws) ≡ all → bs ≡
    all
unfolding bytes_of
bytes_done ws bs all i h k p =
    let q : take (4 * i) bs ++ bytes_of [] ≡ all = rw (drop_of_length-le ws h) at p in
    sym (take_all (4 * i) bs k) ∙ sym (append-nil (take (4 * i) bs)) ∙ q

-- a call that is not refused may have changed a buffer
pub changes_0 : (n : ℕ) → n ≡ 0 → true ≡ changes n
unfolding changes
changes_0 n e = simp (eq-eqb n 0 e)

-- how many numbers are passed on
module _ (most more n : ℕ) where
  pub forwarded_ragged : (n % 4 ≡ 0 → ⊥) → 1 ≡ forwarded most more n
  unfolding forwarded
  forwarded_ragged h = simp (ne_eqb (n % 4) 0 h)

  pub forwarded_all : n % 4 ≡ 0 → n / 4 ≤ most → n / 4 ≡ forwarded most more n
  unfolding forwarded
  forwarded_all h k = simp (eq-eqb (n % 4) 0 h, le-leb (n / 4) most k)

  pub forwarded_more : n % 4 ≡ 0 → most < n / 4 → more ≡ forwarded most more n
  unfolding forwarded
  forwarded_more h k = simp (eq-eqb (n % 4) 0 h, lt-leb (n / 4) most k)

-- a buffer that is written back, and one that is not
module _ (n : ℕ) (b l : List ℕ) where
  pub left_written : {x : List ℕ} → true ≡ changes n → x ≡ bytes_of l → x ≡ left_bytes n b l
  unfolding left_bytes
  left_written e q = q ∙ ap (λ (t : Bool). if t (λ _. bytes_of l) (λ _. b)) e

  pub left_alone : false ≡ changes n → b ≡ left_bytes n b l
  unfolding left_bytes
  left_alone e = ap (λ (t : Bool). if t (λ _. bytes_of l) (λ _. b)) e

-- a list work buffer that is cleared, and one that is not
module _ (n : ℕ) (b : List ℕ) where
  pub cleared_yes : {x : List ℕ} → true ≡ changes n → x ≡ replicate (length b) 0 → x ≡ cleared n b
  unfolding cleared
  cleared_yes e q = q ∙ ap (λ (t : Bool). if t (λ _. replicate (length b) 0) (λ _. b)) e

  pub cleared_no : false ≡ changes n → b ≡ cleared n b
  unfolding cleared
  cleared_no e = ap (λ (t : Bool). if t (λ _. replicate (length b) 0) (λ _. b)) e

-- zeros as bytes
pub bytes_zeros : (n : ℕ) → bytes_of (replicate n 0) ≡ replicate (4 * n) 0
unfolding bytes_of
bytes_zeros zero = refl
bytes_zeros (suc n) =
    let q : 4 * suc n ≡ suc (suc (suc (suc (4 * n)))) = omega arith in
    ap (λ (l : List ℕ). 0 ∷ 0 ∷ 0 ∷ 0 ∷ l) (bytes_zeros n) ∙ ap (λ (k : ℕ). replicate {A = ℕ} k 0) (sym q)
