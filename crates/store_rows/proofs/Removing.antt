-- Rows with a zero id taken out: what the loop keeps. Assumes nothing.
use Rattle.std.proofs.Common.{◌≡◌, ℕ, ◌+◌, ◌*◌, ◌<◌, ◌≤◌, Bool, true, false, List, [], ◌∷◌, ◌++◌, length, get_or, sym, refl, ap}
use Rattle.std.proofs.Common.{◌∙◌, subst, inr, append_assoc, append-nil, arith}
use Rattle.common.specs.Triples.{Row, if, concat_map, no_zero, without_zero_rows}
use Rattle.store_rows.specs.Rows.{width, row_at, whole_row_at, set_row, whole_rows}
use Rattle.store_rows.proofs.Listed.{listed_none, listed_more}
use Rattle.store_rows.proofs.Rows.{whole_ext, put_other, length_put, rows_put}

-- one element more to go through
pub concat_snoc : {A B : Type 0} (xs : List A) (x : A) (f : A → List B) → concat_map (xs ++ (x ∷ [])) f ≡ concat_map xs f ++ f x
concat_snoc [] x f = append-nil (f x)
concat_snoc (y ∷ xs) x f = ap (λ r. f y ++ r) (concat_snoc xs x f) ∙ sym (append_assoc (f y) (concat_map xs f) (f x))

without_one : Bool → Row → List Row
without_one b r = if b (λ _. r ∷ []) (λ _. [])

without_snoc : (rs : List Row) (r : Row) → without_zero_rows (rs ++ (r ∷ [])) ≡ without_zero_rows rs ++ without_one (no_zero r.it) r
unfolding without_zero_rows without_one
without_snoc rs r = concat_snoc rs r (λ r. if (no_zero r.it) (λ _. r ∷ []) (λ _. []))

without_more : (i : ℕ) (l : List ℕ) → without_zero_rows (whole_rows (i + 1) l)
    ≡ without_zero_rows (whole_rows i l) ++ without_one (no_zero (row_at l i)) (whole_row_at l i)
without_more i l = ap without_zero_rows (listed_more i (whole_row_at l)) ∙ without_snoc (whole_rows i l) (whole_row_at l i)

-- the first i of n rows are gone through, and k of them kept
pub record Removing (l₀ : List ℕ) (n i k : ℕ) (l : List ℕ) : Type 0 where
  pub few : k ≤ i
  pub bound : i ≤ n
  pub same_length : length l ≡ length l₀
  pub kept : whole_rows k l ≡ without_zero_rows (whole_rows i l₀)
  pub beyond : (x : ℕ) → width * i ≤ x → get_or l x 0 ≡ get_or l₀ x 0

-- at first none
pub removing_start : (l : List ℕ) (n : ℕ) → Removing l n 0 0 l
unfolding without_zero_rows
removing_start l n = record {
  few = omega arith;
  bound = omega arith;
  same_length = refl;
  kept = listed_none (whole_row_at l) ∙ sym (ap without_zero_rows (listed_none (whole_row_at l)));
  beyond = λ x p. refl;
}

module _ {l₀ : List ℕ} {n i k : ℕ} {l : List ℕ} (v : Removing l₀ n i k l) (h : i < n) (r : Row) (e : r ≡ whole_row_at l i) where
  here : r ≡ whole_row_at l₀ i
  here = e ∙ whole_ext l l₀ i (λ x p q. v.beyond x p)

  one : (b : Bool) → no_zero r.it ≡ b
      → without_zero_rows (whole_rows (i + 1) l₀) ≡ without_zero_rows (whole_rows i l₀) ++ without_one b r
  one b z =
      without_more i l₀ ∙ ap (λ u. without_zero_rows (whole_rows i l₀) ++ without_one (no_zero u.it) u) (sym here)
      ∙ ap (λ x. without_zero_rows (whole_rows i l₀) ++ without_one x r) z

  -- a row with a zero id is passed over
  pub removing_skip : no_zero r.it ≡ false → Removing l₀ n (i + 1) k l
  unfolding without_one
  removing_skip z = record {
    few = omega (arith, v.few);
    bound = omega arith;
    same_length = v.same_length;
    kept = v.kept ∙ sym (one false z ∙ append-nil (without_zero_rows (whole_rows i l₀)));
    beyond = λ x p. v.beyond x (omega arith);
  }

  -- another one goes behind those that are kept
  pub removing_keep : {m : List ℕ} → width * n ≤ length l₀ → no_zero r.it ≡ true → m ≡ set_row l k r → Removing l₀ n (i + 1) (k + 1) m
  unfolding without_one
  removing_keep {m} q z w = subst (Removing l₀ n (i + 1) (k + 1)) (sym w) (record {
    few = omega (arith, v.few);
    bound = omega arith;
    same_length = length_put l k r ∙ v.same_length;
    kept = rows_put l k r (omega (arith, v.few, v.same_length)) ∙ ap (λ q. q ++ (r ∷ [])) v.kept ∙ sym (one true z);
    beyond = λ x p. put_other l k r x (inr (omega (arith, v.few))) ∙ v.beyond x (omega arith);
  })
