-- The text of the rows of a store, one row after the other. Assumes nothing.
use mathlib.Core.Path.{◌≡◌, refl, sym, ap, subst, ◌∙◌}
use mathlib.Core.Logic.{◌≢◌}
use mathlib.Core.Bool.{Bool, false}
use mathlib.Core.List.{List, [], ◌∷◌, ◌++◌, append_assoc, append-nil}
use Prim.Native.Nat.{ℕ, zero, suc, ◌+◌, ◌-◌, ◌/◌, ◌%◌, ◌≤◌, ◌<◌}
use native.Mathlib.Nat.{add-zero}
use native.Mathlib.Omega.{arith}
use lib.Dec.{T}
use lib.ListN.{length, length-append}
use Rattle.common.specs.Triples.{Triple, In, here, there, if, all, erase}
use Rattle.dictionary_layout.specs.Terms.{Term}
use Rattle.dictionary_layout.specs.Layout.{Dict, decode}
use Rattle.dictionary_layout.specs.Dictionary.{term_of}
use Rattle.store_rows.specs.Rows.{width, row_at, rows}
use Rattle.store_rows.proofs.Listed.{listed_none, listed_more, in_listed→, in_listed←}
use Rattle.store_rows.proofs.Rows.{erase_whole, rows_whole}
use Rattle.ntriples.specs.Grammar.{terms}
use Rattle.ntriples.proofs.Tests.{if_ind}
use Rattle.ntriples_utf8.specs.Promises.{Wrote}
use Rattle.ntriples_tokens.proofs.Writing.{wrote_none, wrote_then}
use Rattle.ntriples_canonical.specs.Writing.{line_text, ended_line, text_of, as_terms}
use Rattle.ntriples_canonical.specs.Calls.{known}
use Rattle.driver_write.specs.Lines.{terms_of, row_triples, all_lines, LineFits, AllFit}

-- the triples of all rows
pub rows_all : (store : List ℕ) → length store % width ≡ 0 → rows (length store / width) store ≡ row_triples store
rows_all store h =
    let k = length store / width in
    sym (ap erase (rows_whole k store (omega arith)) ∙ erase_whole k store)

-- what holds of all elements holds of each, and back
all_both : (b c : Bool) → T (if b (λ _. c) (λ _. false)) → T b × T c
all_both b c = if_ind (λ r. T r → T b × T c) b (λ _. c) (λ _. false) (λ t u. (t, u)) (λ n u. absurd u)

all_at : {A : Type 0} (f : A → Bool) {x : A} {xs : List A} → In x xs → T (all f xs) → T (f x)
all_at f (here {y = y} {ys = ys} e) t = subst (λ z. T (f z)) (sym e) (all_both (f y) (all f ys) t).0
all_at f (there {y = y} {ys = ys} h) t = all_at f h (all_both (f y) (all f ys) t).1

all→ : {A : Type 0} (f : A → Bool) {xs : List A} → T (all f xs) → {x : A} → In x xs → T (f x)
all→ f t h = all_at f h t

all← : {A : Type 0} (f : A → Bool) (xs : List A) → ((x : A) → In x xs → T (f x)) → T (all f xs)
all← f [] h = tt
all← f (y ∷ ys) h =
    if_ind T (f y) (λ _. all f ys) (λ _. false) (λ _. all← f ys (λ x i. h x (there i))) (λ n. n (h y (here refl)))

-- KNOWN IDS: those of all rows are where those of each are
module _ (n : ℕ) (store : List ℕ) (h : length store % width ≡ 0) where
  pub row_ids : T (all (known n) (row_triples store)) → {j : ℕ} → j < length store / width → {x : Triple} → x ≡ row_at store j
      → T (known n x)
  row_ids t {j} l e =
      subst (λ y. T (known n y)) (sym e)
      (all→ (known n) (subst (λ xs. T (all (known n) xs)) (sym (rows_all store h)) t)
      (in_listed← (length store / width) (row_at store) j l))

  pub all_ids : ((j : ℕ) → j < length store / width → T (known n (row_at store j))) → T (all (known n) (row_triples store))
  all_ids f =
      subst (λ xs. T (all (known n) xs)) (rows_all store h)
      (all← (known n) (rows (length store / width) store) (λ x i. let (j, l, e) = in_listed→ (length store / width) (row_at store) i in
      subst (λ y. T (known n y)) (sym e) (f j l)))

-- THE TEXT of triples, then that of others
text_append : (ts : List Term) (xs ys : List Triple)
    → text_of (as_terms ts (xs ++ ys)) ≡ text_of (as_terms ts xs) ++ text_of (as_terms ts ys)
unfolding text_of as_terms
text_append ts [] ys = refl
text_append ts (x ∷ xs) ys =
    let l = ended_line (line_text (terms (term_of ts x.s) (term_of ts x.p) (term_of ts x.o))) in
    ap (λ m. l ++ m) (text_append ts xs ys) ∙ sym (append_assoc l (text_of (as_terms ts xs)) (text_of (as_terms ts ys)))

-- of the first j rows
module _ (d : Dict) (store : List ℕ) where
  abbrev pub upto : ℕ → List ℕ
  upto j = text_of (as_terms (decode d) (rows j store))

  -- and the line of row j
  abbrev pub line_at : ℕ → List ℕ
  line_at j = ended_line (line_text (terms_of d (row_at store j)))

  -- of none, of one more, and of all
  pub upto_none : upto 0 ≡ []
  unfolding text_of as_terms
  upto_none = ap (λ xs. text_of (as_terms (decode d) xs)) (listed_none (row_at store))

  pub upto_more : (j : ℕ) → upto (j + 1) ≡ upto j ++ line_at j
  unfolding text_of as_terms
  upto_more j =
      ap (λ xs. text_of (as_terms (decode d) xs)) (listed_more j (row_at store))
      ∙ (text_append (decode d) (rows j store) (row_at store j ∷ []) ∙ ap (λ l. upto j ++ l) (append-nil (line_at j)))

  pub upto_all : length store % width ≡ 0 → upto (length store / width) ≡ text_of (all_lines d store)
  upto_all h = ap (λ xs. text_of (as_terms (decode d) xs)) (rows_all store h)

  -- no longer than that of more rows
  upto_less : (k j : ℕ) → length (upto j) ≤ length (upto (j + k))
  upto_less zero j = subst (λ n. length (upto j) ≤ length (upto n)) (sym (add-zero j)) (omega arith)
  upto_less (suc k) j =
      let e : j + suc k ≡ j + k + 1 = omega arith in
      subst (λ n. length (upto j) ≤ length (upto n)) (sym e)
      (omega (arith, upto_less k j, ap length (upto_more (j + k)), length-append (upto (j + k)) (line_at (j + k))))

-- THE LOOP that writes the lines: those of the first j rows are written
pub record Lining (d : Dict) (store old page : List ℕ) (at j : ℕ) : Type 0 where
  pub wrote : Wrote old 0 (upto d store j) page at
  pub few : j ≤ length store / width

-- none
pub lining_start : (d : Dict) (store old : List ℕ) → Lining d store old old 0 0
lining_start d store old =
    record { wrote = subst (λ l. Wrote old 0 l old 0) (sym (upto_none d store)) (wrote_none old 0); few = omega arith }

-- the same page and place by other names
pub lining_as : {d : Dict} {store old page new : List ℕ} {at n j : ℕ} → page ≡ new → at ≡ n → Lining d store old new n j
    → Lining d store old page at j
lining_as {d} {store} {old} {page} {new} {at} {n} {j} p q l =
    subst (λ m. Lining d store old m at j) (sym p) (subst (λ k. Lining d store old new k j) (sym q) l)

module _ {d : Dict} {ls store old : List ℕ} (f : AllFit d ls store old) {page : List ℕ} {at j : ℕ} (l : Lining d store old page at j) where
  -- the next row
  module _ (h : j < length store / width) where
    -- and its triple
    module _ {x : Triple} (e : x ≡ row_at store j) where
      pub row_known : T (known d.terms x)
      row_known = row_ids d.terms store f.rows.whole f.rows.ids h e

      abbrev its_line : List ℕ
      its_line = ended_line (line_text (terms_of d x))

      next_more : upto d store (j + 1) ≡ upto d store j ++ its_line
      next_more = upto_more d store j ∙ ap (λ y. upto d store j ++ ended_line (line_text (terms_of d y))) (sym e)

      -- its line has room
      pub line_fits : length its_line ≢ 0 → LineFits d x at page
      line_fits n =
          let k = length store / width in
          let e : j + 1 + (k - (j + 1)) ≡ k = omega arith in
          let u = subst (λ n. length (upto d store (j + 1)) ≤ length (upto d store n)) e (upto_less d store (k - (j + 1)) (j + 1)) in
          let a = ap length (upto_all d store f.rows.whole) in
          let m = ap length next_more in
          record {
            unbroken = f.lengths.unbroken;
            ids = row_known;
            line = its_line;
            is = refl;
            some = omega arith;
            room = omega (arith, u, a, m, length-append (upto d store j) its_line, f.room, l.wrote.end, l.wrote.same);
          }

      -- written
      pub lining_line : {new : List ℕ} {n : ℕ} → Wrote page at its_line new n → Lining d store old new n (j + 1)
      lining_line {new} {n} w = record {
        wrote = subst (λ t. Wrote old 0 t new n) (sym next_more) (wrote_then l.wrote w);
        few = omega arith;
      }

      -- left out
      pub lining_none : length its_line ≡ 0 → Lining d store old page at (j + 1)
      lining_none z = lining_line (subst (λ t. Wrote page at t page at) (sym (empty its_line z)) (wrote_none page at))
        where
          empty : (xs : List ℕ) → length xs ≡ 0 → xs ≡ []
          empty [] z = refl
          empty (x ∷ xs) z = absurd (omega arith)

  -- all
  pub lining_end : length store / width ≤ j → Wrote old 0 (text_of (all_lines d store)) page at
  lining_end h =
      let s = l.few in
      let e : j ≡ length store / width = omega arith in
      subst (λ t. Wrote old 0 t page at) (ap (upto d store) e ∙ upto_all d store f.rows.whole) l.wrote
