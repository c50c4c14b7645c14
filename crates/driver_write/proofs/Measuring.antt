-- Lines and how long they are: of a triple by the lengths of its terms' texts, and of the rows of a store one after the other. Assumes
-- nothing.
use mathlib.Core.Path.{◌≡◌, refl, sym, ◌∙◌, ap}
use mathlib.Core.Logic.{◌≢◌}
use mathlib.Core.Bool.{not}
use mathlib.Core.Option.{Option, some, none}
use mathlib.Core.List.{List, [], ◌∷◌, ◌++◌}
use Prim.Native.Nat.{ℕ, ◌+◌, ◌*◌, ◌/◌, ◌%◌, ◌≤◌, ◌<◌}
use native.Mathlib.Omega.{arith}
use native.Mathlib.Decide.{dec_lt}
use lib.Dec.{T, eqb, eqb→eq}
use lib.ListN.{length, get_or, length-append}
use Rattle.common.specs.Triples.{Triple}
use Rattle.common.proofs.Lists.{and→, and←, eq→eqb, ne→neqb, neqb→ne}
use Rattle.store_rows.specs.Rows.{width, row_at, listed, rows}
use Rattle.store_rows.proofs.Listed.{listed_more}
use Rattle.dictionary_layout.specs.Terms.{Term}
use Rattle.dictionary_layout.specs.Layout.{Dict, decode}
use Rattle.dictionary_layout.specs.Dictionary.{term_of, valid}
use Rattle.dictionary_entries.proofs.Reading.{count}
use Rattle.ntriples.specs.Utf8.{on}
use Rattle.ntriples.specs.Grammar.{Terms, terms}
use Rattle.ntriples.proofs.Tests.{when←}
use Rattle.ntriples_canonical.specs.Writing.{term_text, may_stand, spaced, line_text, ended_line, text_of, one_more, left_out, as_terms}
use Rattle.ntriples_canonical.specs.Calls.{known}
use Rattle.ntriples_canonical.proofs.Bytes.{text_some}
use Rattle.ntriples_text.specs.Promises.{or_nothing, text_length}
use Rattle.std.specs.Prelude.{Option as Maybe, Some, None, is_some, true, false}
use Rattle.driver_write.specs.Lines.{terms_of, all_lines, line_length, Lengths}
use Rattle.driver_write.proofs.Entries.{text_limit, length_short}
use Rattle.driver_write.proofs.Texts.{rows_all, upto, upto_none, upto_more, upto_all}
use Rattle.driver_write.proofs.Writing.{LineParts, line_parts, known→}

-- A TERM'S TEXT is there where its length is not 0
pub text_there : (x : Term) {l : List ℕ} {n : ℕ} → term_text x ≡ some l → n ≡ text_length x → n ≢ 0
text_there x {l} e q z = omega (arith, q, z, text_some x l e, ap (λ (o : Option (List ℕ)). length (or_nothing o)) e)

has_text : (x : Term) → text_length x ≢ 0 → (l : List ℕ) × (term_text x ≡ some l)
has_text x n = go (term_text x) refl
  where
    go : (o : Option (List ℕ)) → term_text x ≡ o → (l : List ℕ) × (term_text x ≡ some l)
    go none e = absurd (n (ap (λ (o : Option (List ℕ)). length (or_nothing o)) e))
    go (some l) e = (l, e)

-- A LINE stands with no literal subject and a named predicate,
may→ : (t : Terms) → T (may_stand t) → (t.s.kind ≢ 3) × (t.p.kind ≡ 1)
may→ t m =
    let (a, b) = and→ (not (eqb t.s.kind 3)) (eqb t.p.kind 1) m in
    (neqb→ne t.s.kind 3 a, eqb→eq t.p.kind 1 b)

may← : (t : Terms) → t.s.kind ≢ 3 → t.p.kind ≡ 1 → T (may_stand t)
may← t a b = and← (not (eqb t.s.kind 3)) (eqb t.p.kind 1) (ne→neqb t.s.kind 3 a) (eq→eqb t.p.kind 1 b)

-- where its three texts are there
line_made : (t : Terms) {s p o : List ℕ} → T (may_stand t) → term_text t.s ≡ some s → term_text t.p ≡ some p
    → term_text t.o ≡ some o → line_text t ≡ some (spaced s p o)
unfolding line_text
line_made t m a b c =
    when← (may_stand t)
    (λ _. on (term_text t.s) (λ s. on (term_text t.p) (λ p. on (term_text t.o) (λ o. some (spaced s p o))))) m
    ∙ (λ i. on (a i) (λ s. on (b i) (λ p. on (c i) (λ o. some (spaced s p o)))))

-- ITS LENGTH, with its end
pub no_line : (t : Terms) → (LineParts t → ⊥) → None ≡ line_length (line_text t)
no_line t f = go (line_text t) refl
  where
    go : (o : Option (List ℕ)) → line_text t ≡ o → None ≡ line_length o
    go none e = refl
    go (some l) e =
        absurd (f (line_parts t (omega (arith, ap (λ (x : Option (List ℕ)). length (ended_line x)) e, length-append l (10 ∷ [])))))

pub literal_subject : (t : Terms) {k : ℕ} → k ≡ t.s.kind → k ≡ 3 → None ≡ line_length (line_text t)
literal_subject t e q = no_line t (λ w. (may→ t w.may).0 (sym e ∙ q))

pub other_predicate : (t : Terms) {k : ℕ} → k ≡ t.p.kind → k ≢ 1 → None ≡ line_length (line_text t)
other_predicate t e n = no_line t (λ w. n (e ∙ (may→ t w.may).1))

parts_length : (t : Terms) → LineParts t
    → length (ended_line (line_text t)) ≡ text_length t.s + text_length t.p + text_length t.o + 5
parts_length t k =
    let s = k.s in
    let p = k.p in
    let o = k.o in
    omega (
      arith,
      ap (λ (l : List ℕ). length l) k.line_is,
      length-append s (32 ∷ (p ++ (32 ∷ (o ++ (32 ∷ 46 ∷ 10 ∷ []))))),
      length-append p (32 ∷ (o ++ (32 ∷ 46 ∷ 10 ∷ []))),
      length-append o (32 ∷ 46 ∷ 10 ∷ []),
      ap (λ (x : Option (List ℕ)). length (or_nothing x)) k.s_is,
      ap (λ (x : Option (List ℕ)). length (or_nothing x)) k.p_is,
      ap (λ (x : Option (List ℕ)). length (or_nothing x)) k.o_is,
    )

module _ (t : Terms) {a b c k m : ℕ} (ea : a ≡ text_length t.s) (eb : b ≡ text_length t.p) (ec : c ≡ text_length t.o)
    (ek : k ≡ t.s.kind) (em : m ≡ t.p.kind) where
  pub has_line : a ≢ 0 → b ≢ 0 → c ≢ 0 → k ≢ 3 → m ≡ 1 → Some (a + b + c + 5) ≡ line_length (line_text t)
  has_line na nb nc nk q =
      let (s, e) = has_text t.s (λ z. na (ea ∙ z)) in
      let (p, f) = has_text t.p (λ z. nb (eb ∙ z)) in
      let (o, g) = has_text t.o (λ z. nc (ec ∙ z)) in
      let made = line_made t (may← t (λ z. nk (ek ∙ z)) (sym em ∙ q)) e f g in
      let r = ap (λ (x : Option (List ℕ)). length (ended_line x)) made in
      let l = parts_length t (line_parts t (omega (arith, r, length-append (spaced s p o) (10 ∷ [])))) in
      let sum : a + b + c + 5 ≡ length (ended_line (some (spaced s p o))) = (λ i. ea i + eb i + ec i + 5) ∙ (sym l ∙ r) in
      ap (λ (n : ℕ). Some n) sum ∙ ap line_length (sym made)

-- a line that is there
pub line_known : (t : Terms) {n : ℕ} → Some n ≡ line_length (line_text t) → (l : List ℕ) × (line_text t ≡ some l) × (n ≡ length l + 1)
line_known t {n} e = go (line_text t) refl e
  where
    go : (o : Option (List ℕ)) → line_text t ≡ o → Some n ≡ line_length o → (l : List ℕ) × (line_text t ≡ some l) × (n ≡ length l + 1)
    go none q e = cc
    go (some l) q e = let m : n ≡ length (l ++ (10 ∷ [])) = cc in (l, q, omega (arith, m, length-append l (10 ∷ [])))

-- and one that is not
pub line_missing : (t : Terms) → None ≡ line_length (line_text t) → line_text t ≡ none
line_missing t e = go (line_text t) e
  where
    go : (o : Option (List ℕ)) → None ≡ line_length o → o ≡ none
    go none e = refl
    go (some l) e = cc

-- the test whether it is there
pub some_bytes : (t : Terms) {r : Maybe ℕ} → r ≡ line_length (line_text t) → true ≡ is_some r → length (ended_line (line_text t)) ≢ 0
some_bytes t {r} e q = go (line_text t) e
  where
    go : (o : Option (List ℕ)) → r ≡ line_length o → length (ended_line o) ≢ 0
    go none e = cc
    go (some l) e = λ z. omega (arith, z, length-append l (10 ∷ []))

pub no_bytes : (t : Terms) {r : Maybe ℕ} → r ≡ line_length (line_text t) → false ≡ is_some r → length (ended_line (line_text t)) ≡ 0
no_bytes t {r} e q = go (line_text t) e
  where
    go : (o : Option (List ℕ)) → r ≡ line_length o → length (ended_line o) ≡ 0
    go none e = refl
    go (some l) e = cc

-- the most bytes of a line with its end
abbrev pub line_limit : ℕ
line_limit = 3 * text_limit + 5

pub line_short : (d : Dict) → T (valid d) → (x : Triple) → T (known d.terms x)
    → length (ended_line (line_text (terms_of d x))) ≤ line_limit
line_short d v x h = go (dec_lt 0 (length (ended_line (line_text (terms_of d x)))))
  where
    go : Dec (0 < length (ended_line (line_text (terms_of d x)))) → length (ended_line (line_text (terms_of d x))) ≤ line_limit
    go (no n) = omega arith
    go (yes l) =
        let t = terms_of d x in
        let (a, b, c) = known→ {n = d.terms} {x = x} h in
        omega (
          arith,
          parts_length t (line_parts t l),
          length_short d v x.s a,
          length_short d v x.p b,
          length_short d v x.o c,
        )

-- the length that is noted for an id
module _ {d : Dict} {lengths : List ℕ} (q : Lengths d lengths) (i : ℕ) (h : i < d.terms) where
  pub noted : get_or lengths i 0 ≡ text_length (term_of (decode d) i)
  noted = q.measured.each i h

  pub noted_within : i < length lengths
  noted_within = omega (arith, q.measured.room, count d q.unbroken)

-- THE TRIPLES LEFT OUT, then those of others
left_append : (ts : List Term) (xs ys : List Triple)
    → left_out (as_terms ts (xs ++ ys)) ≡ left_out (as_terms ts xs) + left_out (as_terms ts ys)
unfolding left_out as_terms
left_append ts [] ys = omega arith
left_append ts (x ∷ xs) ys =
    go (line_text (terms (term_of ts x.s) (term_of ts x.p) (term_of ts x.o))) (left_out (as_terms ts xs))
    (left_out (as_terms ts ys)) (left_append ts xs ys)
  where
    go : {a : ℕ} (o : Option (List ℕ)) (b c : ℕ) → a ≡ b + c → one_more o a ≡ one_more o b + c
    go none b c e = omega arith
    go (some l) b c e = e

-- THE LOOP over n rows, of which the first j are measured
pub record Measures (d : Dict) (store : List ℕ) (n used left j : ℕ) : Type 0 where
  pub within : j ≤ n
  pub long : used ≡ length (upto d store j)
  pub missing : left ≡ left_out (as_terms (decode d) (rows j store))
  pub short : used ≤ line_limit * j
  pub few : left ≤ j

pub measures_none : (d : Dict) (store : List ℕ) (n : ℕ) → Measures d store n 0 0 0
unfolding listed as_terms left_out
measures_none d store n = record {
  within = omega arith;
  long = sym (ap (λ (l : List ℕ). length l) (upto_none d store));
  missing = refl;
  short = omega arith;
  few = omega arith;
}

-- one row more,
module _ {d : Dict} {store : List ℕ} {n used left j : ℕ} (m : Measures d store n used left j) (h : j < n)
    {x : Triple} (e : x ≡ row_at store j) where
  more_text : length (upto d store (j + 1)) ≡ used + length (ended_line (line_text (terms_of d x)))
  more_text =
      omega (
        arith,
        m.long,
        ap (λ (y : Triple). length (ended_line (line_text (terms_of d y)))) e,
        ap (λ (l : List ℕ). length l) (upto_more d store j),
        length-append (upto d store j) (ended_line (line_text (terms_of d (row_at store j)))),
      )

  more_left : left_out (as_terms (decode d) (rows (j + 1) store)) ≡ left + one_more (line_text (terms_of d x)) 0
  unfolding left_out as_terms
  more_left =
      ap (λ (l : List Triple). left_out (as_terms (decode d) l)) (listed_more j (row_at store))
      ∙ (left_append (decode d) (rows j store) (row_at store j ∷ [])
      ∙ λ i. sym m.missing i + one_more (line_text (terms_of d (sym e i))) 0)

  -- whose line has k bytes
  module _ {k : ℕ} (f : Some k ≡ line_length (line_text (terms_of d x))) where
    -- no more than a line may have
    pub its_length : k ≡ length (ended_line (line_text (terms_of d x)))
    its_length =
        let (l, q, r) = line_known (terms_of d x) f in
        omega (arith, r, ap (λ (o : Option (List ℕ)). length (ended_line o)) q, length-append l (10 ∷ []))

    pub measures_more : k ≤ line_limit → Measures d store n (used + k) left (j + 1)
    measures_more b =
        let (l, q, r) = line_known (terms_of d x) f in
        record {
          within = omega arith;
          long = omega (arith, its_length, more_text);
          missing = omega (arith, more_left, ap (λ o. one_more o 0) q);
          short = omega (arith, m.short, b);
          few = omega (arith, m.few);
        }

  -- that is left out
  pub measures_left : None ≡ line_length (line_text (terms_of d x)) → Measures d store n used (left + 1) (j + 1)
  measures_left f =
      let q = line_missing (terms_of d x) f in
      record {
        within = omega arith;
        long = omega (arith, ap (λ (o : Option (List ℕ)). length (ended_line o)) q, more_text);
        missing = omega (arith, more_left, ap (λ o. one_more o 0) q);
        short = omega (arith, m.short);
        few = omega (arith, m.few);
      }

-- all rows
pub measures_all : {d : Dict} {store : List ℕ} {used left j : ℕ} → Measures d store (length store / width) used left j
    → length store / width ≤ j → length store % width ≡ 0
    → (used ≡ length (text_of (all_lines d store))) × (left ≡ left_out (all_lines d store))
measures_all {d} {store} {used} {left} {j} m h w =
    let q : j ≡ length store / width = omega (arith, m.within) in (
      m.long ∙ ap (λ (l : List ℕ). length l) (ap (upto d store) q ∙ upto_all d store w),
      m.missing ∙ ap (λ (l : List Triple). left_out (as_terms (decode d) l)) (ap (λ (i : ℕ). rows i store) q ∙ rows_all store w),
    )
