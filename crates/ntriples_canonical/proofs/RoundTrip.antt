-- THE ROUND TRIP over the two calls, and when a started dictionary is large enough for it: specs/RoundTrip.antt. Assumes nothing.
use mathlib.Core.Path.{◌≡◌, refl, sym, ◌∙◌, ap, subst}
use mathlib.Core.Logic.{◌⊎◌, inl, inr}
use mathlib.Core.Bool.{Bool, true, false, ◌&&◌}
use mathlib.Core.Option.{Option, some, none}
use mathlib.Core.List.{List, [], ◌∷◌}
use Prim.Native.Nat.{ℕ, zero, suc, ◌+◌, ◌*◌, ◌/◌, ◌%◌, ◌≤◌}
use native.Mathlib.Omega.{arith}
use lib.Dec.{T, leb, ltb, eqb, leb→le, ltb→lt}
use lib.ListN.{length, take, length-append}
use lib.Seq.{length-take-le, take-append_seam, take_at}
use Rattle.common.specs.Sizes.{load_width, load_limit, store_width, store_limit}
use Rattle.common.specs.Triples.{Triple, In, if, all}
use Rattle.common.specs.Rows.{flat, triples, rows_of, filled}
use Rattle.common.proofs.Lists.{in_nil, in_cons, in_cases, and→}
use Rattle.common.proofs.Rows.{triples_flat, length_flat}
use Rattle.common.proofs.RowLists.{length_erase}
use Rattle.dictionary_layout.specs.Terms.{Term, start_terms}
use Rattle.dictionary_layout.specs.Layout.{Dict, size, layout, decode}
use Rattle.dictionary_layout.specs.Dictionary.{term_of, valid}
use Rattle.dictionary_layout.specs.Calls.{start_gives}
use Rattle.dictionary_layout.proofs.Decoding.{decode_layout, layout_table, layout_arena, size_append}
use Rattle.dictionary_layout.proofs.Holding.{Fits, holds_fits, valid_layout, valid→}
use Rattle.dictionary_layout.proofs.Distinct.{holds_well, at_in}
use Rattle.dictionary_layout.proofs.Reachable.{start_holds, start_leaves}
use Rattle.ntriples.specs.Grammar.{Terms, terms}
use Rattle.ntriples.specs.Reading.{read, in_order, read_file, shown, AbstractReadResult, ReadResult, read_gives}
use Rattle.ntriples.specs.Files.{accepted}
use Rattle.ntriples.proofs.Tests.{if_ind}
use Rattle.ntriples.proofs.Growing.{read_valid, read_whole}
use Rattle.ntriples_canonical.specs.Writing.{line_text, text_of, with_line, written, one_more, left_out, as_terms}
use Rattle.ntriples_canonical.specs.Calls.{WriteAnswer, write_answer, lengths_hold, first_triples, known, written_on, abstract_write}
use Rattle.ntriples_canonical.specs.Calls.{write_gives}
use Rattle.ntriples_canonical.specs.RoundTrip.{with_terms, all_terms, Large, ReadsBack, terms_read, written_file, written_triples}
use Rattle.ntriples_canonical.specs.RoundTrip.{RoundTrip}
use Rattle.ntriples_canonical.proofs.Puts.{with_grown, fresh_within}
use Rattle.ntriples_canonical.proofs.Files.{file_back}

-- WHAT AN ACCEPTED WRITE SAYS
module _ (d : Dict) (store : List ℕ) (n : ℕ) (page : List ℕ) where
  abbrev stored : List Terms
  stored = as_terms (decode d) (first_triples store n)

  record Wrote (a : WriteAnswer) : Type 0 where
    unbroken : T (valid d)
    whole : T (lengths_hold (length store) n)
    ids : T (all (known (length (decode d))) (first_triples store n))
    is : a ≡ write_answer 0 (length (text_of stored)) (left_out stored) (filled page (text_of stored))

  wrote : (write_gives d store n page).number ≡ 0 → Wrote (write_gives d store n page)
  unfolding write_gives abstract_write written_on
  wrote =
      if_ind (λ (a : WriteAnswer). a.number ≡ 0 → Wrote a) (valid d) _ _ (λ v.
      if_ind (λ (a : WriteAnswer). a.number ≡ 0 → Wrote a) (lengths_hold (length store) n) _ _ (λ w.
      if_ind (λ (a : WriteAnswer). a.number ≡ 0 → Wrote a) (all (known (length (decode d))) (first_triples store n)) _ _ (λ k.
      if_ind (λ (a : WriteAnswer). a.number ≡ 0 → Wrote a) (leb (length (text_of stored)) (length page)) _ _
      (λ _ e. record { unbroken = v; whole = w; ids = k; is = refl }) (λ _ e. absurd (omega arith))) (λ _ e. absurd (omega arith)))
      (λ _ e. absurd (omega arith))) (λ _ e. absurd (omega arith))

-- THE COUNTS: every triple is written or left out
counted_all : (v : List Terms) → length v ≡ left_out v + length (written v)
unfolding left_out written
counted_all [] = omega arith
counted_all (t ∷ v) = go (line_text t) (counted_all v)
  where
    go : (o : Option (List ℕ)) → length v ≡ left_out v + length (written v)
        → suc (length v) ≡ one_more o (left_out v) + length (with_line o t (written v))
    go none e = omega arith
    go (some l) e = omega arith

as_length : (ts : List Term) (xs : List Triple) → length (as_terms ts xs) ≡ length xs
unfolding as_terms
as_length ts [] = refl
as_length ts (x ∷ xs) = ap suc (as_length ts xs)

rows_length : (k : ℕ) (l : List ℕ) → length l ≡ store_width * k → length (rows_of l) ≡ k
rows_length zero [] e = refl
rows_length zero (a ∷ l) e = absurd (omega arith)
rows_length (suc k) [] e = absurd (omega arith)
rows_length (suc k) (a ∷ []) e = absurd (omega arith)
rows_length (suc k) (a ∷ b ∷ []) e = absurd (omega arith)
rows_length (suc k) (a ∷ b ∷ c ∷ []) e = absurd (omega arith)
rows_length (suc k) (a ∷ b ∷ c ∷ x ∷ []) e = absurd (omega arith)
rows_length (suc k) (a ∷ b ∷ c ∷ x ∷ y ∷ l) e = ap suc (rows_length k l (omega arith))

-- a store of whole rows has as many triples as are counted
first_length : (store : List ℕ) (n : ℕ) → T (lengths_hold (length store) n) → length (first_triples store n) ≡ n
first_length store n h =
    let len = length store in
    let (_, r) = and→ (eqb (len % store_width) 0) (leb len (store_width * store_limit) && leb n (len / store_width)) h in
    let (_, b) = and→ (leb len (store_width * store_limit)) (leb n (len / store_width)) r in
    let m = leb→le n (len / store_width) b in
    length_erase (rows_of (take (store_width * n) store))
    ∙ rows_length n (take (store_width * n) store) (length-take-le (store_width * n) store (omega arith))

-- THE TERMS OF THE TRIPLES WRITTEN are terms of the dictionary
all_both : {A : Type 0} (f : A → Bool) (x : A) (xs : List A) → T (all f (x ∷ xs)) → T (f x) × T (all f xs)
all_both f x xs h = go (f x) h
  where
    go : (b : Bool) → T (if b (λ _. all f xs) (λ _. false)) → T b × T (all f xs)
    go true h = (tt, h)
    go false h = absurd h

module _ (ts : List Term) where
  three_in : (t : Terms) → In t.s ts → In t.p ts → In t.o ts → (x : Term) → In x (in_order t) → In x ts
  three_in t a b c x i = first (in_cons i)
    where
      is : {u : Term} → In u ts → x ≡ u → In x ts
      is j e = subst (λ (y : Term). In y ts) (sym e) j

      third : (x ≡ t.o) ⊎ In x [] → In x ts
      third (inl e) = is c e
      third (inr j) = absurd (in_nil j)

      second : (x ≡ t.p) ⊎ In x (t.o ∷ []) → In x ts
      second (inl e) = is b e
      second (inr j) = third (in_cons j)

      first : (x ≡ t.s) ⊎ In x (t.p ∷ t.o ∷ []) → In x ts
      first (inl e) = is a e
      first (inr j) = second (in_cons j)

  -- known ids name terms
  known_in : (y : Triple) → T (known (length ts) y) → (x : Term)
      → In x (in_order (terms (term_of ts y.s) (term_of ts y.p) (term_of ts y.o))) → In x ts
  known_in y k =
      let n = length ts in
      let (a, r) = and→ (ltb y.s n) (ltb y.p n && ltb y.o n) k in
      let (b, c) = and→ (ltb y.p n) (ltb y.o n) r in
      three_in (terms (term_of ts y.s) (term_of ts y.p) (term_of ts y.o)) (at_in ts y.s (ltb→lt y.s n a))
      (at_in ts y.p (ltb→lt y.p n b)) (at_in ts y.o (ltb→lt y.o n c))

  written_in : (xs : List Triple) → T (all (known (length ts)) xs) → (x : Term) → In x (all_terms (written (as_terms ts xs))) → In x ts
  unfolding all_terms written as_terms
  written_in [] k x i = absurd (in_nil i)
  written_in (y ∷ xs) k x i =
      let t = terms (term_of ts y.s) (term_of ts y.p) (term_of ts y.o) in
      let (a, b) = all_both (known (length ts)) y xs k in
      go t (line_text t) (known_in y a x) (written_in xs b x) i
    where
      go : (t : Terms) (o : Option (List ℕ)) → (In x (in_order t) → In x ts) → (In x (all_terms (written (as_terms ts xs))) → In x ts)
          → In x (all_terms (with_line o t (written (as_terms ts xs)))) → In x ts
      go t none f g i = g i
      go t (some l) f g i = pick (in_cases (in_order t) i)
        where
          pick : In x (in_order t) ⊎ In x (all_terms (written (as_terms ts xs))) → In x ts
          pick (inl j) = f j
          pick (inr j) = g j

-- THE READ: where the file gives the triples ys, and they are w
module _ (e : Dict) (load file : List ℕ) (w : List Terms) (us : List Term) (ys : List Triple) where
  read_call : T (valid e) → length load % load_width ≡ 0
      → read_file (length e.table) (length e.arena) (length load / load_width) (decode e) file ≡ read us ys → as_terms us ys ≡ w
      → ReadsBack (read_gives e load file) w
  read_call v m r s =
      let tl = length e.table in
      let al = length e.arena in
      let q : read_gives e load file ≡ accepted load (length ys) (flat ys) (layout tl al us) =
      read_valid e load file v
      ∙ ap (λ (x : AbstractReadResult). record { answer = x.answer; contents = layout tl al x.held })
      (read_whole tl al (decode e) load file m ∙ ap (shown (decode e) load) r) in
      let rows : triples (take (load_width * length ys) (filled load (flat ys))) ≡ ys =
      ap triples (take_at (flat ys) _ (load_width * length ys) (length_flat ys)) ∙ triples_flat [] ys in
      record {
        accepted = ap (λ (x : ReadResult). x.answer.number) q;
        count = ap (λ (x : ReadResult). x.answer.count) q ∙ (sym (as_length us ys) ∙ ap (λ (l : List Terms). length l) s);
        same = ap terms_read q ∙ ((λ i. as_terms (decode_layout tl al us i) (rows i)) ∙ s);
      }

-- THE ROUND TRIP
pub round_trip : (d : Dict) (store : List ℕ) (n : ℕ) (page : List ℕ) → (write_gives d store n page).number ≡ 0 → RoundTrip d store n page
round_trip d store n page z =
    let a = wrote d store n page z in
    let v = as_terms (decode d) (first_triples store n) in
    let len = as_length (decode d) (first_triples store n) ∙ first_length store n a.whole in
    let left = ap (λ (x : WriteAnswer). x.left) a.is in
    let file : written_file (write_gives d store n page) ≡ text_of v = ap written_file a.is ∙ take-append_seam (text_of v) _ in
    let holds = (valid→ d a.unbroken).0 in
    record {
      counted = omega (arith, counted_all v);
      back = λ e load l.
          let (ys, r, s) = file_back (length e.table) (length e.arena) (length load / load_width) v (decode e) (record {
            well = λ x i. holds_well (length d.table) (length d.arena) (decode d) holds x
                (written_in (decode d) (first_triples store n) a.ids x i);
            fit = (l.entries, l.bytes);
            few = omega (arith, l.few);
            rows = omega (arith, l.rows);
          }) in
          subst (λ (f : List ℕ). ReadsBack (read_gives e load f) (written v)) (sym file)
          (read_call e load (text_of v) (written v) _ ys l.started l.whole r s);
    }

-- AS LARGE AS BEFORE: what was written from a dictionary fits into a started one whose table and arena are no shorter, because each of its
-- terms stands in the first dictionary once, as the start's do
module _ (d : Dict) (store : List ℕ) (n : ℕ) (v : T (valid d)) (k : T (all (known (length (decode d))) (first_triples store n))) where
  abbrev w : List Terms
  w = written_triples d store n

  fits_started : (tl al : ℕ) → length d.table ≤ tl → length d.arena ≤ al → Fits tl al (with_terms start_terms (all_terms w))
  fits_started tl al a b =
      let h = (valid→ d v).0 in
      let g = with_grown start_terms (all_terms w) in
      let (c, z) = fresh_within start_terms g.new h.more g.fresh
      (λ x i. subst (In x) h.whole (written_in (decode d) (first_triples store n) k x (g.among x i))) in
      let (p, q) = holds_fits (length d.table) (length d.arena) (decode d) h in
      subst (Fits tl al) (sym g.whole) (
        omega (
          arith,
          length-append start_terms g.new,
          ap (λ (l : List Term). length l) h.whole ∙ length-append start_terms h.more,
        ),
        omega (
          arith,
          size_append start_terms g.new,
          ap (λ (l : List Term). size l) h.whole ∙ size_append start_terms h.more,
        ),
      )

  pub large_as_before : (table arena : List ℕ) → (start_gives table arena).number ≡ 0
      → length d.table ≤ length table → length d.arena ≤ length arena → (load : List ℕ) → length load % load_width ≡ 0
      → length w ≤ load_limit → length w ≤ length load / load_width → Large (start_gives table arena).contents load w
  large_as_before table arena z a b load m few rows =
      let tl = length table in
      let al = length arena in
      let h = start_holds table arena z in
      let (p, q) = holds_fits tl al start_terms h in
      let e = layout tl al start_terms in
      let t = layout_table tl al start_terms p in
      let r = layout_arena tl al start_terms q in
      let (x, y) = subst (λ (us : List Term). Fits (length e.table) (length e.arena) (with_terms us (all_terms w)))
      (sym (decode_layout tl al start_terms)) (fits_started (length e.table) (length e.arena) (omega arith) (omega arith)) in
      subst (λ (c : Dict). Large c load w) (sym (start_leaves table arena z)) (record {
        started = valid_layout tl al start_terms h;
        whole = m;
        few = few;
        rows = rows;
        entries = x;
        bytes = y;
      })
