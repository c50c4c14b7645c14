-- Terms taken back from a dictionary: the contents of one term less, as stores into the contents, and of any number less. Assumes nothing.
use mathlib.Core.Path.{◌≡◌, refl, sym, ◌∙◌, ap, ap₂, subst}
use mathlib.Core.List.{List, [], ◌∷◌, ◌++◌, append_assoc}
use Prim.Native.Nat.{ℕ, zero, suc, ◌+◌, ◌-◌, ◌≤◌, ◌<◌}
use native.Mathlib.Omega.{arith}
use lib.Dec.{T}
use lib.ListN.{length, take, drop, set, length-append, length-set, length-take, replicate-append-replicate}
use lib.Seq.{sets, sets-eq, take_at, drop_at, drop-append-add, take-append-add, set-append_left, set-set, set-get_or, take-suc, take_all}
use lib.Seq.{take-take, get_or-take}
use Rattle.common.specs.Sizes.{heads_width, term_limit}
use Rattle.dictionary_layout.specs.declared.values.Counters.{Counters}
use Rattle.dictionary_layout.specs.declared.values.Digest.{Digest}
use Rattle.dictionary_layout.specs.Terms.{Term, no_term, start_terms, start_count}
use Rattle.dictionary_layout.specs.Layout.{Dict, dict, chain, all_bytes, size, all_heads, all_entries, span, layout, decode, entry_at}
use Rattle.dictionary_layout.specs.Dictionary.{term_of, grows, valid}
use Rattle.dictionary_layout.specs.Digest.{digest_of}
use Rattle.dictionary_layout.specs.Values.{contents}
use Rattle.dictionary_entries.specs.Entries.{start_of, length_of, next_of, EntryFits}
use Rattle.dictionary_puts.specs.Indexed.{retracted}
use Rattle.dictionary_layout.proofs.Chains.{prev, span_head, all_heads_prev, prev_same}
use Rattle.dictionary_layout.proofs.Decoding.{length_span, length_all_entries, length_all_bytes, length_snoc, size_append, decode_layout}
use Rattle.dictionary_layout.proofs.Decoding.{layout_table, layout_arena}
use Rattle.dictionary_layout.proofs.Holding.{step, unstep, Holds, holds_fits, valid_layout, valid→}
use Rattle.dictionary_layout.proofs.Rows.{zero_row}
use Rattle.dictionary_layout.proofs.Vocabulary.{start_sizes}
use Rattle.dictionary_entries.proofs.Appending.{four, head_set, entries_end, heads_end, bytes_snoc}
use Rattle.dictionary_entries.proofs.Reading.{EntryIs, held, count, bytes_used, lengths, entry, entry_names, entry_fits, size_upto}
use Rattle.dictionary_hash.proofs.Hashing.{read_term, read_is, read_short}
use Rattle.dictionary_puts.proofs.Indexing.{entry_short}

-- numbers stored over others behind p
sets_at : (p vs ws z : List ℕ) (k : ℕ) → length p ≡ k → length vs ≡ length ws → sets (p ++ (vs ++ z)) k ws ≡ p ++ (ws ++ z)
sets_at p vs ws z k e f =
    sets-eq ws (p ++ (vs ++ z)) k (omega (arith, length-append p (vs ++ z), length-append vs z))
    ∙ (ap₂ (λ (x y : List ℕ). x ++ ws ++ y) (take_at p (vs ++ z) k e)
    (ap (λ (j : ℕ). drop (j + length ws) (p ++ (vs ++ z))) (sym e)
    ∙ (drop-append-add p (vs ++ z) (length ws) ∙ drop_at vs z (length ws) f))
    ∙ append_assoc p ws z)

-- a row with zeros in the place of the k numbers from a on
abbrev cleared_at : ℕ → ℕ → List ℕ → List ℕ
cleared_at a k l = take a l ++ (zero_row (length (take k (drop a l))) ++ drop k (drop a l))

-- the numbers that the code cuts out, as many as k from a on, and the row with others in their place
abbrev part : ℕ → ℕ → List ℕ → List ℕ
part a k l = take (a + k - a) (drop a l)

abbrev put_part : ℕ → ℕ → List ℕ → List ℕ → List ℕ
put_part a k l ys = take a l ++ (ys ++ drop (a + k - a) (drop a l))

cleared_is : (p b z : List ℕ) (a k : ℕ) → length p ≡ a → length b ≡ k → cleared_at a k (p ++ (b ++ z)) ≡ p ++ (zero_row k ++ z)
cleared_is p b z a k e f =
    let behind = drop_at p (b ++ z) a e in
    ap₂ (λ (x y : List ℕ). x ++ (zero_row (length (take k y)) ++ drop k y)) (take_at p (b ++ z) a e) behind
    ∙ ap₂ (λ (x y : List ℕ). p ++ (zero_row (length x) ++ y)) (take_at b z k f) (drop_at b z k f)
    ∙ ap (λ (n : ℕ). p ++ (zero_row n ++ z)) f

-- ONE TERM LESS, by the stores: the chain's head, the four numbers of the entry, the bytes
module _ (tl al : ℕ) (ts : List Term) (t : Term) (some : 0 < length ts) where
  abbrev n : ℕ
  n = length ts

  abbrev H : ℕ → ℕ
  H = all_heads ts

  abbrev S : List ℕ
  S = span heads_width 0 (all_heads ts)

  abbrev E : List ℕ
  E = all_entries ts

  abbrev row : List ℕ
  row = four (size ts) (length t.bytes) t.kind (all_heads ts (chain t))

  abbrev Z : List ℕ
  Z = zero_row (tl - entry_at (suc (length ts)))

  -- the zeros behind the bytes
  abbrev R : List ℕ
  R = zero_row (al - size (ts ++ (t ∷ [])))

  whole : (layout tl al (ts ++ (t ∷ []))).table ≡ set S (chain t) n ++ ((E ++ row) ++ Z)
  unfolding layout
  whole =
      let heads = ap (λ (f : ℕ → ℕ). span heads_width 0 f) (heads_end ts t (length ts) refl some)
      ∙ sym (head_set H (chain t) n (omega arith)) in
      let entries = entries_end ts t some in
      let q : tl - entry_at (length (ts ++ (t ∷ []))) ≡ tl - entry_at (suc (length ts)) = omega (arith, length_snoc ts t) in
      λ i. heads i ++ (entries i ++ zero_row (q i))

  head_back : (r : List ℕ) → set (set S (chain t) n ++ r) (chain t) (H (chain t)) ≡ S ++ r
  head_back r =
      let l : chain t < heads_width = omega arith in
      set-append_left (set S (chain t) n) r (chain t) (H (chain t))
      (omega (arith, length-set S (chain t) n, length_span heads_width 0 (all_heads ts)))
      ∙ ap (λ (x : List ℕ). x ++ r) (set-set S (chain t) n (H (chain t))
      ∙ (ap (set S (chain t)) (sym (span_head H (chain t) l)) ∙ set-get_or S (chain t) 0))

  entry_back : entry_at (suc (length ts)) ≤ tl
      → sets (S ++ ((E ++ row) ++ Z)) (entry_at n) (four 0 0 0 0) ≡ S ++ (E ++ zero_row (tl - entry_at n))
  entry_back h =
      let q : suc (suc (suc (suc (tl - entry_at (suc (length ts)))))) ≡ tl - entry_at (length ts) = omega arith in
      let long : length (S ++ E) ≡ entry_at n = omega (
        arith,
        length-append S E,
        length_span heads_width 0 (all_heads ts),
        length_all_entries ts,
      ) in
      ap (λ (l : List ℕ). sets l (entry_at n) (four 0 0 0 0))
      (ap (λ (l : List ℕ). S ++ l) (append_assoc E row Z) ∙ sym (append_assoc S E (row ++ Z)))
      ∙ (sets_at (S ++ E) row (four 0 0 0 0) Z (entry_at n) long refl
      ∙ (append_assoc S E (four 0 0 0 0 ++ Z) ∙ ap (λ (m : ℕ). S ++ (E ++ zero_row m)) q))

  table_back : entry_at (suc (length ts)) ≤ tl
      → sets (set (layout tl al (ts ++ (t ∷ []))).table (chain t) (all_heads ts (chain t))) (entry_at (length ts)) (four 0 0 0 0)
      ≡ (layout tl al ts).table
  unfolding layout
  table_back h =
      ap (λ (l : List ℕ). sets (set l (chain t) (H (chain t))) (entry_at n) (four 0 0 0 0)) whole
      ∙ (ap (λ (l : List ℕ). sets l (entry_at n) (four 0 0 0 0)) (head_back ((E ++ row) ++ Z)) ∙ entry_back h)

  cut : (layout tl al (ts ++ (t ∷ []))).arena ≡ all_bytes ts ++ (t.bytes ++ R)
  unfolding layout
  cut = ap (λ (l : List ℕ). l ++ R) (bytes_snoc ts t) ∙ append_assoc (all_bytes ts) t.bytes R

  zeros_back : size ts + length t.bytes ≤ al → zero_row (length t.bytes) ++ R ≡ zero_row (al - size ts)
  zeros_back h =
      let q : length t.bytes + (al - size (ts ++ (t ∷ []))) ≡ al - size ts = omega (arith, size_append ts (t ∷ [])) in
      replicate-append-replicate (length t.bytes) (al - size (ts ++ (t ∷ []))) 0 ∙ ap zero_row q

  arena_back : size ts + length t.bytes ≤ al
      → cleared_at (size ts) (length t.bytes) (layout tl al (ts ++ (t ∷ []))).arena ≡ (layout tl al ts).arena
  unfolding layout
  arena_back h =
      ap (cleared_at (size ts) (length t.bytes)) cut
      ∙ (cleared_is (all_bytes ts) t.bytes R (size ts) (length t.bytes) (length_all_bytes ts) refl
      ∙ ap (λ (l : List ℕ). all_bytes ts ++ l) (zeros_back h))

-- THE LAST TERM of a dictionary, as the code finds it
module _ (d : Dict) (v : T (valid d)) (h : start_count < d.terms) where
  abbrev tl : ℕ
  tl = length d.table

  abbrev al : ℕ
  al = length d.arena

  abbrev k : ℕ
  k = d.terms - 1

  abbrev us : List Term
  us = take (d.terms - 1) (decode d)

  abbrev last : Term
  last = term_of (decode d) (d.terms - 1)

  below : k < d.terms
  below = omega arith

  us_long : length us ≡ k
  us_long = omega (arith, count d v, length-take (d.terms - 1) (decode d))

  split : decode d ≡ us ++ (last ∷ [])
  split =
      let l : k < length (decode d) = omega (arith, count d v) in
      sym (take_all (suc k) (decode d) (omega (arith, count d v))) ∙ take-suc (decode d) k no_term l

  laid : d ≡ layout tl al (us ++ (last ∷ []))
  laid = sym (valid→ d v).1 ∙ ap (layout tl al) split

  -- its entry
  its_entry : EntryIs d.table k (size us) (length last.bytes) last.kind (prev (decode d) (chain last) k)
  its_entry = entry d v k below

  its_next : next_of d.table k ≡ all_heads us (chain last)
  its_next =
      its_entry.next
      ∙ (sym (prev_same (decode d) us (chain last) k (λ j l. get_or-take k (decode d) j no_term l))
      ∙ (ap (prev us (chain last)) (sym us_long) ∙ sym (all_heads_prev us (chain last))))

  -- it lies within the buffers, and its part is short enough for a term's
  pub last_fits : EntryFits d.table d.arena (d.terms - 1)
  last_fits = entry_fits d v k below

  pub last_short : length (read_term d.table d.arena (d.terms - 1) (start_of d.table (d.terms - 1))).bytes ≤ term_limit
  last_short = read_short d.table d.arena k (start_of d.table k) (entry_short d v k below)

  -- the chain that the code computes
  its_chain : {g : Digest} → g ≡ digest_of (read_term d.table d.arena k (start_of d.table k)) → g.chain ≡ chain last
  its_chain e =
      ap (λ (x : Digest). x.chain) e
      ∙ ap chain (read_is d.table d.arena k (start_of d.table k) refl ∙ entry_names d v k below)

  room_before : (entry_at (suc (length us)) ≤ tl) × (size us + length last.bytes ≤ al)
  room_before =
      let l = lengths d v in (
        omega (arith, us_long, l.entries),
        omega (arith, size_upto (decode d) k (omega (arith, count d v)), bytes_used d v, l.bytes),
      )

  -- the contents with the stores made in x
  abbrev stored : Dict → ℕ → ℕ → ℕ → ℕ → ℕ → Dict
  stored x c next m at long =
      dict (sets (set x.table c next) (entry_at m) (four 0 0 0 0)) (cleared_at at long x.arena) m at

  stored_is : stored d (chain last) (all_heads us (chain last)) (length us) (size us) (length last.bytes) ≡ retracted d k
  unfolding layout
  stored_is =
      let some : 0 < length us = omega (arith, us_long) in
      let (a, b) = room_before in
      ap (λ (x : Dict). stored x (chain last) (all_heads us (chain last)) (length us) (size us) (length last.bytes)) laid
      ∙ (λ i. dict (table_back tl al us last some a i) (arena_back tl al us last some b i) (length us) (size us))

  -- what taking it back leaves
  pub retract_leaves : {g : Digest} {table zeros : List ℕ} → g ≡ digest_of (read_term d.table d.arena k (start_of d.table k))
      → table ≡ sets (set d.table g.chain (next_of d.table k)) (entry_at k) (0 ∷ 0 ∷ 0 ∷ 0 ∷ [])
      → zeros ≡ zero_row (length (part (start_of d.table k) (length_of d.table k) d.arena))
      → dict table (put_part (start_of d.table k) (length_of d.table k) d.arena zeros) k (start_of d.table k) ≡ retracted d k
  retract_leaves {g} {table} {zeros} e f z =
      let at = start_of d.table k in
      let long : at + length_of d.table k - at ≡ length last.bytes = omega (arith, its_entry.long) in
      (λ i. dict (f i) (put_part at (length_of d.table k) d.arena (z i)) k at)
      ∙ ((λ i. stored d (its_chain e i) (its_next i) (sym us_long i) (its_entry.start i) (long i)) ∙ stored_is)

-- ANY NUMBER LESS
grows_take : (tl al : ℕ) (ts us : List Term) (m : ℕ) → T (grows tl al ts us) → T (grows tl al ts (take m us))
unfolding grows
grows_take tl al ts us zero g = tt
grows_take tl al ts [] (suc m) g = tt
grows_take tl al ts (u ∷ us) (suc m) g =
    let (a, b) = step tl al ts u us g in unstep tl al ts u (take m us) a (grows_take tl al (ts ++ (u ∷ [])) us m b)

holds_take : (tl al : ℕ) (ts : List Term) (n : ℕ) → start_count ≤ n → Holds tl al ts → Holds tl al (take n ts)
holds_take tl al ts n l h =
    let m = n - start_count in
    let q : n ≡ length start_terms + (n - start_count) = omega (arith, start_sizes.0) in
    record {
      sizes = h.sizes;
      starts = h.starts;
      more = take m h.more;
      whole = ap₂ (λ (j : ℕ) (x : List Term). take j x) q h.whole ∙ take-append-add start_terms h.more m;
      grown = grows_take tl al start_terms h.more m h.grown;
    }

-- the contents of the first n terms
module _ (d : Dict) (v : T (valid d)) {n : ℕ} (a : start_count ≤ n) (b : n ≤ d.terms) where
  kept : Holds (length d.table) (length d.arena) (take n (decode d))
  kept = holds_take (length d.table) (length d.arena) (decode d) n a (held d v)

  pub retracted_valid : T (valid (retracted d n))
  retracted_valid = valid_layout (length d.table) (length d.arena) (take n (decode d)) kept

  pub retracted_long : (length (retracted d n).table ≡ length d.table) × (length (retracted d n).arena ≡ length d.arena)
  retracted_long =
      let (f, g) = holds_fits (length d.table) (length d.arena) (take n (decode d)) kept in (
        layout_table (length d.table) (length d.arena) (take n (decode d)) f,
        layout_arena (length d.table) (length d.arena) (take n (decode d)) g,
      )

  -- of which the first m are the first m
  retracted_twice : (m : ℕ) → m ≤ n → retracted (retracted d n) m ≡ retracted d m
  retracted_twice m l =
      let (f, g) = retracted_long in
      let e = ap (take m) (decode_layout (length d.table) (length d.arena) (take n (decode d))) ∙ take-take m n (decode d) l in
      λ i. layout (f i) (g i) (e i)

retracted_terms : (d : Dict) (n : ℕ) → (retracted d n).terms ≡ length (take n (decode d))
unfolding layout
retracted_terms d n = refl

-- THE LOOP: n terms are to be left of d, and the counters say how many are
pub record Left (d : Dict) (n : ℕ) (table arena : List ℕ) (c : Counters) : Type 0 where
  pub unbroken : T (valid d)
  pub some : start_count ≤ n
  pub within : n ≤ c.terms
  pub upto : c.terms ≤ d.terms
  pub is : contents table arena c ≡ retracted d c.terms

pub left_all : {table arena : List ℕ} {c : Counters} {n : ℕ} → T (valid (contents table arena c)) → start_count ≤ n → n ≤ c.terms
    → Left (contents table arena c) n table arena c
left_all {table} {arena} {c} v a b =
    let d = contents table arena c in
    record {
      unbroken = v;
      some = a;
      within = b;
      upto = omega arith;
      is = sym (ap (layout (length table) (length arena)) (take_all c.terms (decode d) (omega (arith, count d v))) ∙ (valid→ d v).1);
    }

module _ {d : Dict} {n : ℕ} {table arena : List ℕ} {c : Counters} (w : Left d n table arena c) where
  few : start_count ≤ c.terms
  few = omega (arith, w.some, w.within)

  pub left_valid : T (valid (contents table arena c))
  left_valid = subst (λ (x : Dict). T (valid x)) (sym w.is) (retracted_valid d w.unbroken few w.upto)

  pub left_long : (length table ≡ length d.table) × (length arena ≡ length d.arena)
  left_long =
      let (f, g) = retracted_long d w.unbroken few w.upto in
      (ap (λ (x : Dict). length x.table) w.is ∙ f, ap (λ (x : Dict). length x.arena) w.is ∙ g)

  pub left_end : c.terms ≤ n → contents table arena c ≡ retracted d n
  left_end l = let q : c.terms ≡ n = omega (arith, w.within) in w.is ∙ ap (retracted d) q

  module _ (l : n < c.terms) {table' arena' : List ℕ} {c' : Counters}
      (e : contents table' arena' c' ≡ retracted (contents table arena c) (c.terms - 1)) where
    fewer : c'.terms ≡ c.terms - 1
    fewer =
        let x = contents table arena c in
        omega (
          arith,
          ap (λ (y : Dict). y.terms) e ∙ retracted_terms x (c.terms - 1),
          length-take (c.terms - 1) (decode x),
          count x left_valid,
          few,
        )

    pub left_less : c'.terms < c.terms
    left_less = omega (arith, fewer)

    pub left_more : Left d n table' arena' c'
    left_more = record {
      unbroken = w.unbroken;
      some = w.some;
      within = omega (arith, fewer);
      upto = omega (arith, fewer, w.upto);
      is = e ∙ (ap (λ (x : Dict). retracted x (c.terms - 1)) w.is
          ∙ (retracted_twice d w.unbroken few w.upto (c.terms - 1) (omega arith) ∙ ap (retracted d) (sym fewer)));
    }
