-- The contents of one term more, as stores into the contents. Assumes nothing.
use mathlib.Core.Path.{◌≡◌, refl, sym, ◌∙◌, ap, ap₂, subst}
use mathlib.Core.Logic.{◌≢◌}
use mathlib.Core.Bool.{Bool, true, false}
use mathlib.Core.List.{List, [], ◌∷◌, ◌++◌, append_assoc, append-nil}
use Prim.Native.Nat.{ℕ, zero, suc, ◌+◌, ◌-◌, ◌≤◌, ◌<◌}
use native.Mathlib.Omega.{arith}
use native.Mathlib.Nat.{not-suc-le-zero}
use lib.Dec.{T, eqb, eqb→eq, eqb_refl}
use lib.ListN.{length, get_or, drop, set, length-append}
use lib.Seq.{sets, sets-eq, paste, take_at, take-length, drop-append-add, set-append_left}
use Rattle.common.specs.Triples.{if}
use Rattle.common.specs.Sizes.{heads_width}
use Rattle.dictionary_layout.specs.Terms.{Term}
use Rattle.dictionary_layout.specs.Layout.{Dict, dict, chain, all_bytes, size, front, heads, entries, all_heads, all_entries, span}
use Rattle.dictionary_layout.specs.Layout.{layout, decode, entry_at}
use Rattle.dictionary_entries.specs.Entries.{Appendable, with_term}
use Rattle.dictionary_layout.proofs.Decoding.{length_span, length_all_entries, length_all_bytes, size_append}
use Rattle.dictionary_layout.proofs.Rows.{zero_row}
use Rattle.dictionary_layout.proofs.Chains.{head_of}

-- one term more at the end
heads_snoc : (H : ℕ → ℕ) (i : ℕ) (us : List Term) (t : Term) (j : ℕ) → i + length us ≡ j
    → heads H i (us ++ (t ∷ [])) ≡ front (heads H i us) (chain t) j
unfolding heads
heads_snoc H i [] t j e = let q : i ≡ j = omega arith in ap (front H (chain t)) q
heads_snoc H i (u ∷ us) t j e = let q : suc i + length us ≡ j = omega arith in heads_snoc (front H (chain u) i) (suc i) us t j q

abbrev pub four : ℕ → ℕ → ℕ → ℕ → List ℕ
four a b c d = a ∷ b ∷ c ∷ d ∷ []

-- the numbers of a term's entry, its bytes starting at a and n the next id of its chain
abbrev entry_row : ℕ → Term → ℕ → List ℕ
entry_row a t n = four a (length t.bytes) t.kind n

entries_snoc : (H : ℕ → ℕ) (i at : ℕ) (us : List Term) (t : Term) (a : ℕ) → at + size us ≡ a
    → entries H i at (us ++ (t ∷ [])) ≡ entries H i at us ++ entry_row a t (heads H i us (chain t))
unfolding entries heads
entries_snoc H i at [] t a e = let q : at ≡ a = omega arith in ap (λ (x : ℕ). entry_row x t (H (chain t))) q
entries_snoc H i at (u ∷ us) t a e =
    let q : at + length u.bytes + size us ≡ a = omega arith in
    ap (λ (l : List ℕ). at ∷ length u.bytes ∷ u.kind ∷ H (chain u) ∷ l)
    (entries_snoc (front H (chain u) i) (suc i) (at + length u.bytes) us t a q)

-- a head stored
span_ext : (n i : ℕ) (f g : ℕ → ℕ) → ((x : ℕ) → i ≤ x → f x ≡ g x) → span n i f ≡ span n i g
unfolding span
span_ext zero i f g e = refl
span_ext (suc n) i f g e = ap₂ (λ (x : ℕ) (l : List ℕ). x ∷ l) (e i (omega arith)) (span_ext n (suc i) f g (λ x h. e x (omega arith)))

span_set : (n i : ℕ) (f g : ℕ → ℕ) (c v : ℕ) → c < n → v ≡ g (i + c) → ((x : ℕ) → x ≢ i + c → f x ≡ g x) → set (span n i f) c v ≡ span n i
    g
unfolding span
span_set zero i f g c v h e k = absurd (not-suc-le-zero h)
span_set (suc n) i f g zero v h e k =
    let q : i + 0 ≡ i = omega arith in ap₂ (λ (x : ℕ) (l : List ℕ). x ∷ l) (e ∙ ap g q)
    (span_ext n (suc i) f g (λ x l. k x (omega arith)))
span_set (suc n) i f g (suc c) v h e k =
    let q : i + suc c ≡ suc i + c = omega arith in
    let h₂ : c < n = omega arith in
    ap₂ (λ (x : ℕ) (l : List ℕ). x ∷ l) (k i (omega arith)) (span_set n (suc i) f g c v h₂ (e ∙ ap g q) (λ x l. k x (λ m. l (m ∙ q))))

front_same : (H : ℕ → ℕ) (c v : ℕ) → v ≡ front H c v c
front_same H c v = go (eqb c c) (eqb_refl c)
  where
    go : (b : Bool) → T b → v ≡ (if b (λ _. v) (λ _. H c))
    go true t = refl
    go false t = absurd t

front_other : (H : ℕ → ℕ) (c v x : ℕ) → x ≢ c → H x ≡ front H c v x
front_other H c v x n = go (eqb x c) (eqb→eq x c)
  where
    go : (b : Bool) → (T b → x ≡ c) → H x ≡ (if b (λ _. v) (λ _. H x))
    go true e = absurd (n (e tt))
    go false e = refl

pub head_set : (H : ℕ → ℕ) (c v : ℕ) → c < heads_width → set (span heads_width 0 H) c v ≡ span heads_width 0 (front H c v)
head_set H c v h =
    let q : 0 + c ≡ c = omega arith in span_set heads_width 0 H (front H c v) c v h (front_same H c v ∙ ap (front H c v) (sym q))
    (λ x n. front_other H c v x (λ e. n (e ∙ sym q)))

-- four numbers stored behind p
pub four_set : (p z : List ℕ) (k a b c d : ℕ) → length p ≡ k → sets (p ++ (0 ∷ 0 ∷ 0 ∷ 0 ∷ z)) k (four a b c d) ≡ p ++ (a ∷ b ∷ c ∷ d ∷ z)
four_set p z k a b c d e =
    sets-eq (four a b c d) (p ++ (0 ∷ 0 ∷ 0 ∷ 0 ∷ z)) k (omega (arith, length-append p (0 ∷ 0 ∷ 0 ∷ 0 ∷ z)))
    ∙ (ap₂ (λ (x y : List ℕ). x ++ four a b c d ++ y) (take_at p (0 ∷ 0 ∷ 0 ∷ 0 ∷ z) k e)
    (ap (λ (j : ℕ). drop (j + 4) (p ++ (0 ∷ 0 ∷ 0 ∷ 0 ∷ z))) (sym e) ∙ drop-append-add p (0 ∷ 0 ∷ 0 ∷ 0 ∷ z) 4)
    ∙ append_assoc p (four a b c d) z)

pub drop_zeros : (n m : ℕ) → drop n (zero_row m) ≡ zero_row (m - n)
drop_zeros zero m = let q : m ≡ m - 0 = omega arith in ap zero_row q
drop_zeros (suc n) zero = let q : 0 ≡ 0 - suc n = omega arith in ap zero_row q
drop_zeros (suc n) (suc m) = let q : m - n ≡ suc m - suc n = omega arith in drop_zeros n m ∙ ap zero_row q

pub all_heads_snoc : (t₀ : Term) (us : List Term) (t : Term)
    → all_heads ((t₀ ∷ us) ++ (t ∷ [])) ≡ front (all_heads (t₀ ∷ us)) (chain t) (suc (length us))
all_heads_snoc t₀ us t = heads_snoc (λ c. 0) 1 us t (suc (length us)) (omega arith)

pub all_entries_snoc : (t₀ : Term) (us : List Term) (t : Term)
    → all_entries ((t₀ ∷ us) ++ (t ∷ [])) ≡ all_entries (t₀ ∷ us) ++ entry_row (size (t₀ ∷ us)) t (all_heads (t₀ ∷ us) (chain t))
all_entries_snoc t₀ us t =
    ap (λ (l : List ℕ). 0 ∷ length t₀.bytes ∷ t₀.kind ∷ 0 ∷ l)
    (entries_snoc (λ c. 0) 1 (length t₀.bytes) us t (size (t₀ ∷ us)) refl)

-- WHAT PUT STORES in the table: four numbers of the new entry, then the chain's head
module _ (tl al : ℕ) (t₀ : Term) (us : List Term) (t : Term) where
  abbrev ts : List Term
  ts = t₀ ∷ us

  abbrev n : ℕ
  n = suc (length us)

  abbrev row : List ℕ
  row = entry_row (size ts) t (all_heads ts (chain t))

  pub table_put : entry_at (suc n) ≤ tl → (layout tl al (ts ++ (t ∷ []))).table
      ≡ set (sets (layout tl al ts).table (entry_at n) row) (chain t) n
  unfolding layout
  table_put h =
      sym (ap (λ (l : List ℕ). set l (chain t) n) stored
      ∙ (set-append_left S ((E ++ row) ++ Z) (chain t) n chain_fits ∙ ap₂ (λ (x y : List ℕ). x ++ y) heads_then
      (ap₂ (λ (x y : List ℕ). x ++ y) (sym (all_entries_snoc t₀ us t)) last)))
    where
      S : List ℕ
      S = span heads_width 0 (all_heads ts)

      E : List ℕ
      E = all_entries ts

      Z : List ℕ
      Z = zero_row (tl - entry_at (suc n))

      heads_long : length S ≡ heads_width
      heads_long = length_span heads_width 0 (all_heads ts)

      chain_fits : chain t < length S
      chain_fits = omega (arith, heads_long)

      heads_then : set S (chain t) n ≡ span heads_width 0 (all_heads (ts ++ (t ∷ [])))
      heads_then =
          head_set (all_heads ts) (chain t) n (omega arith) ∙ ap (λ (H : ℕ → ℕ). span heads_width 0 H) (sym (all_heads_snoc t₀ us t))

      four_zeros : zero_row (tl - entry_at n) ≡ 0 ∷ 0 ∷ 0 ∷ 0 ∷ Z
      four_zeros = let q : tl - entry_at n ≡ suc (suc (suc (suc (tl - entry_at (suc n))))) = omega arith in ap zero_row q

      stored : sets (S ++ (E ++ zero_row (tl - entry_at n))) (entry_at n) row ≡ S ++ ((E ++ row) ++ Z)
      stored =
          ap (λ (l : List ℕ). sets l (entry_at n) row)
          (ap (λ (l : List ℕ). S ++ (E ++ l)) four_zeros ∙ sym (append_assoc S E (0 ∷ 0 ∷ 0 ∷ 0 ∷ Z)))
          ∙ (four_set (S ++ E) Z (entry_at n) (size ts) (length t.bytes) t.kind (all_heads ts (chain t))
          (omega (arith, length-append S E, heads_long, length_all_entries ts))
          ∙ (append_assoc S E (row ++ Z) ∙ ap (λ (l : List ℕ). S ++ l) (sym (append_assoc E row Z))))

      last : Z ≡ zero_row (tl - entry_at (length (ts ++ (t ∷ []))))
      last =
          let q : tl - entry_at (suc n) ≡ tl - entry_at (length (ts ++ (t ∷ []))) = omega (arith, length-append us (t ∷ [])) in
          ap zero_row q

-- and in the arena: the bytes, behind those that are there
pub bytes_snoc : (ts : List Term) (t : Term) → all_bytes (ts ++ (t ∷ [])) ≡ all_bytes ts ++ t.bytes
bytes_snoc [] t = append-nil t.bytes
bytes_snoc (u ∷ ts) t = ap (λ (l : List ℕ). u.bytes ++ l) (bytes_snoc ts t) ∙ sym (append_assoc u.bytes (all_bytes ts) t.bytes)

pub arena_put : (tl al : ℕ) (ts : List Term) (t : Term)
    → (layout tl al (ts ++ (t ∷ []))).arena ≡ paste (layout tl al ts).arena (size ts) t.bytes (length t.bytes)
unfolding layout
arena_put tl al ts t =
    let q : al - size (ts ++ (t ∷ [])) ≡ al - size ts - length t.bytes = omega (arith, size_append ts (t ∷ [])) in
    ap₂ (λ (x : List ℕ) (k : ℕ). x ++ zero_row k) (bytes_snoc ts t) q
    ∙ sym (ap₂ (λ (x y : List ℕ). x ++ y) (ap₂ (λ (x y : List ℕ). x ++ y)
    (take_at (all_bytes ts) R (size ts) (length_all_bytes ts)) (take-length t.bytes)) behind)
  where
    R : List ℕ
    R = zero_row (al - size ts)

    behind : drop (size ts + length t.bytes) (all_bytes ts ++ R) ≡ zero_row (al - size ts - length t.bytes)
    behind =
        ap (λ (k : ℕ). drop (k + length t.bytes) (all_bytes ts ++ R)) (sym (length_all_bytes ts))
        ∙ (drop-append-add (all_bytes ts) R (length t.bytes) ∙ drop_zeros (length t.bytes) (al - size ts))

-- THE CONTENTS OF ONE TERM MORE, as they are stored: the term's bytes, its entry, and its id as its chain's head
abbrev pasted : Dict → Term → List ℕ
pasted d t = paste d.arena d.used t.bytes (length t.bytes)

abbrev with_entry : Dict → Term → ℕ → List ℕ
with_entry d t c = sets d.table (entry_at d.terms) (entry_row d.used t (get_or d.table c 0))

abbrev stored : Dict → Term → ℕ → Dict
stored d t c =
    dict
    (set (with_entry d t c) c d.terms)
    (pasted d t)
    (d.terms + 1)
    (d.used + length t.bytes)

stored_terms : (tl al : ℕ) (ts : List Term) (t : Term) → 0 < length ts → entry_at (suc (length ts)) ≤ tl
    → stored (layout tl al ts) t (chain t) ≡ layout tl al (ts ++ (t ∷ []))
unfolding layout
stored_terms tl al [] t p h = absurd (omega arith)
stored_terms tl al (t₀ ∷ us) t p h =
    let ts = t₀ ∷ us in
    let e₁ = ap (λ (x : ℕ). set (sets (layout tl al ts).table (entry_at (length ts)) (entry_row (size ts) t x)) (chain t) (length ts))
    (head_of tl al ts (chain t) (omega arith)) ∙ sym (table_put tl al t₀ us t h) in
    let e₂ = sym (arena_put tl al ts t) in
    let e₃ : length ts + 1 ≡ length (ts ++ (t ∷ [])) = omega (arith, length-append us (t ∷ [])) in
    let e₄ : size ts + length t.bytes ≡ size (ts ++ (t ∷ [])) = omega (arith, size_append ts (t ∷ [])) in
    λ i. dict (e₁ i) (e₂ i) (e₃ i) (e₄ i)

-- what append leaves
pub appended : (d : Dict) (t : Term) (c : ℕ) → Appendable d t c → stored d t c ≡ with_term d t
unfolding layout
appended d t c h =
    let tl = length d.table in
    let al = length d.arena in
    let n = ap (λ (x : Dict). x.terms) h.laid in
    ap (stored d t) h.chained
    ∙ subst (λ (x : Dict). stored x t (chain t) ≡ with_term d t) h.laid
    (stored_terms tl al (decode d) t (omega (arith, n, h.some)) (omega (arith, n, h.entry)))

-- by the stores that the code makes
pub four_stores : (l : List ℕ) (at a b c d : ℕ) → set (set (set (set l at a) (at + 1) b) (at + 2) c) (at + 3) d ≡ sets l at (four a b c d)
four_stores l at a b c d =
    let e₁ : at + 1 ≡ suc at = omega arith in
    let e₂ : at + 2 ≡ suc (suc at) = omega arith in
    let e₃ : at + 3 ≡ suc (suc (suc at)) = omega arith in
    λ i. set (set (set (set l at a) (e₁ i) b) (e₂ i) c) (e₃ i) d

pub append_end : (d : Dict) (t : Term) (c : ℕ) (table arena : List ℕ) → Appendable d t c
    → table ≡ with_entry d t c → arena ≡ pasted d t
    → dict (set table c d.terms) arena (d.terms + 1) (d.used + length t.bytes) ≡ with_term d t
append_end d t c table arena h e f =
    (λ i. dict (set (e i) c d.terms) (f i) (d.terms + 1) (d.used + length t.bytes)) ∙ appended d t c h

-- one term more than some others: the last entry, and the heads
pub entries_end : (ts : List Term) (t : Term) → 0 < length ts
    → all_entries (ts ++ (t ∷ [])) ≡ all_entries ts ++ entry_row (size ts) t (all_heads ts (chain t))
entries_end [] t h = absurd (omega arith)
entries_end (t₀ ∷ us) t h = all_entries_snoc t₀ us t

pub heads_end : (ts : List Term) (t : Term) (k : ℕ) → length ts ≡ k → 0 < k → all_heads (ts ++ (t ∷ [])) ≡ front (all_heads ts) (chain t) k
heads_end [] t k e h = absurd (omega arith)
heads_end (t₀ ∷ us) t k e h = all_heads_snoc t₀ us t ∙ ap (front (all_heads (t₀ ∷ us)) (chain t)) e
