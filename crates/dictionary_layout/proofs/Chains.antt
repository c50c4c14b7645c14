-- The chains: what the heads and the next ids are, and that following them misses no term. Assumes nothing.
use mathlib.Core.Path.{◌≡◌, refl, sym, ◌∙◌, ap, subst}
use mathlib.Core.Logic.{◌⊎◌, inl, inr, ◌≢◌}
use mathlib.Core.Bool.{Bool, true, false}
use mathlib.Core.List.{List, [], ◌∷◌, ◌++◌, append_assoc, append-nil}
use Prim.Native.Nat.{ℕ, zero, suc, ◌+◌, ◌*◌, ◌-◌, ◌≤◌, ◌<◌}
use native.Mathlib.Omega.{arith}
use native.Mathlib.Nat.{not-suc-le-zero}
use native.Mathlib.Decide.{dec_lt}
use lib.Dec.{T, eqb, eqb→eq}
use lib.ListN.{length, get_or, take, drop, replicate}
use lib.Seq.{drop_at, take-append_seam, drop-append-add, get_or-append_seam}
use Rattle.common.specs.Triples.{if}
use Rattle.common.specs.Sizes.{heads_width}
use Rattle.common.proofs.Lists.{eq→eqb}
use Rattle.dictionary_layout.specs.Terms.{Term, no_term}
use Rattle.dictionary_layout.specs.Layout.{chain, all_bytes, size, front, heads, entries, all_heads, all_entries, span, layout}
use Rattle.dictionary_layout.specs.Layout.{entry_at}
use Rattle.dictionary_layout.specs.Dictionary.{term_of}
use Rattle.dictionary_layout.proofs.Decoding.{length_span, length_snoc}

-- the greatest id from 1 to below i whose term is in the chain c, else 0
unfoldable pub prev : List Term → ℕ → ℕ → ℕ
prev ts c zero = 0
prev ts c (suc i) = if (eqb c (chain (term_of ts i))) (λ _. i) (λ _. prev ts c i)

pub prev_below : (ts : List Term) (c i : ℕ) → prev ts c i ≤ i
unfolding prev
prev_below ts c zero = omega arith
prev_below ts c (suc i) = let h = prev_below ts c i in go (eqb c (chain (term_of ts i))) h
  where
    go : (b : Bool) → prev ts c i ≤ i → (if b (λ _. i) (λ _. prev ts c i)) ≤ suc i
    go true h = omega arith
    go false h = omega arith

pub prev_less : (ts : List Term) (c i : ℕ) → 0 < i → prev ts c i < i
unfolding prev
prev_less ts c zero p = absurd (omega arith)
prev_less ts c (suc i) p = let h = prev_below ts c i in go (eqb c (chain (term_of ts i))) h
  where
    go : (b : Bool) → prev ts c i ≤ i → (if b (λ _. i) (λ _. prev ts c i)) < suc i
    go true h = omega arith
    go false h = omega arith

-- it is in the chain, where it is not 0
pub prev_chain : (ts : List Term) (c i : ℕ) → 0 < prev ts c i → chain (term_of ts (prev ts c i)) ≡ c
unfolding prev
prev_chain ts c zero p = absurd (omega arith)
prev_chain ts c (suc i) p = go (eqb c (chain (term_of ts i))) (eqb→eq c (chain (term_of ts i))) p (prev_chain ts c i)
  where
    go : (b : Bool) → (T b → c ≡ chain (term_of ts i)) → 0 < (if b (λ _. i) (λ _. prev ts c i))
        → (0 < prev ts c i → chain (term_of ts (prev ts c i)) ≡ c) → chain (term_of ts (if b (λ _. i) (λ _. prev ts c i))) ≡ c
    go true e p k = sym (e tt)
    go false e p k = k p

-- and none between is
pub prev_gap : (ts : List Term) (c i k : ℕ) → prev ts c i < k → k < i → chain (term_of ts k) ≢ c
unfolding prev
prev_gap ts c zero k p q = absurd (not-suc-le-zero q)
prev_gap ts c (suc i) k p q = go (eqb c (chain (term_of ts i))) (λ e. eq→eqb c (chain (term_of ts i)) e) p (prev_gap ts c i k)
  where
    last : (k ≡ i) ⊎ (k < i) → (c ≡ chain (term_of ts i) → ⊥) → (k < i → chain (term_of ts k) ≢ c) → chain (term_of ts k) ≢ c
    last (inl e) n f = λ h. n (sym (ap (λ j. chain (term_of ts j)) (sym e) ∙ h))
    last (inr l) n f = f l

    split : Dec (k < i) → (k ≡ i) ⊎ (k < i)
    split (yes l) = inr l
    split (no l) = inl (omega arith)

    go : (b : Bool) → (c ≡ chain (term_of ts i) → T b) → (if b (λ _. i) (λ _. prev ts c i)) < k
        → (prev ts c i < k → k < i → chain (term_of ts k) ≢ c) → chain (term_of ts k) ≢ c
    go true e p f = absurd (omega arith)
    go false e p f = last (split (dec_lt k i)) e (f p)

-- what heads and entries hold, from any point on: H agrees with `prev` up to i
front_prev : (ts : List Term) (u : Term) (i : ℕ) (H : ℕ → ℕ) → term_of ts i ≡ u → ((c : ℕ) → H c ≡ prev ts c i) → (c : ℕ)
    → front H (chain u) i c ≡ prev ts c (suc i)
unfolding prev
front_prev ts u i H e f c =
    (λ j. if (eqb c (chain (sym e j))) (λ _. i) (λ _. H c)) ∙ (λ j. if (eqb c (chain (term_of ts i))) (λ _. i) (λ _. f c j))

at_seam : (ts ps : List Term) (u : Term) (us : List Term) (i : ℕ) → length ps ≡ i → ts ≡ ps ++ (u ∷ us) → term_of ts i ≡ u
at_seam ts ps u us i n e = (λ j. get_or (e j) (sym n j) no_term) ∙ get_or-append_seam ps u us no_term

heads_prev : (ts ps us : List Term) (i : ℕ) (H : ℕ → ℕ) → length ps ≡ i → ts ≡ ps ++ us → ((c : ℕ) → H c ≡ prev ts c i)
    → (c : ℕ) → heads H i us c ≡ prev ts c (i + length us)
unfolding heads
heads_prev ts ps [] i H n e f c = let q : i ≡ i + 0 = omega arith in f c ∙ ap (prev ts c) q
heads_prev ts ps (u ∷ us) i H n e f c =
    let q : suc i + length us ≡ i + suc (length us) = omega arith in
    heads_prev ts (ps ++ (u ∷ [])) us (suc i) (front H (chain u) i) (length_snoc ps u ∙ ap suc n)
    (e ∙ sym (append_assoc ps (u ∷ []) us)) (front_prev ts u i H (at_seam ts ps u us i n e) f) c
    ∙ ap (prev ts c) q

-- the four numbers of the entry k
pub record Entry (row : List ℕ) (k a l m n : ℕ) : Type 0 where
  pub begins : get_or row (4 * k) 0 ≡ a
  pub bytes : get_or row (4 * k + 1) 0 ≡ l
  pub kind : get_or row (4 * k + 2) 0 ≡ m
  pub next : get_or row (4 * k + 3) 0 ≡ n

-- the entry k is that of a term whose bytes start at a, and n is the next id of its chain
abbrev pub EntryOf : List ℕ → ℕ → ℕ → Term → ℕ → Type 0
EntryOf row k a t n = Entry row k a (length t.bytes) t.kind n

entry_by : {row : List ℕ} {k a b l m n o : ℕ} → Entry row k a l m n → a ≡ b → n ≡ o → Entry row k b l m o
entry_by h p q = record { begins = h.begins ∙ p; bytes = h.bytes; kind = h.kind; next = h.next ∙ q }

entry_first : (a : ℕ) (t : Term) (n : ℕ) (row : List ℕ) → EntryOf (a ∷ length t.bytes ∷ t.kind ∷ n ∷ row) 0 a t n
entry_first a t n row = record { begins = refl; bytes = refl; kind = refl; next = refl }

-- an entry behind another
module _ (w x y z : ℕ) (row : List ℕ) where
  cell_later : (i j : ℕ) → i ≡ suc (suc (suc (suc j))) → get_or (w ∷ x ∷ y ∷ z ∷ row) i 0 ≡ get_or row j 0
  cell_later i j q = ap (λ (m : ℕ). get_or (w ∷ x ∷ y ∷ z ∷ row) m 0) q

  entry_later : {k a l m n : ℕ} → Entry row k a l m n → Entry (w ∷ x ∷ y ∷ z ∷ row) (suc k) a l m n
  entry_later {k} h = record {
    begins = cell_later (4 * suc k) (4 * k) (omega arith) ∙ h.begins;
    bytes = cell_later (4 * suc k + 1) (4 * k + 1) (omega arith) ∙ h.bytes;
    kind = cell_later (4 * suc k + 2) (4 * k + 2) (omega arith) ∙ h.kind;
    next = cell_later (4 * suc k + 3) (4 * k + 3) (omega arith) ∙ h.next;
  }

entries_at : (ts ps us : List Term) (i at : ℕ) (H : ℕ → ℕ) (z : List ℕ) → length ps ≡ i → ts ≡ ps ++ us
    → ((c : ℕ) → H c ≡ prev ts c i) → (k : ℕ) → k < length us
    → EntryOf (entries H i at us ++ z) k (at + size (take k us)) (term_of us k) (prev ts (chain (term_of us k)) (i + k))
unfolding entries
entries_at ts ps [] i at H z n e f k h = absurd (not-suc-le-zero h)
entries_at ts ps (u ∷ us) i at H z n e f zero h =
    let q : at ≡ at + 0 = omega arith in
    let q₂ : i ≡ i + 0 = omega arith in
    entry_by (entry_first at u (H (chain u)) (entries (front H (chain u) i) (suc i) (at + length u.bytes) us ++ z)) q
    (f (chain u) ∙ ap (prev ts (chain u)) q₂)
entries_at ts ps (u ∷ us) i at H z n e f (suc k) h =
    let q : at + length u.bytes + size (take k us) ≡ at + (length u.bytes + size (take k us)) = omega arith in
    let q₂ : suc i + k ≡ i + suc k = omega arith in
    let h₂ : k < length us = omega arith in
    entry_later at (length u.bytes) u.kind (H (chain u)) (entries (front H (chain u) i) (suc i) (at + length u.bytes) us ++ z)
    (entry_by (entries_at ts (ps ++ (u ∷ [])) us (suc i) (at + length u.bytes) (front H (chain u) i) z (length_snoc ps u ∙ ap suc n)
    (e ∙ sym (append_assoc ps (u ∷ []) us)) (front_prev ts u i H (at_seam ts ps u us i n e) f) k h₂) q
    (ap (prev ts (chain (term_of us k))) q₂))

span_at : (n i : ℕ) (f : ℕ → ℕ) (z : List ℕ) (k : ℕ) → k < n → get_or (span n i f ++ z) k 0 ≡ f (i + k)
unfolding span
span_at zero i f z k h = absurd (not-suc-le-zero h)
span_at (suc n) i f z zero h = let q : i ≡ i + 0 = omega arith in ap f q
span_at (suc n) i f z (suc k) h =
    let q : suc i + k ≡ i + suc k = omega arith in let h₂ : k < n = omega arith in span_at n (suc i) f z k h₂ ∙ ap f q

zero_prev : (t : Term) (ts : List Term) (x : ℕ) → ◌≡◌ {A = ℕ} 0 (prev (t ∷ ts) x 1)
unfolding prev
zero_prev t ts x = go (eqb x (chain t))
  where
    go : (b : Bool) → ◌≡◌ {A = ℕ} 0 (if b (λ _. 0) (λ _. 0))
    go true = refl
    go false = refl

pub all_heads_prev : (ts : List Term) (c : ℕ) → all_heads ts c ≡ prev ts c (length ts)
unfolding prev
all_heads_prev [] c = refl
all_heads_prev (t ∷ ts) c =
    let q : 1 + length ts ≡ suc (length ts) = omega arith in heads_prev (t ∷ ts) (t ∷ []) ts 1 (λ x. 0) refl refl
    (zero_prev t ts) c ∙ ap (prev (t ∷ ts) c) q

pub all_entries_at : (ts : List Term) (z : List ℕ) (k : ℕ) → k < length ts
    → EntryOf (all_entries ts ++ z) k (size (take k ts)) (term_of ts k) (prev ts (chain (term_of ts k)) k)
unfolding prev
all_entries_at [] z k h = absurd (not-suc-le-zero h)
all_entries_at (t ∷ ts) z zero h = entry_first 0 t 0 (entries (λ c. 0) 1 (length t.bytes) ts ++ z)
all_entries_at (t ∷ ts) z (suc k) h =
    let q : 1 + k ≡ suc k = omega arith in
    let h₂ : k < length ts = omega arith in
    entry_later 0 (length t.bytes) t.kind 0 (entries (λ c. 0) 1 (length t.bytes) ts ++ z)
    (entry_by (entries_at (t ∷ ts) (t ∷ []) ts 1 (length t.bytes) (λ c. 0) z refl refl (zero_prev t ts) k h₂) refl
    (ap (prev (t ∷ ts) (chain (term_of ts k))) q))

-- one of the heads
pub span_head : (H : ℕ → ℕ) (c : ℕ) → c < heads_width → get_or (span heads_width 0 H) c 0 ≡ H c
span_head H c h =
    let S = span heads_width 0 H in
    let q : 0 + c ≡ c = omega arith in
    ap (λ (l : List ℕ). get_or l c 0) (sym (append-nil S)) ∙ (span_at heads_width 0 H [] c h ∙ ap H q)

-- WHAT A TABLE HOLDS: the head of the chain c, and the entry of the id k
module _ (tl al : ℕ) (ts : List Term) where
  abbrev unused : List ℕ
  unused = replicate (tl - entry_at (length ts)) 0

  pub head_of : (c : ℕ) → c < heads_width → get_or (layout tl al ts).table c 0 ≡ all_heads ts c
  unfolding layout
  head_of c h =
      let q : 0 + c ≡ c = omega arith in span_at heads_width 0 (all_heads ts) (all_entries ts ++ unused) c h ∙ ap (all_heads ts) q

  pub table_head : (c : ℕ) → c < heads_width → get_or (layout tl al ts).table c 0 ≡ prev ts c (length ts)
  table_head c h = head_of c h ∙ all_heads_prev ts c

  pub table_entry : (k : ℕ) → k < length ts
      → EntryOf (drop heads_width (layout tl al ts).table) k (size (take k ts)) (term_of ts k) (prev ts (chain (term_of ts k)) k)
  unfolding layout
  table_entry k h =
      let e = drop_at (span heads_width 0 (all_heads ts)) (all_entries ts ++ unused) heads_width
      (length_span heads_width 0 (all_heads ts)) in
      subst (λ (row : List ℕ). EntryOf row k (size (take k ts)) (term_of ts k) (prev ts (chain (term_of ts k)) k)) (sym e)
      (all_entries_at ts unused k h)

-- WHAT LOOKUP RETURNS: the part of the arena that the entry names holds the term's bytes
part_at : (ts : List Term) (z : List ℕ) (k : ℕ) → k < length ts
    → take (length (term_of ts k).bytes) (drop (size (take k ts)) (all_bytes ts ++ z)) ≡ (term_of ts k).bytes
part_at [] z k h = absurd (not-suc-le-zero h)
part_at (t ∷ ts) z zero h =
    ap (take (length t.bytes)) (append_assoc t.bytes (all_bytes ts) z) ∙ take-append_seam t.bytes (all_bytes ts ++ z)
part_at (t ∷ ts) z (suc k) h =
    let h₂ : k < length ts = omega arith in
    ap (take (length (term_of ts k).bytes))
    (ap (drop (length t.bytes + size (take k ts))) (append_assoc t.bytes (all_bytes ts) z)
    ∙ drop-append-add t.bytes (all_bytes ts ++ z) (size (take k ts)))
    ∙ part_at ts z k h₂

pub arena_part : (tl al : ℕ) (ts : List Term) (k : ℕ) → k < length ts
    → take (length (term_of ts k).bytes) (drop (size (take k ts)) (layout tl al ts).arena) ≡ (term_of ts k).bytes
unfolding layout
arena_part tl al ts k h = part_at ts (replicate (al - size ts) 0) k h

-- the last id of a chain below i depends on the terms below i alone
pub prev_same : (ts us : List Term) (c i : ℕ) → ((j : ℕ) → j < i → term_of us j ≡ term_of ts j) → prev us c i ≡ prev ts c i
unfolding prev
prev_same ts us c zero f = refl
prev_same ts us c (suc i) f = λ j. if (eqb c (chain (f i (omega arith) j))) (λ _. i)
    (λ _. prev_same ts us c i (λ m l. f m (omega arith)) j)
