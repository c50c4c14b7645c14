-- What was laid out is read back, and the lengths of what is laid out. Assumes nothing.
use mathlib.Core.Path.{◌≡◌, refl, sym, ◌∙◌, ap, ap₂}
use mathlib.Core.List.{List, [], ◌∷◌, ◌++◌, append_assoc}
use Prim.Native.Nat.{ℕ, zero, suc, ◌+◌, ◌*◌, ◌-◌, ◌≤◌}
use native.Mathlib.Omega.{arith}
use lib.ListN.{length, take, drop, replicate, length-append, length-replicate}
use lib.Seq.{drop_at, take-append_seam}
use Rattle.common.specs.Sizes.{heads_width}
use Rattle.dictionary_layout.specs.Terms.{Term, term}
use Rattle.dictionary_layout.specs.Layout.{chain, all_bytes, size, front, entries, all_heads, all_entries, span, layout, read}
use Rattle.dictionary_layout.specs.Layout.{decode, entry_at}

-- what was laid out is read back
pub length_span : (n i : ℕ) (f : ℕ → ℕ) → length (span n i f) ≡ n
unfolding span
length_span zero i f = refl
length_span (suc n) i f = ap suc (length_span n (suc i) f)

read_entries : (H : ℕ → ℕ) (i at : ℕ) (ts : List Term) (z p w : List ℕ) → length p ≡ at
    → read (length ts) (entries H i at ts ++ z) (p ++ (all_bytes ts ++ w)) ≡ ts
unfolding read entries
read_entries H i at [] z p w e = refl
read_entries H i at (t ∷ ts) z p w e =
    ap₂ (λ b r. term t.kind b ∷ r) first
    (ap (read (length ts) (entries (front H (chain t) i) (suc i) (at + length t.bytes) ts ++ z)) moved
    ∙ read_entries (front H (chain t) i) (suc i) (at + length t.bytes) ts z (p ++ t.bytes) w
    (length-append p t.bytes ∙ ap (λ n. n + length t.bytes) e))
  where
    first : take (length t.bytes) (drop at (p ++ ((t.bytes ++ all_bytes ts) ++ w))) ≡ t.bytes
    first =
        ap (take (length t.bytes)) (drop_at p ((t.bytes ++ all_bytes ts) ++ w) at e
        ∙ append_assoc t.bytes (all_bytes ts) w) ∙ take-append_seam t.bytes (all_bytes ts ++ w)

    moved : p ++ ((t.bytes ++ all_bytes ts) ++ w) ≡ (p ++ t.bytes) ++ (all_bytes ts ++ w)
    moved = ap (λ l. p ++ l) (append_assoc t.bytes (all_bytes ts) w) ∙ sym (append_assoc p t.bytes (all_bytes ts ++ w))

pub read_all : (ts : List Term) (z w : List ℕ) → read (length ts) (all_entries ts ++ z) (all_bytes ts ++ w) ≡ ts
unfolding read
read_all [] z w = refl
read_all (t ∷ ts) z w =
    ap₂ (λ b r. term t.kind b ∷ r)
    (ap (take (length t.bytes)) (append_assoc t.bytes (all_bytes ts) w) ∙ take-append_seam t.bytes (all_bytes ts ++ w))
    (ap (read (length ts) (entries (λ c. 0) 1 (length t.bytes) ts ++ z)) (append_assoc t.bytes (all_bytes ts) w)
    ∙ read_entries (λ c. 0) 1 (length t.bytes) ts z t.bytes w refl)

pub decode_layout : (tl al : ℕ) (ts : List Term) → decode (layout tl al ts) ≡ ts
unfolding decode layout
decode_layout tl al ts =
    ap (λ l. read (length ts) l (all_bytes ts ++ replicate (al - size ts) 0))
    (drop_at (span heads_width 0 (all_heads ts)) (all_entries ts ++ replicate (tl - entry_at (length ts)) 0) heads_width
    (length_span heads_width 0 (all_heads ts)))
    ∙ read_all ts (replicate (tl - entry_at (length ts)) 0) (replicate (al - size ts) 0)

-- lengths
length_entries : (H : ℕ → ℕ) (i at : ℕ) (ts : List Term) → length (entries H i at ts) ≡ 4 * length ts
unfolding entries
length_entries H i at [] = refl
length_entries H i at (t ∷ ts) = let e = length_entries (front H (chain t) i) (suc i) (at + length t.bytes) ts in omega arith

pub length_all_entries : (ts : List Term) → length (all_entries ts) ≡ 4 * length ts
length_all_entries [] = refl
length_all_entries (t ∷ ts) = let e = length_entries (λ c. 0) 1 (length t.bytes) ts in omega arith

pub length_all_bytes : (ts : List Term) → length (all_bytes ts) ≡ size ts
length_all_bytes [] = refl
length_all_bytes (t ∷ ts) = let e = length_all_bytes ts in omega (arith, length-append t.bytes (all_bytes ts))

pub layout_table : (tl al : ℕ) (ts : List Term) → entry_at (length ts) ≤ tl → length (layout tl al ts).table ≡ tl
unfolding layout
layout_table tl al ts h =
    omega (
      arith,
      length-append (span heads_width 0 (all_heads ts)) (all_entries ts ++ replicate (tl - entry_at (length ts)) 0),
      length-append (all_entries ts) (replicate (tl - entry_at (length ts)) 0),
      length_span heads_width 0 (all_heads ts),
      length_all_entries ts,
      length-replicate {A = ℕ} (tl - entry_at (length ts)) 0,
    )

pub layout_arena : (tl al : ℕ) (ts : List Term) → size ts ≤ al → length (layout tl al ts).arena ≡ al
unfolding layout
layout_arena tl al ts h =
    omega (
      arith,
      length-append (all_bytes ts) (replicate (al - size ts) 0),
      length_all_bytes ts,
      length-replicate {A = ℕ}
          (al - size ts) 0,
    )

-- one term more
pub length_snoc : (ts : List Term) (t : Term) → length (ts ++ (t ∷ [])) ≡ suc (length ts)
length_snoc [] t = refl
length_snoc (u ∷ ts) t = ap suc (length_snoc ts t)

pub size_append : (ts us : List Term) → size (ts ++ us) ≡ size ts + size us
size_append [] us = omega arith
size_append (t ∷ ts) us = let e = size_append ts us in omega arith
