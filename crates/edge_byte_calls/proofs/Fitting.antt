-- The numbers that a dictionary's table holds are below 2 ^ 32: its bytes are read back. Assumes nothing.
use mathlib.Core.Path.{◌≡◌, refl, ap}
use mathlib.Core.Bool.{Bool, true, false}
use mathlib.Core.List.{List, [], ◌∷◌, ◌++◌}
use Prim.Native.Nat.{ℕ, zero, suc, ◌+◌, ◌*◌, ◌-◌, ◌≤◌, ◌<◌}
use native.Mathlib.Omega.{arith}
use lib.Dec.{leb, eqb, leb→le}
use lib.ListN.{length, replicate}
use Rattle.common.specs.Sizes.{heads_width, entry_width, entry_limit, arena_limit}
use Rattle.common.specs.Triples.{In, here, there, if}
use Rattle.common.proofs.Lists.{and→}
use Rattle.dictionary_layout.specs.Terms.{Term}
use Rattle.dictionary_layout.specs.Layout.{dict, size, chain, front, entries, all_heads, all_entries, span, layout}
use Rattle.dictionary_layout.proofs.Chains.{prev_below, all_heads_prev}
use Rattle.dictionary_layout.proofs.Holding.{Holds, valid_layout}
use Rattle.dictionary_layout.proofs.Distinct.{holds_well}
use Rattle.dictionary_entries.proofs.Reading.{lengths}
use Rattle.edge_bytes.specs.Bytes.{FitBytes}
use Rattle.edge_bytes.proofs.RoundTrip.{read_bytes, fit_append, fit_zeros}
use Rattle.edge_c.specs.Calls.{read_dict}
use Rattle.edge_byte_calls.specs.ByteCalls.{dict_in_bytes}

-- a function all of whose numbers are below 2 ^ 32
abbrev Low : (ℕ → ℕ) → Type 0
Low f = (c : ℕ) → f c < 4294967296

fit_span : (n i : ℕ) (f : ℕ → ℕ) → Low f → FitBytes (span n i f)
unfolding span
fit_span zero i f h = tt
fit_span (suc n) i f h = (h i, fit_span n (suc i) f h)

front_low : (H : ℕ → ℕ) (c i : ℕ) → Low H → i < 4294967296 → Low (front H c i)
front_low H c i h k x = go (eqb x c)
  where
    go : (b : Bool) → (if b (λ _. i) (λ _. H x)) < 4294967296
    go true = k
    go false = h x

-- terms of known kinds that can be held, the first with the id i and its bytes at `at`
abbrev Known : List Term → Type 0
Known ts = (t : Term) → In t ts → t.kind ≤ 3

fit_entries : (H : ℕ → ℕ) (i at : ℕ) (ts : List Term) → Low H → i + length ts ≤ entry_limit → at + size ts ≤ arena_limit → Known ts
    → FitBytes (entries H i at ts)
unfolding entries
fit_entries H i at [] h n s k = tt
fit_entries H i at (t ∷ ts) h n s k =
    let kind = k t (here refl) in
    let low = front_low H (chain t) i h (omega arith) in
    let next = at + length t.bytes in
    let rest = fit_entries (front H (chain t) i) (suc i) next ts low (omega arith) (omega arith) (λ u j. k u (there j)) in
    (omega arith, (omega arith, (omega arith, (h (chain t), rest))))

fit_all_entries : (ts : List Term) → length ts ≤ entry_limit → size ts ≤ arena_limit → Known ts → FitBytes (all_entries ts)
fit_all_entries [] n s k = tt
fit_all_entries (t ∷ ts) n s k =
    let kind = k t (here refl) in
    let rest = fit_entries (λ c. 0) 1 (length t.bytes) ts (λ c. omega arith) (omega arith) (omega arith) (λ u j. k u (there j)) in
    (omega arith, (omega arith, (omega arith, (omega arith, rest))))

module _ {tl al : ℕ} {ts : List Term} (h : Holds tl al ts) where
  pub some : 31 ≤ length ts
  unfolding layout
  some = (lengths (layout tl al ts) (valid_layout tl al ts h)).some

  pub few : length ts ≤ entry_limit
  unfolding layout
  few = (lengths (layout tl al ts) (valid_layout tl al ts h)).few

  short : size ts ≤ arena_limit
  unfolding layout
  short = let l = lengths (layout tl al ts) (valid_layout tl al ts h) in omega (arith, l.bytes, l.arena)

  known : Known ts
  known t i = leb→le t.kind 3 (and→ (leb 1 t.kind) (leb t.kind 3) (holds_well tl al ts h t i).0).1

  fit_table : FitBytes (layout tl al ts).table
  unfolding layout
  fit_table =
      let unused = tl - (heads_width + entry_width * length ts) in
      fit_append (span heads_width 0 (all_heads ts)) (all_entries ts ++ replicate unused 0)
      (fit_span heads_width 0 (all_heads ts) (λ c. omega (arith, all_heads_prev ts c, prev_below ts c (length ts), few)))
      (fit_append (all_entries ts) (replicate unused 0) (fit_all_entries ts few short known) (fit_zeros unused))

  -- the dictionary, with its table as bytes, is read back
  pub read_back : read_dict (dict_in_bytes (layout tl al ts)) ≡ layout tl al ts
  read_back = let d = layout tl al ts in ap (λ (l : List ℕ). dict l d.arena d.terms d.used) (read_bytes d.table fit_table)
