-- What the code reads in valid contents: counters, heads, entries and the parts that they name. Assumes nothing.
use mathlib.Core.Path.{◌≡◌, sym, ◌∙◌, ap, subst}
use mathlib.Core.List.{List, ◌∷◌}
use Prim.Native.Nat.{ℕ, suc, ◌+◌, ◌*◌, ◌≤◌, ◌<◌}
use native.Mathlib.Omega.{arith}
use lib.Dec.{T, leb→le}
use lib.ListN.{length, get_or, take, drop, length-append}
use lib.Seq.{split_at, get_or-drop}
use Rattle.common.specs.Sizes.{heads_width, entry_limit, table_limit, arena_limit, term_limit}
use Rattle.dictionary_layout.specs.Terms.{Term, term, no_term, start_terms, start_count}
use Rattle.dictionary_layout.specs.Layout.{Dict, chain, size, layout, decode, entry_at}
use Rattle.dictionary_layout.specs.Dictionary.{term_of, valid}
use Rattle.dictionary_entries.specs.Entries.{start_of, length_of, kind_of, next_of, entry_term, EntryFits}
use Rattle.dictionary_layout.proofs.Decoding.{size_append}
use Rattle.dictionary_layout.proofs.Distinct.{holds_well, at_in}
use Rattle.dictionary_layout.proofs.Holding.{Holds, holds_fits, valid→, sized→}
use Rattle.dictionary_layout.proofs.Chains.{prev, Entry, table_head, table_entry, arena_part}

-- the four numbers of the entry of an id
pub record EntryIs (table : List ℕ) (id a l m n : ℕ) : Type 0 where
  pub start : start_of table id ≡ a
  pub long : length_of table id ≡ l
  pub kind : kind_of table id ≡ m
  pub next : next_of table id ≡ n

-- from a row of entries to the table that it ends
pub entry_is : (table : List ℕ) (k a l m n : ℕ) → Entry (drop heads_width table) k a l m n → EntryIs table k a l m n
entry_is table k a l m n e = record {
  start = at (4 * k) ∙ e.begins;
  long = place 1 ∙ (at (4 * k + 1) ∙ e.bytes);
  kind = place 2 ∙ (at (4 * k + 2) ∙ e.kind);
  next = place 3 ∙ (at (4 * k + 3) ∙ e.next);
}
  where
    at : (j : ℕ) → get_or table (64 + j) 0 ≡ get_or (drop heads_width table) j 0
    at j = sym (get_or-drop heads_width table j 0)

    place : (r : ℕ) → get_or table (entry_at k + r) 0 ≡ get_or table (64 + (4 * k + r)) 0
    place r = let q : entry_at k + r ≡ 64 + (4 * k + r) = omega arith in ap (λ (j : ℕ). get_or table j 0) q

-- terms up to a place take no more bytes than all of them
pub size_upto : (ts : List Term) (k : ℕ) → k < length ts → size (take k ts) + length (term_of ts k).bytes ≤ size ts
size_upto ts k h = omega (arith, size_append (take k ts) (term_of ts k ∷ drop (suc k) ts), ap size (split_at ts k no_term h))

module _ (d : Dict) (v : T (valid d)) where
  abbrev ts : List Term
  ts = decode d

  pub held : Holds (length d.table) (length d.arena) (decode d)
  held = (valid→ d v).0

  laid : layout (length d.table) (length d.arena) (decode d) ≡ d
  laid = (valid→ d v).1

  -- the counters
  pub count : d.terms ≡ length (decode d)
  unfolding layout
  count = sym (ap (λ (x : Dict). x.terms) laid)

  pub bytes_used : d.used ≡ size (decode d)
  unfolding layout
  bytes_used = sym (ap (λ (x : Dict). x.used) laid)

  -- entries and bytes lie within the buffers, which are not too long
  pub record Lengths : Type 0 where
    pub some : start_count ≤ d.terms
    pub few : d.terms ≤ entry_limit
    pub entries : entry_at d.terms ≤ length d.table
    pub table : length d.table ≤ table_limit
    pub bytes : d.used ≤ length d.arena
    pub arena : length d.arena ≤ arena_limit

  pub lengths : Lengths
  unfolding start_terms
  lengths =
      let h = held in
      let (f, g) = holds_fits (length d.table) (length d.arena) (decode d) h in
      let s = sized→ (length d.table) (length d.arena) h.sizes in
      record {
        some = omega (arith, count, ap (λ (x : List Term). length x) h.whole, length-append start_terms h.more);
        few = omega (arith, count, s.high);
        entries = omega (arith, count);
        table = s.high;
        bytes = omega (arith, bytes_used);
        arena = s.arena;
      }

  -- the head of a chain is its last id
  pub head : (c : ℕ) → c < heads_width → get_or d.table c 0 ≡ prev (decode d) c (length (decode d))
  head c h = ap (λ (x : Dict). get_or x.table c 0) (sym laid) ∙ table_head (length d.table) (length d.arena) (decode d) c h

  -- an entry
  abbrev term_at : ℕ → Term
  term_at k = term_of (decode d) k

  pub entry : (k : ℕ) → k < d.terms → EntryIs d.table k (size (take k (decode d))) (length (term_at k).bytes)
      (term_at k).kind (prev (decode d) (chain (term_at k)) k)
  entry k h =
      entry_is d.table k (size (take k (decode d))) (length (term_at k).bytes) (term_at k).kind (prev (decode d) (chain (term_at k)) k)
      (subst (λ (x : Dict). Entry (drop heads_width x.table) k (size (take k (decode d))) (length (term_at k).bytes)
      (term_at k).kind (prev (decode d) (chain (term_at k)) k)) laid
      (table_entry (length d.table) (length d.arena) (decode d) k (omega (arith, count))))

  -- names the term of its id
  pub entry_names : (k : ℕ) → k < d.terms → entry_term d.table d.arena k ≡ term_of (decode d) k
  entry_names k h =
      let e = entry k h in
      let p : take (length (term_at k).bytes) (drop (size (take k (decode d))) d.arena)
      ≡ (term_at k).bytes = ap (λ (x : Dict). take (length (term_at k).bytes) (drop (size (take k (decode d))) x.arena))
      (sym laid) ∙ arena_part (length d.table) (length d.arena) (decode d) k (omega (arith, count)) in
      λ i. term (e.kind i) (((λ j. take (e.long j) (drop (e.start j) d.arena)) ∙ p) i)

  -- and lies within the buffers
  pub entry_fits : (k : ℕ) → k < d.terms → EntryFits d.table d.arena k
  entry_fits k h =
      let e = entry k h in
      record {
        entry = omega (arith, lengths.entries);
        part = omega (arith, e.start, e.long, size_upto (decode d) k (omega (arith, count)), lengths.bytes, bytes_used);
      }

  -- its bytes are no more than a term may have
  pub term_short : (k : ℕ) → k < d.terms → length (term_of (decode d) k).bytes ≤ term_limit
  term_short k h =
      let t = term_of (decode d) k in
      let i = at_in (decode d) k (omega (arith, count)) in
      leb→le (length t.bytes) term_limit (holds_well (length d.table) (length d.arena) (decode d) held t i).1
