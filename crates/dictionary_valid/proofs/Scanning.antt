-- Entries scanned one after the other: one more, the end, and what valid contents have at each entry. Assumes nothing.
use mathlib.Core.Path.{◌≡◌, sym, ◌∙◌, ap, subst}
use mathlib.Core.Logic.{◌≢◌}
use mathlib.Core.Option.{none}
use mathlib.Core.List.{List, [], ◌∷◌, ◌++◌}
use Prim.Native.Nat.{ℕ, ◌+◌, ◌*◌, ◌≤◌, ◌<◌}
use native.Mathlib.Omega.{arith}
use lib.Dec.{leb→le, le→leb}
use lib.ListN.{length, get_or, take, drop, set, length-append, length-take, length-drop, take-append-drop}
use lib.Seq.{take-add, get_or-take, take-set-lt}
use Rattle.common.specs.Sizes.{heads_width, table_limit, arena_limit, term_limit}
use Rattle.dictionary_layout.specs.Terms.{Term, start_terms, start_count}
use Rattle.dictionary_layout.specs.Layout.{chain, all_bytes, size, all_heads, all_entries, span, entry_at}
use Rattle.dictionary_layout.specs.Dictionary.{place_of, PutAnswer, term_of}
use Rattle.dictionary_entries.specs.Entries.{start_of, length_of, kind_of, next_of, entry_term, EntryFits}
use Rattle.dictionary_valid.specs.Scanning.{named, Scanned, Follows}
use Rattle.dictionary_layout.proofs.Decoding.{size_append}
use Rattle.dictionary_layout.proofs.Holding.{Holds, holds→, holds←, holds_fits, holds_put, sized→}
use Rattle.dictionary_layout.proofs.Chains.{prev, Entry, all_entries_at, span_head}
use Rattle.dictionary_layout.proofs.Distinct.{absent←, holds_well, at_in}
use Rattle.dictionary_entries.proofs.Appending.{four, head_set, bytes_snoc, entries_end, heads_end}
use Rattle.dictionary_entries.proofs.Reading.{EntryIs, entry_is, size_upto}
use Rattle.dictionary_layout.proofs.Walking.{in_place}
use Rattle.dictionary_entries.proofs.Putting.{abstract_put_new, kind_in, room_in}
use Rattle.dictionary_valid.proofs.Naming.{named_length, named_snoc, named_at, entry_row}

-- WHAT SCANNED ENTRIES SAY
module _ {table arena heads : List ℕ} {k at : ℕ} (s : Scanned table arena heads k at) where
  abbrev ts : List Term
  ts = named table arena k

  scanned_holds : Holds (length table) (length arena) (named table arena k)
  scanned_holds = holds→ (length table) (length arena) (named table arena k) s.holds

  pub scanned_room : (entry_at k ≤ length table) × (at ≤ length arena)
  scanned_room =
      let (a, b) = holds_fits (length table) (length arena) (named table arena k) scanned_holds in
      (omega (arith, named_length table arena k), omega (arith, s.used))

  pub scanned_limits : (length table ≤ table_limit) × (length arena ≤ arena_limit)
  scanned_limits = let w = sized→ (length table) (length arena) scanned_holds.sizes in (w.high, w.arena)

  pub scanned_some : start_count ≤ k
  unfolding start_terms
  scanned_some =
      omega (
        arith,
        named_length table arena k,
        ap (λ (l : List Term). length l) scanned_holds.whole,
        length-append
            start_terms scanned_holds.more,
      )

  -- each entry lies within the buffers
  pub scanned_fits : (j : ℕ) → j < k → EntryFits table arena j
  scanned_fits j h =
      let n = named_length table arena k in
      let (a, b) = scanned_room in
      let e = its_entry in
      record { entry = omega arith; part = omega (arith, e.start, e.long, size_upto (named table arena k) j (omega (arith, n)), s.used) }
    where
      row : Entry (all_entries ts ++ drop (4 * k) (drop heads_width table)) j (size (take j ts)) (length (term_of ts j).bytes)
          (term_of ts j).kind (prev ts (chain (term_of ts j)) j)
      row = all_entries_at ts (drop (4 * k) (drop heads_width table)) j (omega (arith, named_length table arena k))

      its_entry : EntryIs table j (size (take j ts)) (length (term_of ts j).bytes) (term_of ts j).kind (prev ts (chain (term_of ts j)) j)
      its_entry =
          entry_is table j (size (take j ts)) (length (term_of ts j).bytes) (term_of ts j).kind
          (prev ts (chain (term_of ts j)) j)
          (subst (λ (l : List ℕ). Entry l j (size (take j ts)) (length (term_of ts j).bytes) (term_of ts j).kind
          (prev ts (chain (term_of ts j)) j)) (ap (λ (l : List ℕ). l ++ drop (4 * k) (drop heads_width table)) (sym s.entries)
          ∙ take-append-drop (4 * k) (drop heads_width table)) row)

  -- and its part is short enough for a term's
  pub scanned_short : (j : ℕ) → j < k → length_of table j ≤ term_limit
  scanned_short j h =
      let n = named_length table arena k in
      let w = holds_well (length table) (length arena) (named table arena k) scanned_holds (term_of (named table arena k) j)
      (at_in (named table arena k) j (omega arith)) in
      let e = ap (λ (x : Term). length x.bytes) (named_at table arena k j h) in
      omega (
        arith,
        leb→le (length (term_of (named table arena k) j).bytes) term_limit w.1,
        e,
        length-take (length_of table j)
            (drop (start_of table j) arena),
        length-drop (start_of table j) arena,
        (scanned_fits j h).part,
      )

  -- the head of a chain
  pub scanned_head : (c : ℕ) → c < heads_width → heads_width ≤ length heads → get_or heads c 0 ≡ all_heads (named table arena k) c
  scanned_head c h l =
      sym (get_or-take heads_width heads c 0 h) ∙ (ap (λ (x : List ℕ). get_or x c 0) s.chains ∙ span_head (all_heads ts) c h)

-- ONE ENTRY MORE
module _ {table arena heads : List ℕ} {k at : ℕ} (s : Scanned table arena heads k at) where
  abbrev t : Term
  t = entry_term table arena k

  -- what the code tests of it
  pub record Tested : Type 0 where
    pub entry : entry_at (k + 1) ≤ length table
    pub follows : Follows table arena k at
    pub next : next_of table k ≡ get_or heads (chain t) 0
    pub fresh : (j : ℕ) → j < k → entry_term table arena j ≢ t
    pub room : heads_width ≤ length heads

  module _ (h : Tested) where
    part_long : length t.bytes ≡ length_of table k
    part_long =
        omega (
          arith,
          length-take (length_of table k) (drop (start_of table k) arena),
          length-drop (start_of table k) arena,
          h.follows.start,
          h.follows.part,
        )

    new : place_of t (named table arena k) ≡ none
    new =
        absent← 0 t (named table arena k) (λ i. let (j, l, e) = in_place (named table arena k) t i in h.fresh j
        (omega (arith, named_length table arena k)) (sym (named_at table arena k j (omega (arith, named_length table arena k))) ∙ e))

    more_holds : Holds (length table) (length arena) (named table arena (k + 1))
    more_holds =
        let n = named_length table arena k in
        let r = room_in (length table) (length arena) (named table arena k) t (omega (arith, h.entry))
        (omega (arith, part_long, h.follows.part, s.used)) in
        let e = abstract_put_new (length table) (length arena) (named table arena k) t (kind_in t h.follows.low h.follows.high)
        (le→leb (length t.bytes) term_limit (omega (arith, part_long, h.follows.short))) new r in
        subst (Holds (length table) (length arena)) (ap (λ (p : PutAnswer). p.held) e ∙ sym (named_snoc table arena k))
        (holds_put (length table) (length arena) (named table arena k) t (scanned_holds s))

    more_entries : take (4 * (k + 1)) (drop heads_width table) ≡ all_entries (named table arena (k + 1))
    more_entries =
        let c : next_of table k ≡ all_heads (named table arena k) (chain t) = h.next ∙ scanned_head s (chain t) (omega arith) h.room in
        entry_row table arena k h.entry
        ∙ ((λ i. s.entries i ++ four ((h.follows.start ∙ s.used) i) (sym part_long i) (kind_of table k) (c i))
        ∙ (sym (entries_end (named table arena k) t (omega (arith, named_length table arena k, scanned_some s)))
        ∙ ap all_entries (sym (named_snoc table arena k))))

    more_bytes : take (at + length_of table k) arena ≡ all_bytes (named table arena (k + 1))
    more_bytes =
        take-add at (length_of table k) arena
        ∙ ((λ i. s.bytes i ++ take (length_of table k) (drop (sym h.follows.start i) arena))
        ∙ (sym (bytes_snoc (named table arena k) t) ∙ ap all_bytes (sym (named_snoc table arena k))))

    more_chains : take heads_width (set heads (chain t) k) ≡ span heads_width 0 (all_heads (named table arena (k + 1)))
    more_chains =
        take-set-lt heads_width heads (chain t) k (omega arith)
        ∙ (ap (λ (l : List ℕ). set l (chain t) k) s.chains
        ∙ (head_set (all_heads (named table arena k)) (chain t) k (omega arith)
        ∙ (ap (λ (H : ℕ → ℕ). span heads_width 0 H)
        (sym (heads_end (named table arena k) t k (named_length table arena k) (omega (arith, scanned_some s))))
        ∙ ap (λ (l : List Term). span heads_width 0 (all_heads l)) (sym (named_snoc table arena k)))))

    pub scanned_more : Scanned table arena (set heads (chain t) k) (k + 1) (at + length_of table k)
    scanned_more = record {
      holds = holds← (length table) (length arena) (named table arena (k + 1)) more_holds;
      entries = more_entries;
      bytes = more_bytes;
      used = omega (arith, s.used, part_long, ap size (named_snoc table arena k), size_append (named table arena k) (t ∷ []));
      chains = more_chains;
    }
