-- Entries by their buckets: heads and links obey one local invariant, `Last`, and following them finds an entry that names a term.
-- Assumes nothing.
use mathlib.Core.Path.{◌≡◌, refl, sym, ◌∙◌, ap, subst}
use mathlib.Core.Logic.{◌≢◌}
use mathlib.Core.Bool.{Bool, true, false}
use mathlib.Core.List.{List}
use Prim.Native.Nat.{ℕ, ◌+◌, ◌-◌, ◌≤◌, ◌<◌}
use native.Mathlib.Omega.{arith}
use native.Mathlib.Decide.{dec_lt, ℕ_discrete}
use lib.ListN.{length, get_or, take, drop, set, replicate, length-set, length-take}
use lib.Seq.{get_or-set_same, get_or-set_other}
use Rattle.common.specs.Last.{Last}
use Rattle.common.proofs.Last.{last_is, last_none, last_more, last_new}
use Rattle.common.specs.Sizes.{term_limit}
use Rattle.dictionary_layout.specs.declared.values.Digest.{Digest}
use Rattle.dictionary_layout.specs.Terms.{Term, term}
use Rattle.dictionary_layout.specs.Dictionary.{same_term}
use Rattle.dictionary_entries.specs.Entries.{start_of, length_of, kind_of, entry_term, EntryFits}
use Rattle.dictionary_layout.specs.Digest.{bucket, bucket_count, digest_of}
use Rattle.dictionary_layout.proofs.Rows.{zeros_at}
use Rattle.dictionary_layout.proofs.Digests.{digest_bucket}
use Rattle.dictionary_entries.proofs.Searching.{same_term_found, other_term_found}
use Rattle.dictionary_hash.specs.Hashing.{bucket_of, Hashed, linked, Seekable, term_hash_length}

-- no entry yet
pub hashed_none : {table arena hash : List ℕ} → length hash ≡ term_hash_length → hash ≡ replicate term_hash_length 0
    → Hashed table arena hash 0
hashed_none {table} {arena} {hash} l z = record {
  wide = l;
  heads = λ x h. last_is (bucket_of table arena) (ap (λ (w : List ℕ). get_or w x 0) z ∙ zeros_at term_hash_length x)
      (last_none (bucket_of table arena) x);
  links = λ j h. absurd (omega arith);
}

-- ONE ENTRY MORE
module _ {table arena hash : List ℕ} {x k : ℕ} (h : Hashed table arena hash k) (xl : x < bucket_count) (kl : k < bucket_count) where
  abbrev half : List ℕ
  half = set hash (bucket_count + k) (get_or hash x 0)

  abbrev key : ℕ → ℕ
  key = bucket_of table arena

  half_long : length half ≡ term_hash_length
  half_long = length-set hash (bucket_count + k) (get_or hash x 0) ∙ h.wide

  at_head : get_or (linked hash x k) x 0 ≡ k + 1
  at_head = get_or-set_same half x (k + 1) 0 (omega (arith, half_long))

  other_head : (y : ℕ) → y < bucket_count → y ≢ x → get_or (linked hash x k) y 0 ≡ get_or hash y 0
  other_head y l n = get_or-set_other half x y (k + 1) 0 n ∙ get_or-set_other hash (bucket_count + k) y (get_or hash x 0) 0 (omega arith)

  at_link : get_or (linked hash x k) (bucket_count + k) 0 ≡ get_or hash x 0
  at_link =
      get_or-set_other half x (bucket_count + k) (k + 1) 0 (omega arith)
      ∙ get_or-set_same hash (bucket_count + k) (get_or hash x 0) 0 (omega (arith, h.wide))

  other_link : (j : ℕ) → j < k → get_or (linked hash x k) (bucket_count + j) 0 ≡ get_or hash (bucket_count + j) 0
  other_link j l =
      get_or-set_other half x (bucket_count + j) (k + 1) 0 (omega arith)
      ∙ get_or-set_other hash (bucket_count + k) (bucket_count + j) (get_or hash x 0) 0 (omega arith)

  pub hashed_more : bucket_of table arena k ≡ x → Hashed table arena (linked hash x k) (k + 1)
  hashed_more e = record {
    wide = length-set half x (k + 1) ∙ half_long;
    heads = λ y l. at y l (ℕ_discrete y x);
    links = λ j l. link j l (ℕ_discrete j k);
  }
    where
      at : (y : ℕ) → y < bucket_count → Dec (y ≡ x) → Last key y (k + 1) (get_or (linked hash x k) y 0)
      at y l (yes q) = last_is key (ap (λ (z : ℕ). get_or (linked hash x k) z 0) q ∙ at_head) (last_new key y k (e ∙ sym q))
      at y l (no n) = last_is key (other_head y l n) (last_more key y k (get_or hash y 0) (λ w. n (sym w ∙ e)) (h.heads y l))

      link : (j : ℕ) → j < k + 1 → Dec (j ≡ k) → Last key (key j) j (get_or (linked hash x k) (bucket_count + j) 0)
      link j l (yes q) =
          subst (λ (i : ℕ). Last key (key i) i (get_or (linked hash x k) (bucket_count + i) 0)) (sym q)
          (last_is key at_link (subst (λ (z : ℕ). Last key z k (get_or hash x 0)) (sym e) (h.heads x xl)))
      link j l (no n) = last_is key (other_link j (omega arith)) (h.links j (omega arith))

-- THE SEARCH, at cur: no entry of the bucket from cur on names the term
pub record Seeking (table arena : List ℕ) (k : ℕ) (t : Term) (cur : ℕ) : Type 0 where
  pub below : cur ≤ k
  pub here : 0 < cur → bucket_of table arena (cur - 1) ≡ bucket t
  pub done : (j : ℕ) → cur ≤ j → j < k → entry_term table arena j ≢ t

module _ {table arena hash : List ℕ} {k : ℕ} {t : Term} {x : ℕ} (s : Seekable table arena hash k t x) where
  -- what is not in the bucket does not name the term
  pub seek_start : Seeking table arena k t (get_or hash x 0)
  seek_start =
      let l = s.hashed.heads x s.below in
      record { below = l.below; here = λ p. l.here p ∙ s.key; done = λ j a b e. l.none j a b (ap bucket e ∙ sym s.key) }

  module _ {cur : ℕ} (w : Seeking table arena k t cur) (p : cur ≢ 0) where
    link : Last (bucket_of table arena) (bucket_of table arena (cur - 1)) (cur - 1) (get_or hash (bucket_count + (cur - 1)) 0)
    link = s.hashed.links (cur - 1) (omega (arith, w.below))

    pub seek_fits : EntryFits table arena (cur - 1)
    seek_fits = s.fits (cur - 1) (omega (arith, w.below))

    pub seek_less : get_or hash (bucket_count + (cur - 1)) 0 < cur
    seek_less = omega (arith, link.below)

    -- another term is there
    pub seek_more : {r : Bool} → r ≡ same_term (entry_term table arena (cur - 1)) t → r ≡ false
        → Seeking table arena k t (get_or hash (bucket_count + (cur - 1)) 0)
    seek_more g f =
        let q : 0 < cur = omega arith in
        let e = w.here q in
        record {
          below = omega (arith, link.below, w.below);
          here = λ r. link.here r
              ∙ e;
          done = λ j a b. go j a b (dec_lt j cur);
        }
      where
        other : entry_term table arena (cur - 1) ≢ t
        other = other_term_found (entry_term table arena (cur - 1)) t (sym f ∙ g)

        last : (j : ℕ) → get_or hash (bucket_count + (cur - 1)) 0 ≤ j → j < cur → Dec (j ≡ cur - 1) → entry_term table arena j ≢ t
        last j a b (yes e) = subst (λ (i : ℕ). entry_term table arena i ≢ t) (sym e) other
        last j a b (no m) = λ e. link.none j a (omega arith) (ap bucket e ∙ sym (w.here (omega arith)))

        go : (j : ℕ) → get_or hash (bucket_count + (cur - 1)) 0 ≤ j → j < k → Dec (j < cur) → entry_term table arena j ≢ t
        go j a b (yes l) = last j a l (ℕ_discrete j (cur - 1))
        go j a b (no l) = w.done j (omega arith) b

    pub seek_hit : {r : Bool} → r ≡ same_term (entry_term table arena (cur - 1)) t → r ≡ true
        → (cur - 1 < k) × (entry_term table arena (cur - 1) ≡ t)
    seek_hit g f = (omega (arith, w.below), same_term_found (entry_term table arena (cur - 1)) t (sym f ∙ g))

-- the term that the code reads at entry k, whose bytes begin at a place of the arena
abbrev pub read_term : List ℕ → List ℕ → ℕ → ℕ → Term
read_term table arena k at = term (kind_of table k) (take (at + length_of table k - at) (drop at arena))

pub read_is : (table arena : List ℕ) (k at : ℕ) → start_of table k ≡ at → read_term table arena k at ≡ entry_term table arena k
read_is table arena k at e =
    let q : at + length_of table k - at ≡ length_of table k = omega arith in λ i. term (kind_of table k)
    (take (q i) (drop (sym e i) arena))

-- and its bytes are no more than its entry says
pub read_short : (table arena : List ℕ) (k at : ℕ) → length_of table k ≤ term_limit
    → length (read_term table arena k at).bytes ≤ term_limit
read_short table arena k at h = omega (arith, length-take (at + length_of table k - at) (drop at arena))

-- ONE MORE OF THE FIRST ENTRIES
pub entered_more : {table arena hash hash' : List ℕ} {k : ℕ} {d : Digest} → Hashed table arena hash k → k < bucket_count
    → kind_of table k < 4294967296 → d ≡ digest_of (read_term table arena k (start_of table k)) → hash' ≡ linked hash d.bucket k
    → Hashed table arena hash' (k + 1)
entered_more {table} {arena} {hash} {hash'} {k} {d} s h l f e =
    let u = read_term table arena k (start_of table k) in
    let keyed = ap (λ (x : Digest). x.bucket) f ∙ ap bucket (read_is table arena k (start_of table k) refl) in
    subst (λ (x : List ℕ). Hashed table arena x (k + 1)) (sym e) (hashed_more s (digest_bucket u l f) h (sym keyed))
