-- An index over the terms of a dictionary: made, searched, and kept by a put. Assumes nothing.
use mathlib.Core.Path.{◌≡◌, refl, sym, ◌∙◌, ap, subst}
use mathlib.Core.Logic.{inl, inr}
use mathlib.Core.List.{List, [], ◌∷◌, ◌++◌}
use Prim.Native.Nat.{ℕ, ◌+◌, ◌≤◌, ◌<◌}
use native.Mathlib.Omega.{arith}
use lib.Dec.{T}
use lib.ListN.{length, get_or, replicate, length-replicate, get_or-append}
use lib.Seq.{get_or-append_seam}
use Rattle.common.specs.declared.Id.{Id}
use Rattle.std.specs.Prelude.{Option, Some, None}
use Rattle.common.specs.Sizes.{term_limit}
use Rattle.common.specs.Last.{Last}
use Rattle.common.proofs.Last.{last_rekey}
use Rattle.dictionary_layout.specs.declared.values.Digest.{Digest}
use Rattle.dictionary_layout.specs.Terms.{Term, no_term}
use Rattle.dictionary_layout.specs.Layout.{Dict, layout, decode}
use Rattle.dictionary_layout.specs.Dictionary.{place_of, same_term, term_of, abstract_put, valid}
use Rattle.dictionary_layout.specs.Digest.{bucket, bucket_count, digest_of}
use Rattle.dictionary_layout.specs.Calls.{PutResult, put_gives}
use Rattle.dictionary_entries.specs.Entries.{length_of, entry_term, id_found}
use Rattle.dictionary_hash.specs.Hashing.{bucket_of, term_hash_length, Hashed, linked, FindsEntry, Seekable, Hashable}
use Rattle.dictionary_index.specs.Found.{term_refusal}
use Rattle.dictionary_puts.specs.Indexed.{Indexed}
use Rattle.dictionary_layout.proofs.Choice.{is_true}
use Rattle.dictionary_layout.proofs.Equality.{same_term_refl}
use Rattle.dictionary_layout.proofs.Decoding.{decode_layout, length_snoc}
use Rattle.dictionary_layout.proofs.Digests.{digest_bucket}
use Rattle.dictionary_layout.proofs.Distinct.{absent←}
use Rattle.dictionary_layout.proofs.Holding.{Added, Ways, put_cases, valid→}
use Rattle.dictionary_layout.proofs.Reachable.{put_valid, put_keeps}
use Rattle.dictionary_layout.proofs.Walking.{in_place}
use Rattle.dictionary_entries.proofs.Putting.{kind_facts}
use Rattle.dictionary_entries.proofs.Reading.{count, lengths, entry, entry_names, entry_fits, term_short}
use Rattle.dictionary_entries.proofs.Searching.{find_hit}
use Rattle.dictionary_hash.proofs.Hashing.{hashed_none, hashed_more}
use Rattle.dictionary_index.proofs.Refusals.{refusal_none}

-- THE ENTRIES of a dictionary can be entered in an empty index
module _ (d : Dict) (v : T (valid d)) where
  -- the part of an entry is short enough for a term's
  pub entry_short : (j : ℕ) → j < d.terms → length_of d.table j ≤ term_limit
  entry_short j h = omega (arith, (entry d v j h).long, term_short d v j h)

  pub hashable : {hash : List ℕ} → hash ≡ replicate term_hash_length 0 → Hashable d.table d.arena hash d.terms
  hashable {hash} z =
      let wide : length hash ≡ term_hash_length = ap (λ (l : List ℕ). length l) z ∙ length-replicate {A = ℕ} term_hash_length 0 in
      record { empty = hashed_none wide z; fits = entry_fits d v; short = entry_short; few = (lengths d v).few }

-- THE SEARCH
module _ (d : Dict) (v : T (valid d)) (t : Term) where
  pub found_place : (r : Option Id) → FindsEntry d.table d.arena d.terms t r → id_found r ≡ place_of t (decode d)
  -- an entry that names the term
  found_place (Some i) f =
      find_hit (record { unbroken = v; chained = refl }) i.0 f.0
      (is_true (same_term (entry_term d.table d.arena i.0) t)
      (subst (λ (x : Term). T (same_term x t)) (sym f.1) (same_term_refl t))) refl
  -- none does
  found_place None f =
      sym (absent← 0 t (decode d) (λ i. let (j, l, e) = in_place (decode d) t i in
      let b : j < d.terms = omega (arith, count d v) in f j b (entry_names d v j b ∙ e)))

-- ONE TERM, whose digest is given
module _ {d : Dict} {hash : List ℕ} (x : Indexed d hash) (t : Term) (a : term_refusal t ≡ 0) {g : Digest} (e : g ≡ digest_of t) where
  bucket_small : g.bucket < bucket_count
  bucket_small = digest_bucket t (omega (arith, (kind_facts t (refusal_none t a).0).1)) e

  pub seekable : Seekable d.table d.arena hash d.terms t g.bucket
  seekable = record {
    hashed = x.hashed;
    fits = entry_fits d x.unbroken;
    few = (lengths d x.unbroken).few;
    key = ap (λ (y : Digest). y.bucket) e;
    below = bucket_small;
  }

  -- the index has room for its entry
  pub index_room : (length hash ≡ term_hash_length) × (g.bucket < bucket_count) × (d.terms < bucket_count)
  index_room = (x.hashed.wide, bucket_small, omega (arith, (lengths d x.unbroken).few))

-- WHAT A PUT LEAVES: entries that name the same terms are hashed alike
rehashed : {table arena table' arena' hash : List ℕ} {k : ℕ} → ((j : ℕ) → j < k → entry_term table' arena' j ≡ entry_term table arena j)
    → Hashed table arena hash k → Hashed table' arena' hash k
rehashed {table} {arena} {table'} {arena'} {hash} {k} f h = record {
  wide = h.wide;
  heads = λ x l. last_rekey same (h.heads x l);
  links = λ j l. subst (λ (x : ℕ). Last (bucket_of table' arena') x j (get_or hash (bucket_count + j) 0)) (sym (same j l))
      (last_rekey (λ i m. same i (omega arith)) (h.links j l));
}
  where
    same : (j : ℕ) → j < k → bucket_of table' arena' j ≡ bucket_of table arena j
    same j l = ap bucket (f j l)

-- what a put gives
module _ {d : Dict} {hash : List ℕ} (x : Indexed d hash) (t : Term) {r : PutResult} (e : r ≡ put_gives d t) where
  abbrev d' : Dict
  d' = r.contents

  abbrev tl : ℕ
  tl = length d.table

  abbrev al : ℕ
  al = length d.arena

  v : T (valid d)
  v = x.unbroken

  v' : T (valid d')
  v' = subst (λ (y : Dict). T (valid y)) (ap (λ (q : PutResult). q.contents) (sym e)) (put_keeps d t v)

  leaves : d' ≡ layout tl al (abstract_put tl al (decode d) t).held
  leaves = ap (λ (q : PutResult). q.contents) (e ∙ put_valid d t v)

  -- the same terms
  same_terms : (abstract_put tl al (decode d) t).held ≡ decode d → d' ≡ d
  same_terms q = leaves ∙ (ap (layout tl al) q ∙ (valid→ d v).1)

  module _ (a : Added tl al (decode d) t (abstract_put tl al (decode d) t)) where
    -- one term more
    more_terms : decode d' ≡ decode d ++ (t ∷ [])
    more_terms =
        ap decode leaves ∙ (decode_layout tl al (abstract_put tl al (decode d) t).held ∙ a.longer)

    one_more : d'.terms ≡ d.terms + 1
    one_more =
        omega (arith, count d v, count d' v', ap (λ (l : List Term). length l) more_terms, length_snoc (decode d) t)

    names_same : (j : ℕ) → j < d.terms → entry_term d'.table d'.arena j ≡ entry_term d.table d.arena j
    names_same j h =
        entry_names d' v' j (omega (arith, one_more))
        ∙ (ap (λ (l : List Term). term_of l j) more_terms
        ∙ (get_or-append (decode d) (t ∷ []) no_term j (omega (arith, count d v)) ∙ sym (entry_names d v j h)))

    names_new : entry_term d'.table d'.arena d.terms ≡ t
    names_new =
        entry_names d' v' d.terms (omega (arith, one_more))
        ∙ ((λ i. term_of (more_terms i) (count d v i)) ∙ get_or-append_seam (decode d) t [] no_term)

  -- no term more: the index stays
  pub index_kept : r.contents.terms ≤ d.terms → Indexed r.contents hash
  index_kept l = go (put_cases tl al (decode d) t)
    where
      go : Ways tl al (decode d) t (abstract_put tl al (decode d) t) → Indexed d' hash
      go (inl q) = subst (λ (y : Dict). Indexed y hash) (sym (same_terms q)) x
      go (inr a) = absurd (omega (arith, one_more a))

  -- one term more: it is entered
  pub index_more : {g : Digest} {hash' : List ℕ} → d.terms < r.contents.terms → term_refusal t ≡ 0 → g ≡ digest_of t
      → hash' ≡ linked hash g.bucket d.terms → Indexed r.contents hash'
  index_more {g} {hash'} l f h z = go (put_cases tl al (decode d) t)
    where
      entered : (a : Added tl al (decode d) t (abstract_put tl al (decode d) t)) → Hashed d'.table d'.arena hash' d'.terms
      entered a =
          let room = index_room x t f h in
          let b = ap bucket (names_new a) ∙ sym (ap (λ (y : Digest). y.bucket) h) in
          subst (λ (y : List ℕ). Hashed d'.table d'.arena y d'.terms) (sym z)
          (subst (Hashed d'.table d'.arena (linked hash g.bucket d.terms)) (sym (one_more a))
          (hashed_more (rehashed (names_same a) x.hashed) room.1 room.2 b))

      go : Ways tl al (decode d) t (abstract_put tl al (decode d) t) → Indexed d' hash'
      go (inl q) = absurd (omega (arith, ap (λ (y : Dict). y.terms) (same_terms q)))
      go (inr a) = record { unbroken = v'; hashed = entered a }
