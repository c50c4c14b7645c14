-- A term's chain and bucket, computed byte by byte. Assumes nothing.
use mathlib.Core.Path.{◌≡◌, sym, ◌∙◌, ap}
use mathlib.Core.List.{List, [], ◌∷◌}
use Prim.Native.Nat.{ℕ, ◌+◌, ◌*◌, ◌/◌, ◌%◌, ◌≤◌, ◌<◌}
use native.Mathlib.Omega.{arith}
use native.Mathlib.Numerals.{add-one}
use lib.ListN.{length, get_or, drop, drop_of_length-le}
use lib.Seq.{drop-cons}
use Rattle.common.specs.Sizes.{heads_width}
use Rattle.dictionary_layout.specs.declared.values.Digest.{Digest}
use Rattle.dictionary_layout.specs.Terms.{Term, term}
use Rattle.dictionary_layout.specs.Layout.{sum}
use Rattle.dictionary_layout.specs.Digest.{hash_from, bucket, digest_of, bucket_count}

-- after i bytes: what is left gives the same as the whole
pub record Digesting (kind : ℕ) (bytes : List ℕ) (total hash i : ℕ) : Type 0 where
  pub within : i ≤ length bytes
  pub small : total ≤ kind + 255 * i
  pub below : hash < 4294967296
  pub summed : total + sum (drop i bytes) ≡ kind + sum bytes
  pub hashed : hash_from hash (drop i bytes) ≡ hash_from kind bytes

module _ {kind : ℕ} {bytes : List ℕ} where
  pub digest_more : {total hash : ℕ} (i b : ℕ) → i < length bytes → b ≡ get_or bytes i 0 → b < 256
      → Digesting kind bytes total hash i → Digesting kind bytes (total + b) ((hash + b) * 2654435761 % 4294967296) (i + 1)
  unfolding hash_from
  digest_more {total} {hash} i b h e l d = record {
    within = omega arith;
    small = omega (arith, d.small);
    below = omega arith;
    summed = let q = ap sum rest in omega (arith, d.summed, q);
    hashed = sym (ap (hash_from hash) rest) ∙ d.hashed;
  }
    where
      rest : drop i bytes ≡ b ∷ drop (i + 1) bytes
      rest = drop-cons bytes i 0 h ∙ (λ j. sym e j ∷ drop (sym (add-one i) j) bytes)

  pub digest_end : {total hash : ℕ} (i : ℕ) → length bytes ≤ i → Digesting kind bytes total hash i
      → ◌≡◌ {A = Digest} (record { chain = total % 64; bucket = hash / 65536 }) (digest_of (term kind bytes))
  unfolding hash_from
  digest_end {total} {hash} i h d =
      let e : drop i bytes ≡ [] = drop_of_length-le bytes h in
      let s : total ≡ kind + sum bytes = omega (arith, d.summed, ap sum e) in
      let q : hash ≡ hash_from kind bytes = sym (ap (hash_from hash) e) ∙ d.hashed in
      λ j. record { chain = s j % 64; bucket = q j / 65536 }

-- a bucket is below 65,536
hash_below : (h : ℕ) (bytes : List ℕ) → h < 4294967296 → hash_from h bytes < 4294967296
unfolding hash_from
hash_below h [] l = l
hash_below h (b ∷ bs) l = hash_below ((h + b) * 2654435761 % 4294967296) bs (omega arith)

pub bucket_below : (t : Term) → t.kind < 4294967296 → bucket t < bucket_count
bucket_below t h = let q = hash_below t.kind t.bytes h in omega arith

-- a digest's chain is below 64, and its bucket below 65,536
pub chain_below : (t : Term) {d : Digest} → d ≡ digest_of t → d.chain < heads_width
chain_below t e = omega (arith, ap (λ (x : Digest). x.chain) e)

pub digest_bucket : (t : Term) {d : Digest} → t.kind < 4294967296 → d ≡ digest_of t → d.bucket < bucket_count
digest_bucket t h e = omega (arith, ap (λ (x : Digest). x.bucket) e, bucket_below t h)
