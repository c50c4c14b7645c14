-- The two numbers that are computed from a term's kind and bytes in one pass: its chain, REFERENCE 2.3, and its bucket in the hash by
-- which the test for a broken dictionary and the reading of a file find equal terms. The bucket shows in no result: any function of the
-- term below 65,536 would serve. Assumes nothing.
use Rattle.std.specs.Prelude.{List, [], ◌∷◌, ℕ, ◌+◌, ◌*◌, ◌/◌, ◌%◌}
use Rattle.dictionary_layout.specs.declared.values.Digest.{Digest}
use Rattle.dictionary_layout.specs.Terms.{Term}
use Rattle.dictionary_layout.specs.Layout.{chain}

-- how many buckets there are
abbrev pub bucket_count : ℕ
bucket_count = 65536

-- the hash of bytes that follow what has the hash h. The product comes last, so that the last byte too counts in the high bits, which are
-- the bucket
unfoldable pub hash_from : ℕ → List ℕ → ℕ
hash_from h [] = h
hash_from h (b ∷ bs) = hash_from ((h + b) * 2654435761 % 4294967296) bs

abbrev pub bucket : Term → ℕ
bucket t = hash_from t.kind t.bytes / 65536

abbrev pub digest_of : Term → Digest
digest_of t = record { chain = chain t; bucket = bucket t }
