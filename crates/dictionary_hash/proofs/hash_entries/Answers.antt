-- `dictionary_hash::hash_entries` meets its contract. Assumes nothing.
use Prim.Native.Nat.{◌+◌}
use native.Mathlib.Omega.{arith}
use Rattle.dictionary_layout.specs.Layout.{entry_at}
use Rattle.dictionary_entries.specs.Entries.{start_of}
use Rattle.dictionary_layout.proofs.Digests.{digest_bucket}
use Rattle.dictionary_hash.proofs.Hashing.{read_term, entered_more}
use Rattle.dictionary_hash.proofs.hash_entries.Goals as goal

pub hash_entry-requires : goal.hash_entry-requires
hash_entry-requires c =
    let k = c.loop-k.k in
    let t = c.args.table.now in
    let small = c.type_inv.table (entry_at k + 2) in (
      c.loop-k.invariant.wide,
      digest_bucket (read_term t c.args.arena.now k (start_of t k)) (omega (arith, small)) c.digest-bucket.ensures,
      omega (arith, c.requires.few),
    )

pub loop-k-preserved : goal.loop-k-preserved
loop-k-preserved c =
    entered_more c.loop-k.invariant (omega (arith, c.requires.few)) (omega (arith, c.type_inv.table (entry_at c.loop-k.k + 2)))
    c.digest-bucket.ensures c.hash_entry.ensures
