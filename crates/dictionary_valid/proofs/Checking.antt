-- The tests of one entry, and of all of them, in the order of the code. Assumes nothing.
use mathlib.Core.Path.{◌≡◌, sym, ◌∙◌, ap, subst}
use mathlib.Core.Logic.{◌≢◌}
use mathlib.Core.Bool.{Bool, false}
use Rattle.std.specs.Prelude.{IsTrue, ◌↔◌}
use Rattle.common.specs.declared.Id.{Id}
use mathlib.Core.List.{List}
use Prim.Native.Nat.{ℕ, ◌+◌, ◌≤◌, ◌<◌}
use native.Mathlib.Omega.{arith}
use lib.ListN.{length, get_or, set}
use Rattle.common.specs.Sizes.{heads_width, entry_limit}
use Rattle.dictionary_layout.specs.declared.values.Digest.{Digest}
use Rattle.dictionary_layout.specs.Terms.{Term, start_count}
use Rattle.dictionary_layout.specs.Layout.{chain}
use Rattle.dictionary_entries.specs.Entries.{length_of, next_of, entry_term}
use Rattle.dictionary_layout.specs.Digest.{bucket, digest_of, bucket_count}
use Rattle.dictionary_hash.specs.Hashing.{Hashed, linked, Seekable, Hashable}
use Rattle.dictionary_valid.specs.Scanning.{Scanned, Scanning, Broken, Follows}
use Rattle.dictionary_layout.proofs.Choice.{true_false}
use Rattle.dictionary_layout.proofs.Digests.{digest_bucket}
use Rattle.dictionary_hash.proofs.Hashing.{read_term, read_is, hashed_more}
use Rattle.dictionary_valid.proofs.Scanning.{scanned_limits, scanned_fits, scanned_short, Tested, scanned_more}
use Rattle.dictionary_valid.proofs.Refusing.{valid_follows, valid_next, valid_fresh}

module _ {table arena heads hash : List ℕ} {k at : ℕ} (s : Scanning table arena heads hash k at) where
  abbrev t : Term
  t = entry_term table arena k

  pub few : k < entry_limit
  few = omega (arith, s.entry, (scanned_limits s.scanned).0)

  -- its numbers are no term's
  pub numbers_broken : {b : Bool} → IsTrue b ↔ Follows table arena k at → b ≡ false → (n : ℕ) → k < n → Broken table arena n
  numbers_broken w e n l used v = true_false (sym (w.1 (valid_follows s.scanned n used l v)) ∙ e)

  module _ (f : Follows table arena k at) {d : Digest} (g : d ≡ digest_of (read_term table arena k at)) where
    is : read_term table arena k at ≡ t
    is = read_is table arena k at f.start

    chained : d.chain ≡ chain t
    chained = ap (λ (x : Digest). x.chain) g ∙ ap chain is

    keyed : d.bucket ≡ bucket t
    keyed = ap (λ (x : Digest). x.bucket) g ∙ ap bucket is

    pub bucket_small : d.bucket < bucket_count
    bucket_small = digest_bucket (read_term table arena k at) (omega (arith, f.high)) g

    -- what the search needs
    pub seekable : Seekable table arena hash k (read_term table arena k at) d.bucket
    seekable = record {
      hashed = s.hashed;
      fits = scanned_fits s.scanned;
      few = omega (arith, few);
      key = ap (λ (x : Digest). x.bucket) g;
      below = bucket_small;
    }

    -- the chain's head is another
    pub next_broken : heads_width ≤ length heads → next_of table k ≢ get_or heads d.chain 0 → (n : ℕ) → k < n
        → Broken table arena n
    next_broken h w n l used v = w (valid_next s.scanned n used l v h ∙ ap (λ (c : ℕ). get_or heads c 0) (sym chained))

    -- an entry before names the term
    pub seen_broken : {i : Id} → (i.0 < k) × (entry_term table arena i.0 ≡ read_term table arena k at) → (n : ℕ) → k < n
        → Broken table arena n
    seen_broken {i} w n l used v = valid_fresh s.scanned n used l v i.0 w.0 (w.1 ∙ is)

    -- every test passed
    pub entry_passed : {hash' : List ℕ} → heads_width ≤ length heads → next_of table k ≡ get_or heads d.chain 0
        → ((j : ℕ) → j < k → entry_term table arena j ≡ read_term table arena k at → ⊥) → hash' ≡ linked hash d.bucket k
        → Scanned table arena (set heads d.chain k) (k + 1) (at + length_of table k) × Hashed table arena hash' (k + 1)
    entry_passed room e w hs = (
      subst (λ (x : ℕ). Scanned table arena (set heads x k) (k + 1) (at + length_of table k)) (sym chained)
          (scanned_more s.scanned tested),
      subst (λ (x : List ℕ). Hashed table arena x (k + 1)) (sym hs)
          (hashed_more s.hashed bucket_small (omega (arith, few)) (sym keyed)),
    )
      where
        tested : Tested s.scanned
        tested = record {
          entry = s.entry;
          follows = f;
          next = e ∙ ap (λ (x : ℕ). get_or heads x 0) chained;
          fresh = λ j l p. w j l (p ∙ sym is);
          room = room;
        }

-- THE START'S ENTRIES can be entered in a hash
pub start_hashable : {table arena heads hash : List ℕ} {at : ℕ} → Scanned table arena heads start_count at → Hashed table arena hash 0
    → Hashable table arena hash start_count
start_hashable s h = record { empty = h; fits = scanned_fits s; short = scanned_short s; few = omega arith }

-- ALL ENTRIES, of which k are scanned
pub record ScanState (table arena heads hash : List ℕ) (k at : ℕ) : Type 0 where
  pub scanned : Scanned table arena heads k at
  pub hashed : Hashed table arena hash k
