-- What valid contents have at an entry behind those that were scanned: each test that fails shows that they are broken. Assumes nothing.
use mathlib.Core.Path.{◌≡◌, sym, ◌∙◌, ap, subst}
use mathlib.Core.Logic.{◌≢◌}
use mathlib.Core.Option.{some}
use mathlib.Core.List.{List}
use Prim.Native.Nat.{ℕ, ◌≤◌, ◌<◌}
use native.Mathlib.Omega.{arith}
use lib.Dec.{T, leb→le}
use lib.ListN.{length, get_or, take, drop, length-take, length-drop}
use lib.Seq.{get_or-take}
use Rattle.common.specs.Sizes.{term_limit, heads_width}
use Rattle.dictionary_layout.specs.Terms.{Term, no_term}
use Rattle.dictionary_layout.specs.Layout.{Dict, dict, chain, size, decode}
use Rattle.dictionary_layout.specs.Dictionary.{place_of, kind_known, short, term_of, valid}
use Rattle.dictionary_entries.specs.Entries.{start_of, length_of, next_of, entry_term}
use Rattle.dictionary_valid.specs.Scanning.{named, Scanned, Follows}
use Rattle.dictionary_layout.proofs.Chains.{prev, all_heads_prev, prev_same}
use Rattle.dictionary_layout.proofs.Distinct.{holds_well, at_in}
use Rattle.dictionary_entries.proofs.Reading.{held, count, entry, entry_names, entry_fits}
use Rattle.dictionary_layout.proofs.Walking.{holds_fresh, index_of}
use Rattle.dictionary_entries.proofs.Putting.{kind_facts}
use Rattle.dictionary_valid.proofs.Naming.{named_length, named_take}
use Rattle.dictionary_valid.proofs.Scanning.{scanned_head}

module _ {table arena heads : List ℕ} {k at : ℕ} (s : Scanned table arena heads k at) (n used : ℕ) (l : k < n)
    (v : T (valid (dict table arena n used))) where
  abbrev d : Dict
  d = dict table arena n used

  abbrev t : Term
  t = entry_term table arena k

  before : take k (decode d) ≡ named table arena k
  unfolding decode
  before = named_take table arena k n (omega arith)

  long : k < length (decode d)
  long = omega (arith, count d v)

  names : t ≡ term_of (decode d) k
  names = entry_names d v k l

  start : start_of table k ≡ at
  start = (entry d v k l).start ∙ (ap size before ∙ sym s.used)

  well : T (kind_known t) × T (short t)
  well =
      subst (λ (x : Term). T (kind_known x) × T (short x)) (sym names)
      (holds_well (length table) (length arena) (decode d) (held d v) (term_of (decode d) k) (at_in (decode d) k long))

  -- its bytes begin where those before it end, and its length and its kind are a term's
  pub valid_follows : Follows table arena k at
  valid_follows =
      let fits = (entry_fits d v k l).part in
      let (low, high) = kind_facts t well.0 in
      let bytes = drop (start_of table k) arena in
      record {
        start = start;
        short = omega (
          arith,
          leb→le (length t.bytes) term_limit well.1,
          length-take (length_of table k) bytes,
          length-drop (start_of table k) arena,
          fits,
        );
        part = omega (arith, fits, start);
        low = low;
        high = high;
      }

  -- the next id is the chain's head so far
  pub valid_next : heads_width ≤ length heads → next_of table k ≡ get_or heads (chain t) 0
  valid_next r =
      (entry d v k l).next
      ∙ (ap (λ (x : Term). prev (decode d) (chain x) k) (sym names)
      ∙ (sym (prev_same (decode d) (named table arena k) (chain t) k same)
      ∙ (ap (prev (named table arena k) (chain t)) (sym (named_length table arena k))
      ∙ (sym (all_heads_prev (named table arena k) (chain t)) ∙ sym (scanned_head s (chain t) (omega arith) r)))))
    where
      same : (j : ℕ) → j < k → term_of (named table arena k) j ≡ term_of (decode d) j
      same j h = ap (λ (x : List Term). term_of x j) (sym before) ∙ get_or-take k (decode d) j no_term h

  -- no entry before names the same term
  pub valid_fresh : (j : ℕ) → j < k → entry_term table arena j ≢ t
  valid_fresh j h e =
      let f = holds_fresh (length table) (length arena) (decode d) (held d v) in
      let p = index_of (decode d) j f (omega (arith, long)) in
      let q = index_of (decode d) k f long in
      let r : term_of (decode d) j ≡ term_of (decode d) k = sym (entry_names d v j (omega arith)) ∙ (e ∙ names) in
      let w : some j ≡ some k = sym p ∙ (ap (λ (x : Term). place_of x (decode d)) r ∙ q) in
      let z : j ≡ k = cc in
      omega arith
