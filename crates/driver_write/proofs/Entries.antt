-- The terms of a dictionary that is not broken, as the code reads them by their entries, and how long their texts are. Assumes nothing.
use mathlib.Core.Path.{◌≡◌, refl, sym, ◌∙◌, ap, subst}
use mathlib.Core.Option.{Option, some, none}
use mathlib.Core.List.{List}
use Prim.Native.Nat.{ℕ, ◌+◌, ◌*◌, ◌-◌, ◌≤◌, ◌<◌}
use native.Mathlib.Omega.{arith}
use lib.Dec.{T}
use lib.ListN.{length, take, drop}
use Rattle.common.specs.Sizes.{term_limit}
use Rattle.common.proofs.Filling.{Filled}
use Rattle.dictionary_layout.specs.Terms.{Term, term}
use Rattle.dictionary_layout.specs.Layout.{Dict, decode}
use Rattle.dictionary_layout.specs.Dictionary.{term_of, valid}
use Rattle.dictionary_entries.specs.Entries.{start_of, length_of, kind_of}
use Rattle.dictionary_entries.proofs.Reading.{count, entry_names, term_short}
use Rattle.ntriples_utf8.specs.Promises.{Wrote}
use Rattle.ntriples_canonical.specs.Writing.{term_text}
use Rattle.ntriples_text.specs.Promises.{or_nothing, text_size, text_length, Measurable, TextFits}
use Rattle.std.specs.Option.{unwrap_or}
use Rattle.std.specs.Prelude.{Option as Maybe}
use Rattle.driver_write.specs.Lines.{Measured, Roomed}
use Rattle.ntriples_canonical.proofs.Bytes.{text_short}

-- the most bytes of a term's text
abbrev pub text_limit : ℕ
text_limit = 2 * term_limit + 4

short_text : (t : Term) → length t.bytes ≤ term_limit → text_length t ≤ text_limit
short_text t h = go (term_text t) refl
  where
    go : (o : Option (List ℕ)) → term_text t ≡ o → length (or_nothing o) ≤ text_limit
    go none e = omega arith
    go (some x) e = omega (arith, text_short t x e)

module _ (d : Dict) (v : T (valid d)) (i : ℕ) (h : i < d.terms) where
  -- the bytes that the code cuts out of the arena
  abbrev part : List ℕ
  part = take (start_of d.table i + length_of d.table i - start_of d.table i) (drop (start_of d.table i) d.arena)

  -- with the kind that it reads they are the term
  pub entry_is_term : term (kind_of d.table i) part ≡ term_of (decode d) i
  entry_is_term =
      let q : start_of d.table i + length_of d.table i - start_of d.table i ≡ length_of d.table i = omega arith in
      ap (λ (n : ℕ). term (kind_of d.table i) (take n (drop (start_of d.table i) d.arena))) q ∙ entry_names d v i h

  pub entry_kind : kind_of d.table i ≡ (term_of (decode d) i).kind
  entry_kind = ap (λ (t : Term). t.kind) entry_is_term

  -- and can be measured
  pub entry_measurable : {chars : List ℕ} → term_limit ≤ length chars → Measurable part chars
  entry_measurable r =
      record { short = omega (arith, ap (λ (t : Term). length t.bytes) entry_is_term, term_short d v i h); room = r }

  pub entry_length : {r : Maybe ℕ} → r ≡ text_size (term_text (term (kind_of d.table i) part))
      → r ≡ text_size (term_text (term_of (decode d) i))
  entry_length e = e ∙ ap (λ t. text_size (term_text t)) entry_is_term

  -- and written
  pub entry_fits_page : {at : ℕ} {page : List ℕ} → TextFits (term_text (term_of (decode d) i)) at page
      → TextFits (term_text (term (kind_of d.table i) part)) at page
  entry_fits_page {at} {page} f = subst (λ (t : Term). TextFits (term_text t) at page) (sym entry_is_term) f

  pub entry_wrote : {old : List ℕ} {at : ℕ} {new : List ℕ} {next : ℕ}
      → Wrote old at (or_nothing (term_text (term (kind_of d.table i) part))) new next
      → Wrote old at (or_nothing (term_text (term_of (decode d) i))) new next
  entry_wrote {old} {at} {new} {next} w = subst (λ (t : Term). Wrote old at (or_nothing (term_text t)) new next) entry_is_term w

  pub length_short : text_length (term_of (decode d) i) ≤ text_limit
  length_short = short_text (term_of (decode d) i) (term_short d v i h)

-- the number that is noted for a length
pub noted_as : (t : Term) {r : Maybe ℕ} → r ≡ text_size (term_text t) → unwrap_or r 0 ≡ text_length t
noted_as t e = ap (λ o. unwrap_or o 0) e ∙ go (term_text t)
  where
    go : (o : Option (List ℕ)) → unwrap_or (text_size o) 0 ≡ length (or_nothing o)
    go none = refl
    go (some l) = refl

-- THE LENGTHS of all terms, when each is written
pub lengths_written : {d : Dict} {lengths₀ lengths chars : List ℕ} {i : ℕ} → Roomed d lengths₀ chars
    → Filled (λ (k : ℕ). text_length (term_of (decode d) k)) lengths₀ lengths i → d.terms ≤ i → Measured (decode d) d.terms lengths
lengths_written {d} r f h = record {
  room = omega (arith, r.lengths, f.long);
  each = λ k l. f.each k (omega arith) (omega (arith, r.lengths, count d r.unbroken));
}
