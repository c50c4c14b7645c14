-- Whether the terms that a run puts fit: for the contracts of the functions that count them. Assumes nothing.
use Rattle.std.specs.Prelude.{Bool, true, false, List, ℕ, ◌+◌, ◌≤◌, T, length}
use Rattle.std.proofs.Math.Option.{Option, some, none}
use Rattle.common.specs.Sizes.{term_limit}
use Rattle.dictionary_layout.specs.declared.values.Counters.{Counters}
use Rattle.dictionary_layout.specs.Terms.{Term}
use Rattle.dictionary_layout.specs.Layout.{Dict}
use Rattle.dictionary_layout.specs.Dictionary.{place_of, valid, AllPut, full, all_put}

-- counters with a term added, unless it has a place already
abbrev pub count_at : Option ℕ → Term → Counters → Counters
count_at (some i) t c = c
count_at none t c = record { terms = c.terms + 1; used = c.used + length t.bytes }

abbrev pub counted : List Term → Term → Counters → Counters
counted ts t c = count_at (place_of t ts) t c

-- what counting needs: an IRI that a term may have, and counters that do not overflow
pub record Countable (d : Dict) (iri : List ℕ) (sum : Counters) : Type 0 where
  pub unbroken : T (valid d)
  pub short : length iri ≤ term_limit
  pub terms : sum.terms ≤ 100000
  pub used : sum.used ≤ 2000000

abbrev pub is_all_put : AllPut → Bool
is_all_put full = false
is_all_put (all_put us) = true
