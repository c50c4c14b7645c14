-- A put in steps: for the contracts of the functions that it is made of. Assumes nothing.
use Rattle.std.specs.Prelude.{◌≡◌, ℕ, T, Option}
use Rattle.common.specs.declared.Id.{Id}
use Rattle.common.specs.Triples.{if}
use Rattle.dictionary_layout.specs.Terms.{Term}
use Rattle.dictionary_layout.specs.Layout.{Dict, chain, decode}
use Rattle.dictionary_layout.specs.Dictionary.{place_of, kind_known, short, valid}
use Rattle.dictionary_entries.specs.Entries.{id_found}

-- the number by which a put refuses a term, whatever is held, or 0
unfoldable pub term_refusal : Term → ℕ
term_refusal t = if (kind_known t) (λ _. if (short t) (λ _. 0) (λ _. 11)) (λ _. 10)

-- a term that was sought in a dictionary that is not broken: c is its chain, r its id where it is held
pub record Found (d : Dict) (t : Term) (c : ℕ) (r : Option Id) : Type 0 where
  pub unbroken : T (valid d)
  pub accepted : term_refusal t ≡ 0
  pub chained : c ≡ chain t
  pub place : id_found r ≡ place_of t (decode d)
