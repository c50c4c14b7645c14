-- Refusals 1 to 7 of a run, in order, and the put of its three terms where none is met. REFERENCE 1.6 and 2.6. Assumes nothing.
use Rattle.std.specs.Prelude.{ℕ, zero, suc}
use Rattle.dictionary_layout.specs.Layout.{Dict}
use Rattle.dictionary_layout.specs.Calls.{on_valid}
use Rattle.dictionary_run_terms.specs.Calls.{run_term_ids, RunTermsResult, run_terms_result, run_terms_give}
use Rattle.driver_refusals.specs.Lent.{Lent}
use Rattle.driver_refusals.specs.RunRefusals.{first_refusal, run_refusals}

-- refused, with the contents as they were
abbrev pub not_admitted : ℕ → Dict → RunTermsResult
not_admitted n d = run_terms_result n (run_term_ids 0 0 0) d

-- by the first refusal of 2 to 6
abbrev pub admitted : ℕ → Dict → RunTermsResult
admitted zero d = run_terms_give d
admitted (suc n) d = not_admitted (suc n) d

-- THE ADMISSION: the number, the ids of the three terms, and the contents as they are left
unfoldable pub admission : Dict → Lent → RunTermsResult
admission d b = on_valid d (λ tl al ts. admitted (first_refusal (run_refusals d.terms b)) d) (λ _. not_admitted 1 d)
