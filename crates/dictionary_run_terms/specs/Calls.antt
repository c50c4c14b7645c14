-- What the put of a run's three terms gives, and what it leaves in the buffers that it is lent. Assumes nothing.
use Rattle.std.specs.Prelude.{Result, Ok, Err, List, ℕ, length}
use Rattle.common.specs.declared.refusal.Refusal.{Refusal}
use Rattle.common.specs.Refusals.{number_of}
use Rattle.dictionary_layout.specs.declared.values.Counters.{Counters}
use Rattle.dictionary_layout.specs.Terms.{Term, property_term, membership_term, member_term, run_terms}
use Rattle.dictionary_layout.specs.Layout.{Dict, layout, decode}
use Rattle.dictionary_layout.specs.Dictionary.{place_of, id_of, AllPut, full, all_put, put_all}
use Rattle.dictionary_layout.specs.Values.{contents}
use Rattle.dictionary_run_terms.specs.declared.values.RunTermIds.{RunTermIds}
use Rattle.dictionary_run_terms.specs.declared.values.RunTerms.{RunTerms}

-- the three ids, from their numbers, and those that the terms ts give
abbrev pub run_term_ids : ℕ → ℕ → ℕ → RunTermIds
run_term_ids p q r = record { property = record { 0 = p }; membership = record { 0 = q }; member = record { 0 = r } }

abbrev pub ids_in : List Term → RunTermIds
ids_in ts = run_term_ids (id_of (place_of property_term ts)) (id_of (place_of membership_term ts)) (id_of (place_of member_term ts))

-- THE TERMS THAT A RUN PUTS: the number, their ids, and the contents as they are left
pub record RunTermsResult : Type 0 where
  pub number : ℕ
  pub ids : RunTermIds
  pub contents : Dict

abbrev pub run_terms_result : ℕ → RunTermIds → Dict → RunTermsResult
run_terms_result n i d = record { number = n; ids = i; contents = d }

abbrev pub run_terms_laid : ℕ → ℕ → List Term → AllPut → RunTermsResult
run_terms_laid tl al ts full = run_terms_result 7 (run_term_ids 0 0 0) (layout tl al ts)
run_terms_laid tl al ts (all_put us) = run_terms_result 0 (ids_in us) (layout tl al us)

-- in a dictionary that is not broken
unfoldable pub run_terms_give : Dict → RunTermsResult
run_terms_give d =
    let tl = length d.table in
    let al = length d.arena in
    run_terms_laid tl al (decode d) (put_all tl al (decode d) run_terms)

-- the answer of the code, which was given the counters c, with the table and the arena as they are left
abbrev pub run_terms_left : Counters → Result RunTerms Refusal → List ℕ → List ℕ → RunTermsResult
run_terms_left c (Ok r) t a = run_terms_result 0 r.ids (contents t a r.counters)
run_terms_left c (Err e) t a = run_terms_result (number_of e) (run_term_ids 0 0 0) (contents t a c)
