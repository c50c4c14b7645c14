-- A start or a put that is accepted: its answer is Ok, with the counters, and a put's id, of what it gives. Assumes nothing.
use Rattle.std.specs.Prelude.{◌≡◌, Result, Ok, Err, IsOk, List, ℕ}
use Rattle.std.proofs.Common.{refl, ◌∙◌, ap, subst}
use Rattle.common.specs.declared.refusal.Refusal.{Refusal}
use Rattle.common.proofs.Refusals.{numbered}
use Rattle.dictionary_layout.specs.declared.values.Counters.{Counters}
use Rattle.dictionary_layout.specs.Values.{contents}
use Rattle.dictionary_layout.specs.Calls.{StartResult, start_result, PutResult, put_result}
use Rattle.dictionary_index.specs.declared.values.PutNext.{PutNext}
use Rattle.dictionary_index.specs.Values.{start_left, put_left}

pub start_accepted : (r : Result Counters Refusal) (t a : List ℕ) {y : StartResult} → start_left r t a ≡ y → y.number ≡ 0 → IsOk r
start_accepted (Ok c) t a e z = refl
start_accepted (Err r) t a e z = absurd (numbered r (ap (λ (x : StartResult). x.number) e ∙ z))

pub start_next : {r : Result Counters Refusal} {c : Counters} (t a : List ℕ) {y : StartResult} → r ≡ Ok c → start_left r t a ≡ y
    → start_result 0 (contents t a c) ≡ y
start_next t a {y} e f = subst (λ (x : Result Counters Refusal). start_left x t a ≡ y) e f

pub put_accepted : (c : Counters) (r : Result PutNext Refusal) (t a : List ℕ) {y : PutResult} → put_left c r t a ≡ y
    → y.number ≡ 0 → IsOk r
put_accepted c (Ok p) t a e z = refl
put_accepted c (Err r) t a e z = absurd (numbered r (ap (λ (x : PutResult). x.number) e ∙ z))

pub put_next : (c : Counters) {r : Result PutNext Refusal} {p : PutNext} (t a : List ℕ) {y : PutResult} → r ≡ Ok p
    → put_left c r t a ≡ y → put_result 0 p.id.0 (contents t a p.counters) ≡ y
put_next c t a {y} e f = subst (λ (x : Result PutNext Refusal). put_left c x t a ≡ y) e f
