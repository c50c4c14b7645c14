-- The findings of the store from what the loops appended: sorted and cleared they are the definition's list, or they do not fit.
-- Assumes nothing.
use mathlib.Core.Path.{◌≡◌, sym, ap, ap₂, subst, ◌∙◌}
use mathlib.Core.Logic.{⊎_elim}
use mathlib.Core.Bool.{Bool, true, false}
use mathlib.Core.List.{List, [], ◌∷◌, ◌++◌}
use Prim.Native.Nat.{ℕ, suc, ◌-◌, ◌*◌, ◌/◌, ◌≤◌, ◌<◌}
use native.Mathlib.Omega.{arith}
use lib.ListN.{length, replicate}
use Rattle.common.specs.Sizes.{finding_width, finding_limit}
use Rattle.common.specs.Triples.{Finding, In, key_finding, Ascending, Distinct, insert_all}
use Rattle.meaning.specs.Closure.{findings, count_of, five_counts}
use Rattle.common.specs.Rows.{flat_findings, filled, cleared}
use Rattle.common.proofs.Lists.{in_nil, in_cons}
use Rattle.common.proofs.Order.{same_list, sub_length, in_insert_all→, in_insert_all_new, ascending_insert_all, insert_distinct}
use Rattle.common.proofs.Order.{finding_tells}
use Rattle.meaning.proofs.Checks.{findings_ascending, findings→, findings←}
use Rattle.store_rows.specs.Rows.{rows, finding_at, finding_rows}
use Rattle.store_rows.proofs.Listed.{listed_none, length_listed}
use Rattle.store_sort.specs.Sorted.{Sorted}
use Rattle.store_sort.proofs.Filled.{findings_left}
use Rattle.engine_checks.specs.declared.Checked.{Checked}
use Rattle.engine_checks.specs.Pairs.{GivenByRows}
use Rattle.engine_checks.specs.Findings.{Ready, Appended, nothing_yet, Checks}
use Rattle.engine_checks.proofs.Pairing.{found→given, given→found}
use Rattle.engine_checks.proofs.Counting.{five_sorted}

-- at the start
pub ready_start : (f : List ℕ) → length f ≤ finding_width * finding_limit → Ready f nothing_yet
unfolding count_of
ready_start f h = record { room = omega arith; few = h; counts = ap five_counts (sym (listed_none (finding_at f))) }

-- an ascending list of what is put in one after the other
sorted : List Finding → List Finding
sorted xs = insert_all key_finding xs []

in_sorted→ : (xs : List Finding) {z : Finding} → In z (sorted xs) → In z xs
unfolding sorted
in_sorted→ xs h = ⊎_elim (λ i. i) (λ i. absurd (in_nil i)) (in_insert_all→ key_finding xs [] h)

in_sorted← : (xs : List Finding) {z : Finding} → In z xs → In z (sorted xs)
unfolding sorted
in_sorted← xs h = in_insert_all_new key_finding finding_tells xs [] h

length_sorted : (xs : List Finding) → Distinct xs → length (sorted xs) ≡ length xs
unfolding sorted
length_sorted xs d = insert_distinct key_finding finding_tells xs [] d (λ x i j. in_nil j) ∙ omega arith

ascending_sorted : (xs : List Finding) → Ascending key_finding (sorted xs)
unfolding sorted
ascending_sorted xs = ascending_insert_all key_finding xs [] tt

-- a finding is one of the list
module _ {l : List ℕ} {n : ℕ} where
  in_findings : {x : Finding} → GivenByRows l n x → In x (findings (rows n l))
  in_findings g = findings← (rows n l) (given→found l n g)

  from_findings : {x : Finding} → In x (findings (rows n l)) → GivenByRows l n x
  from_findings i = found→given l n (findings→ (rows n l) i)

module _ {l : List ℕ} {n : ℕ} {f f₁ : List ℕ} {r : Checked} {w : Bool}
    (p : Appended (GivenByRows l n) f nothing_yet f₁ r w) where
  new_is : finding_rows r.n f₁ ≡ p.new
  new_is = p.records ∙ ap (λ (xs : List Finding). xs ++ p.new) (listed_none (finding_at f))

  new_length : length p.new ≡ r.n
  new_length = ap length (sym new_is) ∙ length_listed r.n (finding_at f₁)

  -- one that does not fit: the findings are more than the records
  too_many : w ≡ true → length f / finding_width < length (findings (rows n l))
  too_many e =
      let o = p.over e in
      let xs : List Finding = o.what ∷ p.new in
      let a : length (sorted xs) ≡ suc (length p.new) = length_sorted xs (o.absent, p.distinct) in
      let b : length (sorted xs) ≤ length (findings (rows n l)) = sub_length key_finding (sorted xs) (findings (rows n l))
      (ascending_sorted xs) (findings_ascending (rows n l))
      (λ z i. in_findings (⊎_elim (λ q. subst (GivenByRows l n) (sym q) o.wanted) (p.sound z) (in_cons (in_sorted→ xs i)))) in
      omega (arith, new_length, o.short, p.same_length)

  pub whole_over : w ≡ true → Checks l n f r w f₁
  whole_over e = record {
    fits = λ h. absurd (let k = too_many e in omega arith);
    over = λ _. e;
    same_length = p.same_length;
  }

  module _ (e : w ≡ false) {f₂ f₃ : List ℕ} (s : Sorted finding_width finding_width r.n f₁ f₂)
      (q : f₃ ≡ cleared (finding_width * r.n) f₂) (long : length f₃ ≡ length f) where
    the_findings : sorted (finding_rows r.n f₁) ≡ findings (rows n l)
    the_findings =
        same_list key_finding (sorted (finding_rows r.n f₁)) (findings (rows n l))
        (ascending_sorted (finding_rows r.n f₁)) (findings_ascending (rows n l))
        (λ z i. in_findings (p.sound z (subst (In z) new_is (in_sorted→ (finding_rows r.n f₁) i))))
        (λ z i. in_sorted← (finding_rows r.n f₁) (subst (In z) (sym new_is) (p.all e z (from_findings i))))

    distinct : Distinct (finding_rows r.n f₁)
    distinct = subst Distinct (sym new_is) p.distinct

    number : r.n ≡ length (findings (rows n l))
    number = sym (length_listed r.n (finding_at f₁)) ∙ sym (length_sorted (finding_rows r.n f₁) distinct) ∙ ap length the_findings

    counted : r.counts ≡ five_counts (findings (rows n l))
    unfolding sorted
    counted = p.ready.counts ∙ sym (five_sorted (finding_rows r.n f₁) distinct) ∙ ap five_counts the_findings

    left : f₃ ≡ filled f (flat_findings (findings (rows n l)))
    unfolding sorted
    left =
        q
        ∙ findings_left p.ready.room distinct s
        ∙ ap₂ (λ (k : ℕ) (xs : List Finding). flat_findings xs ++ replicate (k - length (flat_findings xs)) 0) p.same_length the_findings

    -- THE CHECKS
    pub whole_fits : Checks l n f r w f₃
    whole_fits = record {
      fits = λ _. record { full = e; n = number; counts = counted; filled_in = left };
      over = λ h. absurd (omega (arith, number, p.ready.room, p.same_length));
      same_length = long;
    }
