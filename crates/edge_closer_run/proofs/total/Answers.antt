-- `total` meets its contract. Assumes nothing.
use Rattle.std.proofs.Common.{◌≡◌, ℕ, List, sum, sym, refl, ◌∙◌, arith}
use Rattle.std.proofs.lemmas.Iterator.{YieldsList-from_slice}
use Rattle.std.proofs.lemmas.List.Recursion.{is_sum_by}
use Rattle.std.proofs.lemmas.Iterator.Consumers.{sum_from_yields_List, fits_from_yields_list}
use Rattle.meaning.specs.Closure.{total}
use Rattle.edge_closer_run.proofs.total.Goals as goal

-- a total is std's sum
total_sum : (l : List ℕ) → total l ≡ sum l
total_sum l = is_sum_by total (λ n. n) refl (λ n ns. refl) l

pub sum-requires-clause-fits : goal.sum-requires-clause-fits
sum-requires-clause-fits c =
    fits_from_yields_list c.iter.result _ (YieldsList-from_slice c.args.counts c.iter.ensures.rest)
    (omega (arith, total_sum c.args.counts))

pub returns : goal.returns
returns c =
    sum_from_yields_List c.iter.result _ c.sum.ensures.ran (YieldsList-from_slice c.args.counts c.iter.ensures.rest)
    ∙ sym (total_sum c.args.counts)
