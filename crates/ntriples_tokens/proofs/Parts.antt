-- Parts of a list, by one element more or less. Assumes nothing.
use mathlib.Core.Path.{◌≡◌, refl, sym, ap, ◌∙◌}
use mathlib.Core.List.{List, [], ◌∷◌, ◌++◌}
use Prim.Native.Nat.{ℕ, suc, ◌+◌, ◌-◌, ◌≤◌, ◌<◌}
use native.Mathlib.Omega.{arith}
use lib.ListN.{length, get_or, take, drop, length-drop}
use lib.Seq.{take-suc, take-add, get_or-drop, take_all, drop-cons, drop_at, length-take-le}
use Rattle.ntriples_tokens.specs.Promises.{part}

-- an empty part
pub part_none : (cs : List ℕ) (at : ℕ) → part cs at at ≡ []
part_none cs at = let e : at - at ≡ 0 = omega arith in ap (λ n. take n (drop at cs)) e

-- one element more at the end
pub part_suc : (cs : List ℕ) (at i : ℕ) → at ≤ i → i < length cs → part cs at (i + 1) ≡ part cs at i ++ (get_or cs i 0 ∷ [])
part_suc cs at i h l =
    let e : (i + 1) - at ≡ suc (i - at) = omega arith in
    let k : i - at < length (drop at cs) = simp length-drop (omega arith) in
    let g : get_or (drop at cs) (i - at) 0 ≡ get_or cs i 0 = get_or-drop at cs (i - at) 0 ∙ ap (λ n. get_or cs n 0) (omega arith) in
    ap (λ n. take n (drop at cs)) e ∙ (take-suc (drop at cs) (i - at) 0 k ∙ ap (λ c. take (i - at) (drop at cs) ++ (c ∷ [])) g)

-- the first element, and the rest
pub part_cons : (cs : List ℕ) (i end : ℕ) → i < end → end ≤ length cs → part cs i end ≡ get_or cs i 0 ∷ part cs (suc i) end
part_cons cs i end h l =
    let e : end - i ≡ suc (end - suc i) = omega arith in
    ap (λ n. take n (drop i cs)) e ∙ ap (λ l. take (suc (end - suc i)) l) (drop-cons cs i 0 (omega arith))

-- its length
pub part_length : (cs : List ℕ) (at end : ℕ) → end ≤ length cs → length (part cs at end) ≡ end - at
part_length cs at end h = length-take-le (end - at) (drop at cs) (simp length-drop (omega arith))

-- what stands behind the first `used` elements
pub part_behind : (old new bs : List ℕ) (used n : ℕ) → used ≤ n → used ≤ length old → used ≤ length new → take n new ≡ take used old ++ bs
    → part new used n ≡ bs
part_behind old new bs used n h k l e =
    let s : used + (n - used) ≡ n = omega arith in
    sym (drop_at (take used new) (part new used n) used (length-take-le used new l))
    ∙ (ap (drop used) (sym (take-add used (n - used) new) ∙ (ap (λ m. take m new) s ∙ e))
    ∙ drop_at (take used old) bs used (length-take-le used old k))

-- what is left from a place on,
pub part_all : (cs : List ℕ) (at : ℕ) → part cs at (length cs) ≡ drop at cs
part_all cs at = take_all (length cs - at) (drop at cs) (simp length-drop (omega arith))

-- an element of it,
pub char_at : (cs : List ℕ) (at k j : ℕ) → k < length (part cs at (length cs)) → j ≡ at + k → get_or (part cs at (length cs)) k 0
    ≡ get_or cs j 0
char_at cs at k j h e = ap (λ l. get_or l k 0) (part_all cs at) ∙ (get_or-drop at cs k 0 ∙ ap (λ n. get_or cs n 0) (sym e))

-- and its first n
pub part_front : (cs : List ℕ) (at n : ℕ) → take (n - 0) (part cs at (length cs)) ≡ take n (drop at cs)
part_front cs at n = let e : n - 0 ≡ n = omega arith in rw (e, part_all cs at) refl
