-- Tests of a whole load, and a table of refusals of which none is met. Assumes nothing.
use mathlib.Core.Path.{◌≡◌, refl, sym, subst, ◌∙◌}
use mathlib.Core.Logic.{◌⊎◌, inl, inr}
use mathlib.Core.Bool.{Bool, true, false, ◌&&◌, not}
use mathlib.Core.List.{List, [], ◌∷◌}
use Prim.Native.Nat.{ℕ, ◌<◌}
use Rattle.std.specs.List.{AllPass, list_all}
use Rattle.std.proofs.Common.{◌↔◌}
use Rattle.std.proofs.lemmas.List.Sums.{AllPass-from_list_all, list_all-from_AllPass}
use native.Mathlib.Omega.{arith}
use lib.Dec.{T, ltb, ltb→lt}
use Rattle.common.specs.Triples.{Triple, triple, In, if, all}
use Rattle.common.specs.Rows.{triples}
use Rattle.common.proofs.Lists.{in_nil, in_cons, and→}
use Rattle.driver_refusals.specs.RunRefusals.{Refusal, first_refusal}

-- a test of all elements is std's
all_elements : (f : ℕ → Bool) (l : List ℕ) → list_all f l ≡ all f l
all_elements f [] = refl
all_elements f (x ∷ l) = both (f x) (all_elements f l)
  where
    both : (b : Bool) → list_all f l ≡ all f l → (b && list_all f l) ≡ if b (λ _. all f l) (λ _. false)
    both true e = e
    both false e = refl

-- and what is true exactly where each element passes it is the test
pub all_pass : (f : ℕ → Bool) (l : List ℕ) (b : Bool) → (b ≡ true ↔ AllPass f l) → b ≡ all f l
all_pass f l b h =
    go b (list_all f l) (λ e. list_all-from_AllPass f l (h.0 e)) (λ e. h.1 (AllPass-from_list_all f l e)) ∙ all_elements f l
  where
    go : (a b : Bool) → (a ≡ true → b ≡ true) → (b ≡ true → a ≡ true) → a ≡ b
    go true b f g = sym (f refl)
    go false true f g = g refl
    go false false f g = refl

-- no refusal of a table of them
abbrev pub Unmet : List Refusal → Type 0
Unmet [] = Unit {0}
Unmet (s ∷ r) = T (not s.met) × Unmet r

abbrev pub numbered : List Refusal → Bool
numbered [] = true
numbered (s ∷ r) = ltb 0 s.number && numbered r

pub unmet_all : (r : List Refusal) → T (numbered r) → first_refusal r ≡ 0 → Unmet r
unmet_all [] n e = tt
unmet_all (s ∷ r) n e =
    let (a, c) = and→ (ltb 0 s.number) (numbered r) n in
    go s.met (ltb→lt 0 s.number a) e (unmet_all r c)
  where
    go : (b : Bool) → 0 < s.number → (if b (λ _. s.number) (λ _. first_refusal r)) ≡ 0 → (first_refusal r ≡ 0 → Unmet r)
        → T (not b) × Unmet r
    go true a e k = absurd (omega arith)
    go false a e k = (tt, k e)

pub not_not : (b : Bool) → T (not (not b)) → T b
not_not true h = tt
not_not false h = absurd h

-- ids of a load
pub all_in : (f : ℕ → Bool) (l : List ℕ) → T (all f l) → (t : Triple) → In t (triples l) → T (f t.s) × T (f t.p) × T (f t.o)
all_in f [] h t i = absurd (in_nil i)
all_in f (a ∷ []) h t i = absurd (in_nil i)
all_in f (a ∷ b ∷ []) h t i = absurd (in_nil i)
all_in f (a ∷ b ∷ c ∷ r) h t i =
    let (x, h₁) = one a (b ∷ c ∷ r) h in
    let (y, h₂) = one b (c ∷ r) h₁ in
    let (z, h₃) = one c r h₂ in
    go x y z (in_cons i) (λ j. all_in f r h₃ t j)
  where
    one : (a : ℕ) (l : List ℕ) → T (all f (a ∷ l)) → T (f a) × T (all f l)
    one a l h = pick (f a) h
      where
        pick : (b : Bool) → T (if b (λ _. all f l) (λ _. false)) → T b × T (all f l)
        pick true h = (tt, h)
        pick false h = absurd h

    go : T (f a) → T (f b) → T (f c) → (t ≡ triple a b c) ⊎ In t (triples r)
        → (In t (triples r) → T (f t.s) × T (f t.p) × T (f t.o)) → T (f t.s) × T (f t.p) × T (f t.o)
    go x y z (inl e) k = subst (λ (u : Triple). T (f u.s) × T (f u.p) × T (f u.o)) (sym e) (x, y, z)
    go x y z (inr j) k = k j
