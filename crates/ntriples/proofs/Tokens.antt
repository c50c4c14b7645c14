-- Tests of characters: one of a list, each of a list, and those of a language tag. Assumes nothing.
use mathlib.Core.Path.{sym, subst}
use mathlib.Core.Logic.{◌⊎◌, inl, inr}
use mathlib.Core.Bool.{Bool, true, false, ◌&&◌, ◌||◌, not}
use mathlib.Core.List.{List, [], ◌∷◌, ◌++◌}
use Prim.Native.Nat.{ℕ}
use lib.Dec.{T, eqb, eqb→eq}
use Rattle.common.specs.Triples.{if}
use Rattle.common.proofs.Lists.{and→, and←}
use Rattle.ntriples.specs.Characters.{letter, digit, one_of, all, tag_char, tag_from, tag}
use Rattle.ntriples.proofs.Tests.{if_ind, or→, or_left, or_right}

-- one of a list is its first or one of the others
pub one_of→ : (c d : ℕ) (ds : List ℕ) → T (one_of (d ∷ ds) c) → T (eqb c d) ⊎ T (one_of ds c)
unfolding one_of
one_of→ c d ds h = go (eqb c d) h
  where
    go : (b : Bool) → T (if b (λ _. true) (λ _. one_of ds c)) → T b ⊎ T (one_of ds c)
    go true h = inl tt
    go false h = inr h

-- nothing is one of no list
pub one_of_none : (c : ℕ) → T (one_of [] c) → ⊥
unfolding one_of
one_of_none c h = h

-- EACH OF A LIST: of two lists one after the other, of one of them alone, and by a weaker test
module _ (f : ℕ → Bool) where
  pub all_append : (a b : List ℕ) → T (all f a) → T (all f b) → T (all f (a ++ b))
  all_append [] b h k = k
  all_append (c ∷ a) b h k = let (i, j) = and→ (f c) (all f a) h in and← (f c) (all f (a ++ b)) i (all_append a b j k)

  pub all_left : (a b : List ℕ) → T (all f (a ++ b)) → T (all f a)
  all_left [] b h = tt
  all_left (c ∷ a) b h = let (i, j) = and→ (f c) (all f (a ++ b)) h in and← (f c) (all f a) i (all_left a b j)

  pub all_right : (a b : List ℕ) → T (all f (a ++ b)) → T (all f b)
  all_right [] b h = h
  all_right (c ∷ a) b h = all_right a b (and→ (f c) (all f (a ++ b)) h).1

pub all_map : (f g : ℕ → Bool) (a : List ℕ) → ((c : ℕ) → T (f c) → T (g c)) → T (all f a) → T (all g a)
all_map f g [] k h = tt
all_map f g (c ∷ a) k h = let (i, j) = and→ (f c) (all f a) h in and← (g c) (all g a) (k c i) (all_map f g a k j)

-- the characters of a LANGTAG
pub tag_chars : (letters seen : Bool) (cs : List ℕ) → T (tag_from letters seen cs) → T (all tag_char cs)
unfolding tag_from
tag_chars letters seen [] h = tt
tag_chars letters seen (c ∷ cs) h =
    if_ind (λ (b : Bool). T b → T (all tag_char (c ∷ cs))) (eqb c 45) _ _
    (λ e t. and← (tag_char c) (all tag_char cs) (or_right (letter c) (digit c || eqb c 45) (or_right (digit c) (eqb c 45) e))
    (tag_chars false false cs (and→ seen (tag_from false false cs) t).1))
    (λ _ t.
    let (i, j) = and→ (letter c || (not letters && digit c)) (tag_from letters true cs) t in
    and← (tag_char c) (all tag_char cs) (one (or→ (letter c) (not letters && digit c) i)) (tag_chars letters true cs j))
    h
  where
    one : T (letter c) ⊎ T (not letters && digit c) → T (tag_char c)
    one (inl t) = or_left (letter c) (digit c || eqb c 45) t
    one (inr t) = or_right (letter c) (digit c || eqb c 45) (or_left (digit c) (eqb c 45) (and→ (not letters) (digit c) t).1)

-- a tag has no colon
tag_no_colon : (cs : List ℕ) → T (all tag_char cs) → T (one_of cs 58) → ⊥
unfolding one_of
tag_no_colon [] h t = t
tag_no_colon (c ∷ cs) h t =
    let (i, j) = and→ (tag_char c) (all tag_char cs) h in go i (one_of→ 58 c cs t) (tag_no_colon cs j)
  where
    go : T (tag_char c) → T (eqb 58 c) ⊎ T (one_of cs 58) → (T (one_of cs 58) → ⊥) → ⊥
    go i (inl e) k = subst (λ (x : ℕ). T (tag_char x)) (sym (eqb→eq 58 c e)) i
    go i (inr e) k = k e

-- nor does what is tested as a tag
pub no_colon : (cs : List ℕ) → T (tag cs) → T (one_of cs 58) → ⊥
unfolding tag
no_colon cs h = tag_no_colon cs (tag_chars true false cs h)
