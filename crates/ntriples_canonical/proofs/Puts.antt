-- Terms put one after the other: they are accepted where there is room for them, each counted once; each is held afterwards and found by
-- its id; those held before keep theirs; and terms that stand among others take no more room than these. Assumes nothing.
use mathlib.Core.Path.{◌≡◌, refl, sym, ◌∙◌, ap, subst}
use mathlib.Core.Logic.{◌⊎◌, inl, inr}
use mathlib.Core.Bool.{Bool, true, false}
use mathlib.Core.Option.{Option, some, none}
use mathlib.Core.List.{List, [], ◌∷◌, ◌++◌, append_assoc, append-nil}
use Prim.Native.Nat.{ℕ, suc, ◌+◌, ◌≤◌, ◌<◌}
use native.Mathlib.Omega.{arith}
use lib.Dec.{T, leb, le→leb}
use lib.ListN.{length, get_or, length-append, get_or-append}
use Rattle.common.specs.Triples.{In, here, there, if}
use Rattle.common.proofs.Lists.{in_nil, in_cons, in_left, in_right, in_cases, and←}
use Rattle.dictionary_layout.specs.Terms.{Term, no_term}
use Rattle.dictionary_layout.specs.Layout.{size, entry_at}
use Rattle.dictionary_layout.specs.Dictionary.{same_term, place_from, place_of, id_of, kind_known, short, roomy, PutAnswer, put_answer}
use Rattle.dictionary_layout.specs.Dictionary.{put_at, abstract_put, full, all_put, if_zero, put_all, term_of}
use Rattle.dictionary_layout.proofs.Choice.{if_yes}
use Rattle.dictionary_layout.proofs.Equality.{same_term→}
use Rattle.dictionary_layout.proofs.Decoding.{size_append}
use Rattle.dictionary_layout.proofs.Holding.{Fits}
use Rattle.dictionary_layout.proofs.Distinct.{absent→, Fresh, at_in}
use Rattle.ntriples_canonical.specs.RoundTrip.{with_term, with_terms}

-- WHAT A TERM'S PLACE SAYS: it is held there, and it has one where it is held
record Place (i : ℕ) (t : Term) (ts : List Term) (j : ℕ) : Type 0 where
  at : ℕ
  is : j ≡ i + at
  low : at < length ts
  same : get_or ts at no_term ≡ t

place_at : (i : ℕ) (t : Term) (ts : List Term) (j : ℕ) → place_from i t ts ≡ some j → Place i t ts j
unfolding place_from
place_at i t [] j e = absurd (let z : ◌≡◌ {A = ℕ} 0 1 = cc in omega arith)
place_at i t (u ∷ ts) j e = go (same_term t u) (same_term→ t u) e (place_at (suc i) t ts j)
  where
    next : Place (suc i) t ts j → Place i t (u ∷ ts) j
    next p = record { at = suc p.at; is = omega (arith, p.is); low = omega (arith, p.low); same = p.same }

    go : (b : Bool) → (T b → t ≡ u) → if b (λ _. some i) (λ _. place_from (suc i) t ts) ≡ some j
        → (place_from (suc i) t ts ≡ some j → Place (suc i) t ts j) → Place i t (u ∷ ts) j
    go true f e k = let q : i ≡ j = cc in record { at = 0; is = omega arith; low = omega arith; same = sym (f tt) }
    go false f e k = next (k e)

place_in : (t : Term) (ts : List Term) (i : ℕ) → place_of t ts ≡ some i → In t ts
place_in t ts i e = let p = place_at 0 t ts i e in subst (λ (x : Term). In x ts) p.same (at_in ts p.at p.low)

-- A TERM THAT IS HELD IS FOUND BY ITS ID, also when others have come
pub id_back : (ts new : List Term) (t : Term) → In t ts → term_of (ts ++ new) (id_of (place_of t ts)) ≡ t
id_back ts new t h = go (place_of t ts) refl
  where
    go : (o : Option ℕ) → place_of t ts ≡ o → term_of (ts ++ new) (id_of o) ≡ t
    go none e = absurd (absent→ 0 t ts e h)
    go (some i) e =
        let p = place_at 0 t ts i e in
        let q : i ≡ p.at = omega (arith, p.is) in
        ap (term_of (ts ++ new)) q ∙ (get_or-append ts new no_term p.at p.low ∙ p.same)

-- THE TERMS HELD AFTERWARDS: those held before, then new ones, none twice, each one of those put; and each of those put is held
pub record Grown (ts xs us : List Term) : Type 0 where
  pub new : List Term
  pub whole : us ≡ ts ++ new
  pub fresh : Fresh ts new
  pub among : (x : Term) → In x new → In x xs
  pub held : (x : Term) → In x xs → In x us

in_grown : (ts xs us : List Term) → Grown ts xs us → (x : Term) → In x ts → In x us
in_grown ts xs us g x i = subst (In x) (sym g.whole) (in_left g.new i)

-- the first of those put is held already, or it is a new one
grown_old : (ts : List Term) (t : Term) (xs us : List Term) → In t ts → Grown ts xs us → Grown ts (t ∷ xs) us
grown_old ts t xs us h g =
    record { new = g.new; whole = g.whole; fresh = g.fresh; among = λ x i. there (g.among x i); held = λ x i. pick x (in_cons i) }
  where
    pick : (x : Term) → (x ≡ t) ⊎ In x xs → In x us
    pick x (inl e) = in_grown ts xs us g x (subst (λ (y : Term). In y ts) (sym e) h)
    pick x (inr i) = g.held x i

grown_new : (ts : List Term) (t : Term) (xs us : List Term) → (In t ts → ⊥) → Grown (ts ++ (t ∷ [])) xs us → Grown ts (t ∷ xs) us
grown_new ts t xs us n g = record {
  new = t ∷ g.new;
  whole = g.whole ∙ append_assoc ts (t ∷ []) g.new;
  fresh = (n, g.fresh);
  among = λ x i. from x (in_cons i);
  held = λ x i. pick x (in_cons i);
}
  where
    from : (x : Term) → (x ≡ t) ⊎ In x g.new → In x (t ∷ xs)
    from x (inl e) = here e
    from x (inr i) = there (g.among x i)

    pick : (x : Term) → (x ≡ t) ⊎ In x xs → In x us
    pick x (inl e) = in_grown (ts ++ (t ∷ [])) xs us g x (in_right ts (here e))
    pick x (inr i) = g.held x i

pub with_grown : (ts xs : List Term) → Grown ts xs (with_terms ts xs)
unfolding with_terms
with_grown ts [] = record { new = []; whole = sym (append-nil ts); fresh = tt; among = λ x i. i; held = λ x i. absurd (in_nil i) }
with_grown ts (t ∷ xs) = go (place_of t ts) refl (with_grown ts xs) (with_grown (ts ++ (t ∷ [])) xs)
  where
    go : (o : Option ℕ) → place_of t ts ≡ o → Grown ts xs (with_terms ts xs)
        → Grown (ts ++ (t ∷ [])) xs (with_terms (ts ++ (t ∷ [])) xs) → Grown ts (t ∷ xs) (with_terms (with_term ts t o) xs)
    go (some i) e g h = grown_old ts t xs (with_terms ts xs) (place_in t ts i e) g
    go none e g h = grown_new ts t xs (with_terms (ts ++ (t ∷ [])) xs) (absent→ 0 t ts e) h

-- ACCEPTED where there is room for all of them
module _ (tl al : ℕ) where
  -- what fits with more fits without
  pub fits_less : (ts new : List Term) → Fits tl al (ts ++ new) → Fits tl al ts
  fits_less ts new (a, b) = (omega (arith, length-append ts new), omega (arith, size_append ts new))

  -- one of them
  one_put : (ts : List Term) (t : Term) → T (kind_known t) → T (short t) → Fits tl al (with_term ts t (place_of t ts))
      → (i : ℕ) × (abstract_put tl al ts t ≡ put_answer 0 i (with_term ts t (place_of t ts)))
  unfolding abstract_put
  one_put ts t k s f =
      let (i, e) = go (place_of t ts) f in (i, if_yes (kind_known t) _ _ k ∙ (if_yes (short t) _ _ s ∙ e))
    where
      go : (o : Option ℕ) → Fits tl al (with_term ts t o) → (i : ℕ) × (put_at tl al ts t o ≡ put_answer 0 i (with_term ts t o))
      go (some i) f = (i, refl)
      go none (a, b) =
          let entries = entry_at (suc (length ts)) in
          let bytes = size ts + length t.bytes in
          let r = and← (leb entries tl) (leb bytes al) (le→leb entries tl (omega (arith, length-append ts (t ∷ []))))
          (le→leb bytes al (omega (arith, size_append ts (t ∷ [])))) in
          (length ts, if_yes (roomy tl al ts t) _ _ r)

  pub all_accepted : (ts xs : List Term) → ((x : Term) → In x xs → T (kind_known x) × T (short x)) → Fits tl al (with_terms ts xs)
      → put_all tl al ts xs ≡ all_put (with_terms ts xs)
  unfolding put_all with_terms
  all_accepted ts [] w f = refl
  all_accepted ts (t ∷ xs) w f =
      let vs = with_term ts t (place_of t ts) in
      let g = with_grown vs xs in
      let (k, s) = w t (here refl) in
      let (i, e) = one_put ts t k s (fits_less vs g.new (subst (Fits tl al) g.whole f)) in
      ap (λ (p : PutAnswer). if_zero p.number (λ _. put_all tl al p.held xs) (λ _. full)) e
      ∙ all_accepted vs xs (λ x j. w x (there j)) f

-- NO MORE THAN THE OTHERS: new terms, none twice, that stand among those held and others are no more than the others, in number and bytes
abbrev Within : List Term → List Term → Type 0
Within us vs = (length us ≤ length vs) × (size us ≤ size vs)

record Cut (t : Term) (vs : List Term) : Type 0 where
  left : List Term
  right : List Term
  whole : vs ≡ left ++ (t ∷ right)

cut : (t : Term) (vs : List Term) → In t vs → Cut t vs
cut t [] i = absurd (in_nil i)
cut t (v ∷ vs) i = go (in_cons i) (cut t vs)
  where
    go : (t ≡ v) ⊎ In t vs → (In t vs → Cut t vs) → Cut t (v ∷ vs)
    go (inl e) k = record { left = []; right = vs; whole = ap (λ (x : Term). x ∷ vs) (sym e) }
    go (inr j) k = let c = k j in record { left = v ∷ c.left; right = c.right; whole = ap (λ (l : List Term). v ∷ l) c.whole }

-- one of them, taken out of the others
moved : (ts vs : List Term) (t : Term) (c : Cut t vs) (x : Term) → In x (ts ++ vs) → In x ((ts ++ (t ∷ [])) ++ (c.left ++ c.right))
moved ts vs t c x i = first (in_cases ts (subst (λ (l : List Term). In x (ts ++ l)) c.whole i))
  where
    keep : In x (c.left ++ c.right) → In x ((ts ++ (t ∷ [])) ++ (c.left ++ c.right))
    keep j = in_right (ts ++ (t ∷ [])) j

    third : (x ≡ t) ⊎ In x c.right → In x ((ts ++ (t ∷ [])) ++ (c.left ++ c.right))
    third (inl e) = in_left (c.left ++ c.right) (in_right ts (here e))
    third (inr j) = keep (in_right c.left j)

    second : In x c.left ⊎ In x (t ∷ c.right) → In x ((ts ++ (t ∷ [])) ++ (c.left ++ c.right))
    second (inl j) = keep (in_left c.right j)
    second (inr j) = third (in_cons j)

    first : In x ts ⊎ In x (c.left ++ (t ∷ c.right)) → In x ((ts ++ (t ∷ [])) ++ (c.left ++ c.right))
    first (inl j) = in_left (c.left ++ c.right) (in_left (t ∷ []) j)
    first (inr j) = second (in_cases c.left j)

pub fresh_within : (ts us vs : List Term) → Fresh ts us → ((x : Term) → In x us → In x (ts ++ vs)) → Within us vs
fresh_within ts [] vs n f = (omega arith, omega arith)
fresh_within ts (u ∷ us) vs n f = go (in_cases ts (f u (here refl))) (λ ws h. fresh_within (ts ++ (u ∷ [])) us ws n.1 h)
  where
    go : In u ts ⊎ In u vs → ((ws : List Term) → ((x : Term) → In x us → In x ((ts ++ (u ∷ [])) ++ ws)) → Within us ws)
        → Within (u ∷ us) vs
    go (inl i) k = absurd (n.0 i)
    go (inr i) k =
        let c = cut u vs i in
        let (a, b) = k (c.left ++ c.right) (λ x j. moved ts vs u c x (f x (there j))) in
        let e = ap (λ (l : List Term). length l) c.whole ∙ length-append c.left (u ∷ c.right) in
        let z = ap (λ (l : List Term). size l) c.whole ∙ size_append c.left (u ∷ c.right) in
        (omega (arith, length-append c.left c.right), omega (arith, size_append c.left c.right))
