-- Which terms can be held, as facts: a put keeps it, and it is what `valid` tests. Assumes nothing.
use mathlib.Core.Path.{◌≡◌, refl, sym, ◌∙◌, ap, ap₂, subst}
use mathlib.Core.Logic.{◌⊎◌, inl, inr}
use mathlib.Core.Bool.{Bool, true, false, ◌&&◌}
use mathlib.Core.Option.{Option, some, none}
use mathlib.Core.List.{List, [], ◌∷◌, ◌++◌, append_assoc, append-nil}
use Prim.Native.Nat.{ℕ, zero, suc, ◌+◌, ◌-◌, ◌%◌, ◌≤◌}
use native.Mathlib.Omega.{arith}
use lib.Dec.{T, leb, eqb, leb→le, eqb→eq}
use lib.ListN.{length}
use Rattle.common.specs.Triples.{if}
use Rattle.common.specs.Sizes.{heads_width, entry_width, table_limit, arena_limit}
use Rattle.common.proofs.Lists.{and→, and←, eq→eqb}
use Rattle.dictionary_layout.specs.Terms.{Term, start_terms, start_bytes}
use Rattle.dictionary_layout.specs.Layout.{Dict, size, layout, decode, start_table, entry_at}
use Rattle.dictionary_layout.specs.Dictionary.{same_term, same_dict, place_from, kind_known, short, roomy, PutAnswer, put_answer}
use Rattle.dictionary_layout.specs.Dictionary.{put_at, abstract_put, sized, start_fits, adds, grows, begins, holdable, valid}
use Rattle.dictionary_layout.specs.Dictionary.{full, all_put, if_zero, put_all}
use Rattle.dictionary_layout.proofs.Equality.{same_term_refl, same_term→, same_dict_refl, same_dict→}
use Rattle.dictionary_layout.proofs.Decoding.{decode_layout, layout_table, layout_arena, length_snoc, size_append}

-- the two ways of a put
pub record Added (tl al : ℕ) (ts : List Term) (t : Term) (p : PutAnswer) : Type 0 where
  pub accepted : p.number ≡ 0
  pub new_id : p.id ≡ length ts
  pub longer : p.held ≡ ts ++ (t ∷ [])
  pub known : T (kind_known t)
  pub fits : T (short t)
  pub fresh : place_from 0 t ts ≡ none
  pub room : T (roomy tl al ts t)

abbrev pub Ways : ℕ → ℕ → List Term → Term → PutAnswer → Type 0
Ways tl al ts t p = (p.held ≡ ts) ⊎ Added tl al ts t p

pub put_cases : (tl al : ℕ) (ts : List Term) (t : Term) → Ways tl al ts t (abstract_put tl al ts t)
unfolding abstract_put
put_cases tl al ts t = go (kind_known t) (short t) (λ h. h) (λ h. h)
  where
    room : (b : Bool) (e : place_from 0 t ts ≡ none) → T (kind_known t) → T (short t) → (T b → T (roomy tl al ts t))
        → Ways tl al ts t (if b (λ _. put_answer 0 (length ts) (ts ++ (t ∷ []))) (λ _. put_answer 7 0 ts))
    room true e k s f = inr (record { accepted = refl; new_id = refl; longer = refl; known = k; fits = s; fresh = e; room = f tt })
    room false e k s f = inl refl

    place : (q : Option ℕ) → place_from 0 t ts ≡ q → T (kind_known t) → T (short t) → Ways tl al ts t (put_at tl al ts t q)
    place (some i) e k s = inl refl
    place none e k s = room (roomy tl al ts t) e k s (λ h. h)

    go : (a b : Bool) → (T a → T (kind_known t)) → (T b → T (short t)) → Ways tl al ts t
        (if a (λ _. if b (λ _. put_at tl al ts t (place_from 0 t ts)) (λ _. put_answer 11 0 ts)) (λ _. put_answer 10 0 ts))
    go true true f g = place (place_from 0 t ts) refl (f tt) (g tt)
    go true false f g = inl refl
    go false b f g = inl refl

-- what `roomy` tests
pub roomy→ : (tl al : ℕ) (ts : List Term) (t : Term) → T (roomy tl al ts t)
    → (entry_at (suc (length ts)) ≤ tl) × (size ts + length t.bytes ≤ al)
roomy→ tl al ts t r =
    let entry = entry_at (suc (length ts)) in
    let end = size ts + length t.bytes in
    let (a, b) = and→ (leb entry tl) (leb end al) r in
    (leb→le entry tl a, leb→le end al b)

-- what `adds` tests
adds→ : (n : ℕ) (p : PutAnswer) → T (adds n p) → length p.held ≡ suc n
adds→ n p h =
    let longer = eqb (length p.held) (suc n) in eqb→eq (length p.held) (suc n) (and→ (eqb p.number 0) longer h).1

adds← : (n : ℕ) (p : PutAnswer) → p.number ≡ 0 → length p.held ≡ suc n → T (adds n p)
adds← n p a b =
    and← (eqb p.number 0) (eqb (length p.held) (suc n)) (eq→eqb p.number 0 a) (eq→eqb (length p.held) (suc n) b)

module _ (tl al : ℕ) where
  pub end→added : (ts : List Term) (t : Term) → T (adds (length ts) (abstract_put tl al ts t)) → Added tl al ts t (abstract_put tl al ts t)
  end→added ts t h = go (put_cases tl al ts t)
    where
      go : Ways tl al ts t (abstract_put tl al ts t) → Added tl al ts t (abstract_put tl al ts t)
      go (inl e) = absurd (omega (arith, ap (λ (l : List Term). length l) e, adds→ (length ts) (abstract_put tl al ts t) h))
      go (inr a) = a

  pub added→end : (ts : List Term) (t : Term) → Added tl al ts t (abstract_put tl al ts t) → T (adds (length ts) (abstract_put tl al ts t))
  added→end ts t a =
      adds← (length ts) (abstract_put tl al ts t) a.accepted (ap (λ (l : List Term). length l) a.longer ∙ length_snoc ts t)

  -- the terms grow by one more
  pub step : (ts : List Term) (u : Term) (us : List Term) → T (grows tl al ts (u ∷ us))
      → T (adds (length ts) (abstract_put tl al ts u)) × T (grows tl al (ts ++ (u ∷ [])) us)
  unfolding grows
  step ts u us h = go (adds (length ts) (abstract_put tl al ts u)) h
    where
      go : (b : Bool) → T (if b (λ _. grows tl al (ts ++ (u ∷ [])) us) (λ _. false)) → T b × T (grows tl al (ts ++ (u ∷ [])) us)
      go true h = (tt, h)
      go false h = absurd h

  pub unstep : (ts : List Term) (u : Term) (us : List Term) → T (adds (length ts) (abstract_put tl al ts u))
      → T (grows tl al (ts ++ (u ∷ [])) us) → T (grows tl al ts (u ∷ us))
  unfolding grows
  unstep ts u us e h = go (adds (length ts) (abstract_put tl al ts u)) e
    where
      go : (b : Bool) → T b → T (if b (λ _. grows tl al (ts ++ (u ∷ [])) us) (λ _. false))
      go true t = h
      go false t = absurd t

  grows_snoc : (ts us : List Term) (t : Term) → T (grows tl al ts us)
      → T (adds (length (ts ++ us)) (abstract_put tl al (ts ++ us) t)) → T (grows tl al ts (us ++ (t ∷ [])))
  unfolding grows
  grows_snoc ts [] t h e = unstep ts t [] (subst (λ l. T (adds (length l) (abstract_put tl al l t))) (append-nil ts) e) tt
  grows_snoc ts (u ∷ us) t h e =
      let (a, b) = step ts u us h in
      unstep ts u (us ++ (t ∷ [])) a (grows_snoc (ts ++ (u ∷ [])) us t b
      (subst (λ l. T (adds (length l) (abstract_put tl al l t))) (sym (append_assoc ts (u ∷ []) us)) e))

  abbrev pub Fits : List Term → Type 0
  Fits ts = (entry_at (length ts) ≤ tl) × (size ts ≤ al)

  fits_snoc : (ts : List Term) (t : Term) → T (roomy tl al ts t) → Fits (ts ++ (t ∷ []))
  fits_snoc ts t r =
      let (f, g) = roomy→ tl al ts t r in (omega (arith, length_snoc ts t), omega (arith, size_append ts (t ∷ [])))

  grows_fits : (ts us : List Term) → T (grows tl al ts us) → Fits ts → Fits (ts ++ us)
  grows_fits ts [] h f = subst Fits (sym (append-nil ts)) f
  grows_fits ts (u ∷ us) h f =
      let (a, b) = step ts u us h in
      subst Fits (append_assoc ts (u ∷ []) us) (grows_fits (ts ++ (u ∷ [])) us b (fits_snoc ts u (end→added ts u a).room))

begins→ : (ps ts : List Term) (f : List Term → Bool) → T (begins ps ts f) → (r : List Term) × (ts ≡ ps ++ r) × T (f r)
unfolding begins
begins→ [] ts f h = (ts, refl, h)
begins→ (p ∷ ps) [] f h = absurd h
begins→ (p ∷ ps) (t ∷ ts) f h = go (same_term p t) (same_term→ p t) h (λ k. begins→ ps ts f k)
  where
    go : (b : Bool) → (T b → p ≡ t) → T (if b (λ _. begins ps ts f) (λ _. false))
        → (T (begins ps ts f) → (r : List Term) × (ts ≡ ps ++ r) × T (f r)) → (r : List Term) × (t ∷ ts ≡ p ∷ (ps ++ r)) × T (f r)
    go true e h k = let (r, g, i) = k h in (r, ap₂ (λ x y. x ∷ y) (sym (e tt)) g, i)
    go false e h k = absurd h

begins← : (ps r : List Term) (f : List Term → Bool) → T (f r) → T (begins ps (ps ++ r) f)
unfolding begins
begins← [] r f h = h
begins← (p ∷ ps) r f h = go (same_term p p) (same_term_refl p) (begins← ps r f h)
  where
    go : (b : Bool) → T b → T (begins ps (ps ++ r) f) → T (if b (λ _. begins ps (ps ++ r) f) (λ _. false))
    go true t k = k
    go false t k = absurd t

-- what `holdable` tests
pub record Holds (tl al : ℕ) (ts : List Term) : Type 0 where
  pub sizes : T (sized tl al)
  pub starts : T (start_fits tl al)
  pub more : List Term
  pub whole : ts ≡ start_terms ++ more
  pub grown : T (grows tl al start_terms more)

pub holds→ : (tl al : ℕ) (ts : List Term) → T (holdable tl al ts) → Holds tl al ts
unfolding holdable
holds→ tl al ts h =
    let (a, k) = and→ (sized tl al) (start_fits tl al && begins start_terms ts (grows tl al start_terms)) h in
    let (b, c) = and→ (start_fits tl al) (begins start_terms ts (grows tl al start_terms)) k in
    let (r, e, g) = begins→ start_terms ts (grows tl al start_terms) c in
    record { sizes = a; starts = b; more = r; whole = e; grown = g }

pub holds← : (tl al : ℕ) (ts : List Term) → Holds tl al ts → T (holdable tl al ts)
unfolding holdable
holds← tl al ts h =
    and← (sized tl al) (start_fits tl al && begins start_terms ts (grows tl al start_terms)) h.sizes
    (and← (start_fits tl al) (begins start_terms ts (grows tl al start_terms)) h.starts
    (subst (λ l. T (begins start_terms l (grows tl al start_terms))) (sym h.whole)
    (begins← start_terms h.more (grows tl al start_terms) h.grown)))

start_Fits : (tl al : ℕ) → T (start_fits tl al) → Fits tl al start_terms
start_Fits tl al h =
    let (a, b) = and→ (leb (entry_at (length start_terms)) tl) (leb (size start_terms) al) h in
    (leb→le (entry_at (length start_terms)) tl a, leb→le (size start_terms) al b)

pub holds_fits : (tl al : ℕ) (ts : List Term) → Holds tl al ts → Fits tl al ts
holds_fits tl al ts h =
    subst (Fits tl al) (sym h.whole) (grows_fits tl al start_terms h.more h.grown (start_Fits tl al h.starts))

pub holds_start : (tl al : ℕ) → T (sized tl al) → T (start_fits tl al) → Holds tl al start_terms
unfolding grows
holds_start tl al a b = record { sizes = a; starts = b; more = []; whole = sym (append-nil start_terms); grown = tt }

-- a put, accepted or refused, keeps it
pub holds_put : (tl al : ℕ) (ts : List Term) (t : Term) → Holds tl al ts → Holds tl al (abstract_put tl al ts t).held
holds_put tl al ts t h = go (put_cases tl al ts t)
  where
    go : Ways tl al ts t (abstract_put tl al ts t) → Holds tl al (abstract_put tl al ts t).held
    go (inl e) = subst (Holds tl al) (sym e) h
    go (inr a) = record {
      sizes = h.sizes;
      starts = h.starts;
      more = h.more ++ (t ∷ []);
      whole = a.longer ∙ (ap (λ l. l ++ (t ∷ [])) h.whole ∙ append_assoc start_terms h.more (t ∷ []));
      grown = grows_snoc tl al start_terms h.more t h.grown
          (subst (λ l. T (adds (length l) (abstract_put tl al l t))) h.whole (added→end tl al ts t a));
    }

-- so do puts one after the other
pub put_all_holds : (tl al : ℕ) (ts r us : List Term) → Holds tl al ts → put_all tl al ts r ≡ all_put us → Holds tl al us
unfolding put_all
put_all_holds tl al ts [] us h e = subst (Holds tl al) (cc) h
put_all_holds tl al ts (t ∷ r) us h e =
    go (abstract_put tl al ts t).number e (put_all_holds tl al (abstract_put tl al ts t).held r us (holds_put tl al ts t h))
  where
    go : (n : ℕ) → if_zero n (λ _. put_all tl al (abstract_put tl al ts t).held r) (λ _. full) ≡ all_put us
        → (put_all tl al (abstract_put tl al ts t).held r ≡ all_put us → Holds tl al us) → Holds tl al us
    go zero e k = k e
    go (suc n) e k = let z : ◌≡◌ {A = ℕ} 0 1 = cc in absurd (omega arith)

-- VALID
pub valid_layout : (tl al : ℕ) (ts : List Term) → Holds tl al ts → T (valid (layout tl al ts))
unfolding valid
valid_layout tl al ts h =
    let (f, g) = holds_fits tl al ts h in
    let d = layout tl al ts in
    let e₁ = layout_table tl al ts f in
    let e₂ = layout_arena tl al ts g in
    let e₃ = decode_layout tl al ts in
    and← (holdable (length d.table) (length d.arena) (decode d))
    (same_dict (layout (length d.table) (length d.arena) (decode d)) d)
    (subst (λ (b : Bool). T b) (λ i. holdable (sym e₁ i) (sym e₂ i) (sym e₃ i)) (holds← tl al ts h))
    (subst (λ (b : Bool). T b) (λ i. same_dict (layout (sym e₁ i) (sym e₂ i) (sym e₃ i)) d) (same_dict_refl d))

pub valid→ : (d : Dict) → T (valid d) → Holds (length d.table) (length d.arena) (decode d)
    × (layout (length d.table) (length d.arena) (decode d) ≡ d)
unfolding valid
valid→ d h =
    let tl = length d.table in
    let al = length d.arena in
    let laid = layout tl al (decode d) in
    let (a, b) = and→ (holdable tl al (decode d)) (same_dict laid d) h in
    (holds→ tl al (decode d) a, same_dict→ laid d b)

-- THE SIZES, as facts
pub record WellSized (tl al : ℕ) : Type 0 where
  pub low : heads_width ≤ tl
  pub whole : (tl - heads_width) % entry_width ≡ 0
  pub high : tl ≤ table_limit
  pub arena : al ≤ arena_limit

pub sized→ : (tl al : ℕ) → T (sized tl al) → WellSized tl al
sized→ tl al h =
    let rest = (tl - heads_width) % entry_width in
    let limits = leb tl table_limit && leb al arena_limit in
    let (a, k) = and→ (leb heads_width tl) (eqb rest 0 && limits) h in
    let (b, l) = and→ (eqb rest 0) limits k in
    let (c, m) = and→ (leb tl table_limit) (leb al arena_limit) l in
    record { low = leb→le heads_width tl a; whole = eqb→eq rest 0 b; high = leb→le tl table_limit c; arena = leb→le al arena_limit m }

pub start_fits→ : (tl al : ℕ) → T (start_fits tl al) → (start_table ≤ tl) × (start_bytes ≤ al)
unfolding start_terms
start_fits→ tl al h = let (a, b) = and→ (leb start_table tl) (leb start_bytes al) h in (leb→le start_table tl a, leb→le start_bytes al b)
