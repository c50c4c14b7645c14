-- A dictionary is valid exactly when a start followed by puts leaves it: refusal 1 in the words of REFERENCE 2.7. Assumes nothing.
use mathlib.Core.Path.{◌≡◌, refl, sym, ◌∙◌, ap, subst}
use mathlib.Core.Logic.{◌⊎◌, inl, inr, ◌≢◌}
use mathlib.Core.Bool.{Bool, true, false}
use mathlib.Core.List.{List, [], ◌∷◌, ◌++◌, append_assoc, append-nil}
use Prim.Native.Nat.{ℕ, zero, suc}
use native.Mathlib.Omega.{arith}
use lib.Dec.{T}
use lib.ListN.{length}
use Rattle.common.specs.Triples.{if}
use Rattle.dictionary_layout.specs.Terms.{Term, start_terms}
use Rattle.dictionary_layout.specs.Layout.{Dict, dict, layout, decode}
use Rattle.dictionary_layout.specs.Dictionary.{abstract_put, if_zero, lookup_answer, abstract_lookup, sized, start_fits}
use Rattle.dictionary_layout.specs.Dictionary.{start_refusal, grows, valid}
use Rattle.dictionary_layout.specs.Calls.{on_valid, StartResult, start_result, start_gives, PutResult, put_result, put_laid}
use Rattle.dictionary_layout.specs.Calls.{put_gives, lookup_gives, puts, Reachable}
use Rattle.dictionary_layout.proofs.Choice.{if_yes, if_no, decide_bool}
use Rattle.dictionary_layout.proofs.Decoding.{decode_layout, layout_table, layout_arena}
use Rattle.dictionary_layout.proofs.Holding.{Ways, put_cases, end→added, step, Holds, holds_fits, holds_start, holds_put}
use Rattle.dictionary_layout.proofs.Holding.{valid_layout, valid→}

-- contents that hold terms are valid and name those terms: what a call gives is computed from them
pub on_layout : {A : Type 0} (tl al : ℕ) (ts : List Term) (f : ℕ → ℕ → List Term → A) (g : Unit {0} → A) → Holds tl al ts
    → on_valid (layout tl al ts) f g ≡ f tl al ts
on_layout tl al ts f g h =
    let (a, b) = holds_fits tl al ts h in
    let d = layout tl al ts in
    if_yes (valid d) (λ _. f (length d.table) (length d.arena) (decode d)) g (valid_layout tl al ts h)
    ∙ (λ i. f (layout_table tl al ts a i) (layout_arena tl al ts b i) (decode_layout tl al ts i))

-- A START
module _ (tl al : ℕ) where
  -- the refusals' conditions, in order
  pub refusal_4 : (T (sized tl al) → ⊥) → 4 ≡ start_refusal tl al
  unfolding start_refusal
  refusal_4 n = sym (if_no (sized tl al) (λ _. if (start_fits tl al) (λ _. 0) (λ _. 7)) (λ _. 4) n)

  pub no_refusal : T (sized tl al) → T (start_fits tl al) → 0 ≡ start_refusal tl al
  unfolding start_refusal
  no_refusal s f =
      sym (if_yes (sized tl al) (λ _. if (start_fits tl al) (λ _. 0) (λ _. 7)) (λ _. 4) s ∙ if_yes (start_fits tl al) (λ _. 0) (λ _. 7) f)

  -- accepted only where sizes and room suffice
  pub refusal_none : start_refusal tl al ≡ 0 → T (sized tl al) × T (start_fits tl al)
  unfolding start_refusal
  refusal_none e = go (sized tl al) (start_fits tl al) e
    where
      go : (a b : Bool) → ◌≡◌ {A = ℕ} (if a (λ _. if b (λ _. 0) (λ _. 7)) (λ _. 4)) 0 → T a × T b
      go true true e = (tt, tt)
      go true false e = absurd (omega arith)
      go false b e = absurd (omega arith)

module _ (table arena : List ℕ) where
  abbrev tl : ℕ
  tl = length table

  abbrev al : ℕ
  al = length arena

  abbrev outcome : ℕ → StartResult
  outcome n = if_zero n (λ _. start_result 0 (layout tl al start_terms)) (λ _. start_result n (dict table arena 0 0))

  pub start_accepts : start_refusal tl al ≡ 0 → start_gives table arena ≡ start_result 0 (layout tl al start_terms)
  unfolding start_gives
  start_accepts e = ap outcome e

  pub start_refuses : (n : ℕ) → n ≡ start_refusal tl al → n ≢ 0 → start_result n (dict table arena 0 0) ≡ start_gives table arena
  unfolding start_gives
  start_refuses zero e h = absurd (h refl)
  start_refuses (suc n) e h = ap outcome e

  start_number : (start_gives table arena).number ≡ start_refusal tl al
  unfolding start_gives
  start_number = go (start_refusal tl al)
    where
      go : (n : ℕ) → (outcome n).number ≡ n
      go zero = refl
      go (suc n) = refl

  -- the terms that an accepted start leaves can be held
  pub start_holds : (start_gives table arena).number ≡ 0 → Holds tl al start_terms
  start_holds e = let (s, f) = refusal_none tl al (sym start_number ∙ e) in holds_start tl al s f

  pub start_leaves : (start_gives table arena).number ≡ 0 → (start_gives table arena).contents ≡ layout tl al start_terms
  start_leaves e = ap (λ (r : StartResult). r.contents) (start_accepts (sym start_number ∙ e))

-- PUTS
put_leaves : (tl al : ℕ) (ts : List Term) (t : Term) → Holds tl al ts
    → (put_gives (layout tl al ts) t).contents ≡ layout tl al (abstract_put tl al ts t).held
unfolding put_gives
put_leaves tl al ts t h = ap (λ (r : PutResult). r.contents) (on_layout tl al ts (put_laid t) (λ _. put_result 1 0 (layout tl al ts)) h)

-- puts of new terms that fit leave all of them
puts_leave : (tl al : ℕ) (ts us : List Term) → Holds tl al ts → T (grows tl al ts us) → puts (layout tl al ts) us ≡ layout tl al (ts ++ us)
unfolding puts
puts_leave tl al ts [] h g = ap (layout tl al) (sym (append-nil ts))
puts_leave tl al ts (u ∷ us) h g =
    let (a, b) = step tl al ts u us g in
    let e = (end→added tl al ts u a).longer in
    ap (λ (x : Dict). puts x us) (put_leaves tl al ts u h ∙ ap (layout tl al) e)
    ∙ (puts_leave tl al (ts ++ (u ∷ [])) us (subst (Holds tl al) e (holds_put tl al ts u h)) b
    ∙ ap (layout tl al) (append_assoc ts (u ∷ []) us))

-- any puts leave valid contents
puts_valid : (tl al : ℕ) (ts us : List Term) → Holds tl al ts → T (valid (puts (layout tl al ts) us))
unfolding puts
puts_valid tl al ts [] h = valid_layout tl al ts h
puts_valid tl al ts (u ∷ us) h =
    subst (λ (x : Dict). T (valid (puts x us))) (sym (put_leaves tl al ts u h))
    (puts_valid tl al (abstract_put tl al ts u).held us (holds_put tl al ts u h))

-- EXACTLY what a start followed by puts leaves
pub reachable→valid : (d : Dict) → Reachable d → T (valid d)
reachable→valid d r =
    let t = r.table in
    let a = r.arena in
    let n = r.accepted in
    subst (λ (x : Dict). T (valid x)) (ap (λ (x : Dict). puts x r.given) (sym (start_leaves t a n)) ∙ r.leaves)
    (puts_valid (length t) (length a) start_terms r.given (start_holds t a n))

pub valid→reachable : (d : Dict) → T (valid d) → Reachable d
valid→reachable d v =
    let (h, e) = valid→ d v in
    let tl = length d.table in
    let al = length d.arena in
    let s = start_accepts d.table d.arena (sym (no_refusal tl al h.sizes h.starts)) in
    record {
      table = d.table;
      arena = d.arena;
      accepted = ap (λ (x : StartResult). x.number) s;
      given = h.more;
      leaves =
          ap (λ (x : StartResult). puts x.contents h.more) s
          ∙ (puts_leave tl al start_terms h.more (holds_start tl al h.sizes h.starts) h.grown
          ∙ (ap (layout tl al) (sym h.whole) ∙ e));
    }

-- WHAT A PUT GIVES where the contents are valid, and where they are broken
module _ (d : Dict) (t : Term) where
  pub put_valid : T (valid d) → put_gives d t ≡ put_laid t (length d.table) (length d.arena) (decode d)
  unfolding put_gives
  put_valid v = if_yes (valid d) (λ _. put_laid t (length d.table) (length d.arena) (decode d)) (λ _. put_result 1 0 d) v

  pub put_broken : (T (valid d) → ⊥) → put_gives d t ≡ put_result 1 0 d
  unfolding put_gives
  put_broken n = if_no (valid d) (λ _. put_laid t (length d.table) (length d.arena) (decode d)) (λ _. put_result 1 0 d) n

  -- a put keeps a dictionary valid
  pub put_keeps : T (valid d) → T (valid (put_gives d t).contents)
  put_keeps v =
      let (h, e) = valid→ d v in
      let tl = length d.table in
      let al = length d.arena in
      subst (λ (x : Dict). T (valid x)) (sym (ap (λ (r : PutResult). r.contents) (put_valid v)))
      (valid_layout tl al (abstract_put tl al (decode d) t).held (holds_put tl al (decode d) t h))

  -- a refused put changes nothing
  pub put_refused : (put_gives d t).number ≢ 0 → (put_gives d t).contents ≡ d
  put_refused n = go (decide_bool (valid d))
    where
      tl : ℕ
      tl = length d.table

      al : ℕ
      al = length d.arena

      kept : T (valid d) → Ways tl al (decode d) t (abstract_put tl al (decode d) t) → (put_gives d t).contents ≡ d
      kept v (inl e) = ap (λ (r : PutResult). r.contents) (put_valid v) ∙ (ap (layout tl al) e ∙ (valid→ d v).1)
      kept v (inr a) = absurd (n (ap (λ (r : PutResult). r.number) (put_valid v) ∙ a.accepted))

      go : T (valid d) ⊎ (T (valid d) → ⊥) → (put_gives d t).contents ≡ d
      go (inl v) = kept v (put_cases tl al (decode d) t)
      go (inr b) = ap (λ (r : PutResult). r.contents) (put_broken b)

-- WHAT A LOOKUP GIVES
module _ (d : Dict) (i : ℕ) where
  pub lookup_valid : T (valid d) → lookup_gives d i ≡ abstract_lookup (decode d) i
  unfolding lookup_gives
  lookup_valid v = if_yes (valid d) (λ _. abstract_lookup (decode d) i) (λ _. lookup_answer 1 0 []) v

  pub lookup_broken : (T (valid d) → ⊥) → lookup_gives d i ≡ lookup_answer 1 0 []
  unfolding lookup_gives
  lookup_broken n = if_no (valid d) (λ _. abstract_lookup (decode d) i) (λ _. lookup_answer 1 0 []) n
