-- Names parted by spaces, read one after the other, and the ids and terms that they list. Assumes nothing.
use mathlib.Core.Path.{◌≡◌, sym, ◌∙◌, ap, subst}
use mathlib.Core.Logic.{◌≢◌}
use mathlib.Core.Bool.{◌&&◌}
use mathlib.Core.List.{List, [], ◌∷◌, ◌++◌, append_assoc, append-nil}
use Prim.Native.Nat.{ℕ, suc, ◌+◌, ◌-◌, ◌≤◌, ◌<◌}
use native.Mathlib.Omega.{arith}
use native.Mathlib.Numerals.{add-one}
use lib.Dec.{T, ltb, eqb, ltb→lt, eqb→eq}
use lib.ListN.{length, get_or, take, drop, length-drop, drop_of_length-le}
use lib.Seq.{take-suc, drop-cons, get_or-drop}
use Rattle.common.proofs.Lists.{and→, eq→eqb}
use Rattle.dictionary_layout.specs.Terms.{term, start_terms, start_count}
use Rattle.dictionary_layout.specs.Layout.{Dict}
use Rattle.dictionary_layout.specs.Dictionary.{same_term, term_of}
use Rattle.dictionary_entries.specs.Starting.{Upto, Next, word, behind, Ends, listed}
use Rattle.dictionary_layout.proofs.Choice.{if_yes, if_no}
use Rattle.dictionary_layout.proofs.Equality.{same_term→}

-- from a place to an end no space was met
pub record ReadingName (names : List ℕ) (from end : ℕ) : Type 0 where
  pub ordered : from ≤ end
  pub within : end ≤ length names
  pub so_far : take (end - from) (drop from names) ++ word (drop end names) ≡ word (drop from names)
  pub rest : behind (drop end names) ≡ behind (drop from names)

module _ {names : List ℕ} {from end : ℕ} (r : ReadingName names from end) where
  abbrev b : ℕ
  b = get_or names end 0

  next : end < length names → drop end names ≡ b ∷ drop (end + 1) names
  next h = drop-cons names end 0 h ∙ ap (λ (n : ℕ). b ∷ drop n names) (sym (add-one end))

  pub name_more : end < length names → get_or names end 0 ≢ 32 → ReadingName names from (end + 1)
  unfolding word behind
  name_more h n =
      let q : end + 1 - from ≡ suc (end - from) = omega (arith, r.ordered) in
      let l : end - from < length (drop from names) = omega (arith, r.ordered, length-drop from names) in
      let p : from + (end - from) ≡ end = omega (arith, r.ordered) in
      let c : get_or (drop from names) (end - from) 0 ≡ b = get_or-drop from names (end - from) 0 ∙ ap (λ (k : ℕ). get_or names k 0) p in
      record {
        ordered = omega (arith, r.ordered);
        within = omega arith;
        so_far =
            ap (λ (k : ℕ). take k (drop from names) ++ word (drop (end + 1) names)) q
            ∙ (ap (λ (x : List ℕ). x ++ word (drop (end + 1) names))
            (take-suc (drop from names) (end - from) 0 l ∙ ap (λ (x : ℕ). take (end - from) (drop from names) ++ (x ∷ [])) c)
            ∙ (append_assoc (take (end - from) (drop from names)) (b ∷ []) (word (drop (end + 1) names))
            ∙ (ap (λ (x : List ℕ). take (end - from) (drop from names) ++ x)
            (sym (ap word (next h) ∙ if_no (eqb b 32) (λ _. []) (λ _. b ∷ word (drop (end + 1) names))
            (λ t. n (eqb→eq b 32 t)))) ∙ r.so_far)));
        rest = sym (ap behind (next h) ∙ if_no (eqb b 32) (λ _. drop (end + 1) names) (λ _. behind (drop (end + 1) names))
            (λ t. n (eqb→eq b 32 t))) ∙ r.rest;
      }

  -- a space
  pub name_stop : end < length names → get_or names end 0 ≡ 32 → Ends names from end (end + 1)
  unfolding word behind
  name_stop h e = record {
    ordered = r.ordered;
    within = r.within;
    next_within = omega arith;
    is = sym (append-nil (take (end - from) (drop from names)))
        ∙ (ap (λ (x : List ℕ). take (end - from) (drop from names) ++ x)
        (sym (ap word (next h) ∙ if_yes (eqb b 32) (λ _. []) (λ _. b ∷ word (drop (end + 1) names)) (eq→eqb b 32 e))) ∙ r.so_far);
    rest = sym (ap behind (next h) ∙ if_yes (eqb b 32) (λ _. drop (end + 1) names) (λ _. behind (drop (end + 1) names))
        (eq→eqb b 32 e)) ∙ r.rest;
  }

  -- the end
  pub name_last : length names ≤ end → Ends names from (length names) (length names)
  unfolding word behind
  name_last h =
      let e : drop end names ≡ [] = drop_of_length-le names h in
      let q : end ≡ length names = omega (arith, r.within) in
      subst (λ (n : ℕ). Ends names from n n) q
      (record {
        ordered = r.ordered;
        within = r.within;
        next_within = r.within;
        is = sym (append-nil (take (end - from) (drop from names)))
            ∙ (ap (λ (x : List ℕ). take (end - from) (drop from names) ++ x) (sym (ap word e)) ∙ r.so_far);
        rest = e ∙ (sym (ap behind e) ∙ r.rest);
      })

-- WHAT IS LISTED, one by one
pub record First (namespace names : List ℕ) (i : ℕ) (ids : List ℕ) (n : ℕ) : Type 0 where
  pub id : i ≡ n
  pub later : 0 < n
  pub below : n < start_count
  pub is : term_of start_terms n ≡ term 1 (namespace ++ word names)
  pub rest : T (listed namespace (behind names) ids (suc n))

pub listed→ : (namespace names : List ℕ) (i : ℕ) (ids : List ℕ) (n : ℕ) → T (listed namespace names (i ∷ ids) n)
    → First namespace names i ids n
unfolding listed
listed→ namespace names i ids n h =
    let t = term 1 (namespace ++ word names) in
    let u = term_of start_terms n in
    let l = listed namespace (behind names) ids (suc n) in
    let (a, h₁) = and→ (eqb i n) (ltb 0 n && (ltb n start_count && (same_term u t && l))) h in
    let (b, h₂) = and→ (ltb 0 n) (ltb n start_count && (same_term u t && l)) h₁ in
    let (c, h₃) = and→ (ltb n start_count) (same_term u t && l) h₂ in
    let (d, e) = and→ (same_term u t) l h₃ in
    record { id = eqb→eq i n a; later = ltb→lt 0 n b; below = ltb→lt n start_count c; is = same_term→ u t d; rest = e }

-- THE LOOP: k of them are there
pub record Entering (d : Dict) (n : ℕ) (namespace names ids : List ℕ) (from k : ℕ) : Type 0 where
  pub within : k ≤ length ids
  pub upto : Upto d (n + k)
  pub from_within : from ≤ length names
  pub left : T (listed namespace (drop from names) (drop k ids) (n + k))

module _ {d : Dict} {n : ℕ} {namespace names ids : List ℕ} {from k : ℕ} (w : Entering d n namespace names ids from k)
    (h : k < length ids) where
  abbrev i : ℕ
  i = get_or ids k 0

  first : First namespace (drop from names) i (drop (k + 1) ids) (n + k)
  first =
      listed→ namespace (drop from names) i (drop (k + 1) ids) (n + k)
      (subst (λ (x : List ℕ). T (listed namespace (drop from names) x (n + k)))
      (drop-cons ids k 0 h ∙ ap (λ (j : ℕ). i ∷ drop j ids) (sym (add-one k))) w.left)

  -- the next name is that of the next id
  pub entering_next : {end next : ℕ} → Ends names from end next → Next d (get_or ids k 0)
      (namespace ++ take (end - from) (drop from names))
  entering_next e = record {
    before = subst (Upto d) (sym first.id) w.upto;
    later = omega (arith, first.id, first.later);
    below = omega (arith, first.id, first.below);
    is = ap (term_of start_terms) first.id ∙ (first.is ∙ ap (λ (x : List ℕ). term 1 (namespace ++ x)) (sym e.is));
  }

  pub entering_more : {d' : Dict} {end next : ℕ} → Ends names from end next → Upto d' (get_or ids k 0 + 1)
      → Entering d' n namespace names ids next (k + 1)
  entering_more {d'} {end} {next} e u =
      let q : i + 1 ≡ n + (k + 1) = omega (arith, first.id) in
      let p : suc (n + k) ≡ n + (k + 1) = omega arith in
      record {
        within = omega arith;
        upto = subst (Upto d') q u;
        from_within = e.next_within;
        left = subst (λ (x : ℕ). T (listed namespace (drop next names) (drop (k + 1) ids) x)) p
            (subst (λ (x : List ℕ). T (listed namespace x (drop (k + 1) ids) (suc (n + k)))) (sym e.rest) first.rest);
      }
