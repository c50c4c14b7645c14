-- What a put gives, case by case, where the contents are valid. Assumes nothing.
use mathlib.Core.Path.{◌≡◌, sym, ◌∙◌, ap}
use mathlib.Core.Option.{some, none}
use mathlib.Core.List.{List, [], ◌∷◌, ◌++◌}
use Prim.Native.Nat.{ℕ, suc, ◌+◌, ◌≤◌, ◌<◌}
use native.Mathlib.Omega.{arith}
use lib.Dec.{T, leb, leb→le, le→leb}
use lib.ListN.{length}
use Rattle.common.specs.Triples.{if}
use Rattle.common.proofs.Lists.{and→, and←}
use Rattle.dictionary_layout.specs.Terms.{Term}
use Rattle.dictionary_layout.specs.Layout.{Dict, chain, size, layout, decode, entry_at}
use Rattle.dictionary_layout.specs.Dictionary.{place_of, kind_known, short, roomy, PutAnswer, put_answer, put_at, abstract_put, valid}
use Rattle.dictionary_layout.specs.Calls.{put_result, put_gives}
use Rattle.dictionary_entries.specs.Entries.{Appendable}
use Rattle.dictionary_layout.proofs.Choice.{if_yes, if_no}
use Rattle.dictionary_layout.proofs.Holding.{roomy→, valid→}
use Rattle.dictionary_layout.proofs.Reachable.{put_valid}
use Rattle.dictionary_entries.proofs.Reading.{count, bytes_used, lengths}

-- REFUSED OR HELD, from the lengths and the terms
module _ (tl al : ℕ) (ts : List Term) (t : Term) where
  abbrev on_short : Unit {0} → PutAnswer
  on_short = λ _. if (short t) (λ _. put_at tl al ts t (place_of t ts)) (λ _. put_answer 11 0 ts)

  pub abstract_put_10 : (T (kind_known t) → ⊥) → abstract_put tl al ts t ≡ put_answer 10 0 ts
  unfolding abstract_put
  abstract_put_10 n = if_no (kind_known t) on_short (λ _. put_answer 10 0 ts) n

  module _ (k : T (kind_known t)) where
    pub abstract_put_11 : (T (short t) → ⊥) → abstract_put tl al ts t ≡ put_answer 11 0 ts
    unfolding abstract_put
    abstract_put_11 n =
        if_yes (kind_known t) on_short (λ _. put_answer 10 0 ts) k
        ∙ if_no (short t) (λ _. put_at tl al ts t (place_of t ts)) (λ _. put_answer 11 0 ts) n

    module _ (s : T (short t)) where
      abstract_put_at : abstract_put tl al ts t ≡ put_at tl al ts t (place_of t ts)
      unfolding abstract_put
      abstract_put_at =
          if_yes (kind_known t) on_short (λ _. put_answer 10 0 ts) k
          ∙ if_yes (short t) (λ _. put_at tl al ts t (place_of t ts)) (λ _. put_answer 11 0 ts) s

      pub abstract_put_held : (i : ℕ) → place_of t ts ≡ some i → abstract_put tl al ts t ≡ put_answer 0 i ts
      abstract_put_held i e = abstract_put_at ∙ ap (put_at tl al ts t) e

      module _ (e : place_of t ts ≡ none) where
        pub abstract_put_7 : (T (roomy tl al ts t) → ⊥) → abstract_put tl al ts t ≡ put_answer 7 0 ts
        abstract_put_7 n =
            abstract_put_at ∙ (ap (put_at tl al ts t) e ∙ if_no (roomy tl al ts t) (λ _. put_answer 0 (length ts) (ts ++ (t ∷ [])))
            (λ _. put_answer 7 0 ts) n)

        pub abstract_put_new : T (roomy tl al ts t) → abstract_put tl al ts t ≡ put_answer 0 (length ts) (ts ++ (t ∷ []))
        abstract_put_new r =
            abstract_put_at ∙ (ap (put_at tl al ts t) e ∙ if_yes (roomy tl al ts t) (λ _. put_answer 0 (length ts) (ts ++ (t ∷ [])))
            (λ _. put_answer 7 0 ts) r)

-- the tests as facts
pub kind_facts : (t : Term) → T (kind_known t) → (1 ≤ t.kind) × (t.kind ≤ 3)
kind_facts t k = let (a, b) = and→ (leb 1 t.kind) (leb t.kind 3) k in (leb→le 1 t.kind a, leb→le t.kind 3 b)

pub kind_in : (t : Term) → 1 ≤ t.kind → t.kind ≤ 3 → T (kind_known t)
kind_in t a b = and← (leb 1 t.kind) (leb t.kind 3) (le→leb 1 t.kind a) (le→leb t.kind 3 b)

pub no_entry : (tl al : ℕ) (ts : List Term) (t : Term) → tl < entry_at (suc (length ts)) → T (roomy tl al ts t) → ⊥
no_entry tl al ts t h r = let q = (roomy→ tl al ts t r).0 in omega arith

pub no_bytes : (tl al : ℕ) (ts : List Term) (t : Term) → al < size ts + length t.bytes → T (roomy tl al ts t) → ⊥
no_bytes tl al ts t h r = let q = (roomy→ tl al ts t r).1 in omega arith

pub room_in : (tl al : ℕ) (ts : List Term) (t : Term) → entry_at (suc (length ts)) ≤ tl → size ts + length t.bytes ≤ al
    → T (roomy tl al ts t)
room_in tl al ts t a b =
    and← (leb (entry_at (suc (length ts))) tl) (leb (size ts + length t.bytes) al) (le→leb (entry_at (suc (length ts))) tl a)
    (le→leb (size ts + length t.bytes) al b)

-- THE SAME OVER CONTENTS
module _ (d : Dict) (v : T (valid d)) (t : Term) where
  abbrev tl : ℕ
  tl = length d.table

  abbrev al : ℕ
  al = length d.arena

  laid_as : (p : PutAnswer) → abstract_put tl al (decode d) t ≡ p → put_gives d t ≡ put_result p.number p.id (layout tl al p.held)
  laid_as p e = put_valid d t v ∙ ap (λ (q : PutAnswer). put_result q.number q.id (layout tl al q.held)) e

  -- an answer that leaves the terms as they are
  unchanged : (n i : ℕ) → abstract_put tl al (decode d) t ≡ put_answer n i (decode d) → put_result n i d ≡ put_gives d t
  unchanged n i e = sym (laid_as (put_answer n i (decode d)) e ∙ ap (put_result n i) (valid→ d v).1)

  pub put_10 : (T (kind_known t) → ⊥) → put_result 10 0 d ≡ put_gives d t
  put_10 n = unchanged 10 0 (abstract_put_10 tl al (decode d) t n)

  module _ (k : T (kind_known t)) where
    pub put_11 : (T (short t) → ⊥) → put_result 11 0 d ≡ put_gives d t
    put_11 n = unchanged 11 0 (abstract_put_11 tl al (decode d) t k n)

    module _ (s : T (short t)) where
      pub put_held : {i : ℕ} → place_of t (decode d) ≡ some i → put_result 0 i d ≡ put_gives d t
      put_held {i} e = unchanged 0 i (abstract_put_held tl al (decode d) t k s i e)

      module _ (absent : place_of t (decode d) ≡ none) where
        pub put_7 : (T (roomy tl al (decode d) t) → ⊥) → put_result 7 0 d ≡ put_gives d t
        put_7 n = unchanged 7 0 (abstract_put_7 tl al (decode d) t k s absent n)

        pub put_full_table : tl < entry_at (d.terms + 1) → put_result 7 0 d ≡ put_gives d t
        put_full_table l = put_7 (no_entry tl al (decode d) t (omega (arith, count d v)))

        pub put_full_arena : al < d.used + length t.bytes → put_result 7 0 d ≡ put_gives d t
        put_full_arena l = put_7 (no_bytes tl al (decode d) t (omega (arith, bytes_used d v)))

        pub put_new : (d' : Dict) → entry_at (d.terms + 1) ≤ tl → d.used + length t.bytes ≤ al
            → d' ≡ layout tl al (decode d ++ (t ∷ [])) → put_result 0 d.terms d' ≡ put_gives d t
        put_new d' a b q =
            let r = room_in tl al (decode d) t (omega (arith, count d v)) (omega (arith, bytes_used d v)) in
            (λ j. put_result 0 (count d v j) (q j)) ∙ sym
            (laid_as (put_answer 0 (length (decode d)) (decode d ++ (t ∷ []))) (abstract_put_new tl al (decode d) t k s absent r))

  -- what append needs
  pub appendable : {c : ℕ} → c ≡ chain t → entry_at (d.terms + 1) ≤ tl → d.used + length t.bytes ≤ al → Appendable d t c
  appendable e a b =
      let l = lengths d v in
      record { laid = (valid→ d v).1; some = omega (arith, l.some); entry = a; table = l.table; bytes = b; arena = l.arena; chained = e }
