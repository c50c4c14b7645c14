-- What a put refuses whatever is held, and what it gives where the term was sought, case by case. Assumes nothing.
use mathlib.Core.Path.{◌≡◌, sym, ◌∙◌, ap}
use mathlib.Core.Logic.{◌≢◌}
use mathlib.Core.Bool.{Bool, true, false}
use Prim.Native.Nat.{ℕ, ◌+◌, ◌≤◌, ◌<◌}
use native.Mathlib.Omega.{arith}
use Rattle.std.specs.Prelude.{Option, Some, None}
use Rattle.std.proofs.Math.Option.{none}
use lib.Dec.{T}
use lib.ListN.{length}
use Rattle.common.specs.Triples.{if}
use Rattle.dictionary_layout.specs.Terms.{Term}
use Rattle.common.specs.declared.Id.{Id}
use Rattle.dictionary_layout.specs.Layout.{Dict, entry_at, decode}
use Rattle.dictionary_layout.specs.Dictionary.{place_of, kind_known, short, valid}
use Rattle.dictionary_layout.specs.Calls.{put_result, put_gives}
use Rattle.dictionary_entries.specs.Entries.{id_found, Appendable, with_term}
use Rattle.dictionary_index.specs.Found.{term_refusal, Found}
use Rattle.dictionary_entries.proofs.Putting.{put_10, put_11, put_held, put_full_table, put_full_arena, put_new, appendable}

module _ (t : Term) where
  -- a term that is not refused
  pub refusal_none : term_refusal t ≡ 0 → T (kind_known t) × T (short t)
  unfolding term_refusal
  refusal_none e = go (kind_known t) (short t) e
    where
      go : (a b : Bool) → ◌≡◌ {A = ℕ} (if a (λ _. if b (λ _. 0) (λ _. 11)) (λ _. 10)) 0 → T a × T b
      go true true e = (tt, tt)
      go true false e = absurd (omega arith)
      go false b e = absurd (omega arith)

  -- a term that is
  pub put_refuses : (d : Dict) → T (valid d) → {n : ℕ} → n ≡ term_refusal t → n ≢ 0 → put_result n 0 d ≡ put_gives d t
  unfolding term_refusal
  put_refuses d v {n} e m = go (kind_known t) (short t) (λ h. h) (λ h. h) (λ h. h) e
    where
      go : (a b : Bool) → (T a → T (kind_known t)) → (T (kind_known t) → T a) → (T (short t) → T b)
          → ◌≡◌ {A = ℕ} n (if a (λ _. if b (λ _. 0) (λ _. 11)) (λ _. 10)) → put_result n 0 d ≡ put_gives d t
      go true true f g h q = absurd (m q)
      go true false f g h q = ap (λ (x : ℕ). put_result x 0 d) q ∙ put_11 d v t (f tt) h
      go false b f g h q = ap (λ (x : ℕ). put_result x 0 d) q ∙ put_10 d v t g

-- WHERE THE TERM WAS SOUGHT
module _ {d : Dict} {t : Term} {c : ℕ} {r : Option Id} (f : Found d t c r) where
  abbrev known : T (kind_known t)
  known = (refusal_none t f.accepted).0

  abbrev fits : T (short t)
  fits = (refusal_none t f.accepted).1

  -- it is held
  pub found_held : {i : Id} → r ≡ Some i → put_result 0 i.0 d ≡ put_gives d t
  found_held e = put_held d f.unbroken t known fits (sym f.place ∙ ap id_found e)

  module _ (e : r ≡ None) where
    abbrev absent : place_of t (decode d) ≡ none
    absent = sym f.place ∙ ap id_found e

    -- no entry is left, or too few bytes
    pub found_full_table : length d.table < entry_at (d.terms + 1) → put_result 7 0 d ≡ put_gives d t
    found_full_table = put_full_table d f.unbroken t known fits absent

    pub found_full_arena : length d.arena < d.used + length t.bytes → put_result 7 0 d ≡ put_gives d t
    found_full_arena = put_full_arena d f.unbroken t known fits absent

    module _ (a : entry_at (d.terms + 1) ≤ length d.table) (b : d.used + length t.bytes ≤ length d.arena) where
      pub found_appendable : Appendable d t c
      found_appendable = appendable d f.unbroken t f.chained a b

      pub found_new : {d' : Dict} → d' ≡ with_term d t → put_result 0 d.terms d' ≡ put_gives d t
      found_new {d'} = put_new d f.unbroken t known fits absent d' a b
