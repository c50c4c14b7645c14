-- `triple::put_terms` meets its contract. Assumes nothing.
use Rattle.common.proofs.Refusals.{numbered}
use mathlib.Core.Path.{◌≡◌, refl, ◌∙◌}
use mathlib.Core.Logic.{◌≢◌}
use mathlib.Core.List.{List, [], ◌∷◌}
use mathlib.Core.Option.{some}
use Prim.Native.Nat.{ℕ}
use lib.ListN.{length}
use Rattle.dictionary_layout.specs.Layout.{Dict, decode}
use Rattle.dictionary_layout.specs.Terms.{Term}
use Rattle.dictionary_layout.specs.Dictionary.{AllPut, full, all_put, put_all, place_of}
use Rattle.dictionary_layout.specs.Calls.{put_result, put_gives}
use Rattle.dictionary_puts.specs.Indexed.{Indexed}
use Rattle.ntriples.specs.Grammar.{Terms}
use Rattle.ntriples.specs.Reading.{in_order}
use Rattle.ntriples_lines.specs.Promises.{terms_at}
use Rattle.driver_read.specs.Lines.{Kept}
use Rattle.driver_read.proofs.Putting.{kept_on, put_kept, put_none, put_next, put_id, put_others, no_room_left, are_put, put_end}
use Rattle.driver_read.proofs.triple.put_terms.Goals as goal

-- what puts of terms in a dictionary come to
abbrev puts : Dict → List Term → AllPut
puts d ts = put_all (length d.table) (length d.arena) (decode d) ts

-- the subject is put
module _ {d₀ d₁ : Dict} {h₀ h₁ : List ℕ} (x₀ : Indexed d₀ h₀) (x₁ : Indexed d₁ h₁) (t : Terms) {n₁ i₁ : ℕ}
    (q₁ : put_result n₁ i₁ d₁ ≡ put_gives d₀ t.s) where
  kept₁ : Kept d₀ d₁
  kept₁ = put_kept x₀ x₁ t.s q₁

  none₁ : n₁ ≢ 0 → puts d₀ (in_order t) ≡ full
  none₁ n = put_none x₀ x₁ t.s q₁ n (t.p ∷ t.o ∷ [])

  next₁ : n₁ ≡ 0 → puts d₀ (in_order t) ≡ puts d₁ (t.p ∷ t.o ∷ [])
  next₁ n = put_next x₀ x₁ t.s q₁ n (t.p ∷ t.o ∷ [])

  -- the predicate is put
  module _ (e₁ : n₁ ≡ 0) {d₂ : Dict} {h₂ : List ℕ} (x₂ : Indexed d₂ h₂) {n₂ i₂ : ℕ} (q₂ : put_result n₂ i₂ d₂ ≡ put_gives d₁ t.p) where
    kept₂ : Kept d₀ d₂
    kept₂ = kept_on kept₁ (put_kept x₁ x₂ t.p q₂)

    none₂ : n₂ ≢ 0 → puts d₀ (in_order t) ≡ full
    none₂ n = next₁ e₁ ∙ put_none x₁ x₂ t.p q₂ n (t.o ∷ [])

    next₂ : n₂ ≡ 0 → puts d₀ (in_order t) ≡ puts d₂ (t.o ∷ [])
    next₂ n = next₁ e₁ ∙ put_next x₁ x₂ t.p q₂ n (t.o ∷ [])

    -- the object is put
    module _ (e₂ : n₂ ≡ 0) {d₃ : Dict} {h₃ : List ℕ} (x₃ : Indexed d₃ h₃) {n₃ i₃ : ℕ} (q₃ : put_result n₃ i₃ d₃ ≡ put_gives d₂ t.o) where
      kept₃ : Kept d₀ d₃
      kept₃ = kept_on kept₂ (put_kept x₂ x₃ t.o q₃)

      none₃ : n₃ ≢ 0 → puts d₀ (in_order t) ≡ full
      none₃ n = next₂ e₂ ∙ put_none x₂ x₃ t.o q₃ n []

      next₃ : n₃ ≡ 0 → puts d₀ (in_order t) ≡ all_put (decode d₃)
      next₃ n = next₂ e₂ ∙ (put_next x₂ x₃ t.o q₃ n [] ∙ put_end d₃)

      s_named : place_of t.s (decode d₃) ≡ some i₁
      s_named = put_others x₂ x₃ t.o q₃ t.s (put_others x₁ x₂ t.p q₂ t.s (put_id x₀ x₁ t.s q₁ e₁))

      p_named : place_of t.p (decode d₃) ≡ some i₂
      p_named = put_others x₂ x₃ t.o q₃ t.p (put_id x₁ x₂ t.p q₂ e₂)

      o_named : n₃ ≡ 0 → place_of t.o (decode d₃) ≡ some i₃
      o_named n = put_id x₂ x₃ t.o q₃ n

pub returns-in_default : goal.returns-in_default
returns-in_default c =
    let t = terms_at c.args.t c.args.out.now in
    let s = c.in_default.ensures in
    no_room_left c.no_room.ensures s.indexed (kept₁ c.requires.0 s.indexed t s.arena_after)
    (none₁ c.requires.0 s.indexed t s.arena_after (numbered c.in_default.field-0))

pub returns-in_default-put_indexed : goal.returns-in_default-put_indexed
returns-in_default-put_indexed c =
    let t = terms_at c.args.t c.args.out.now in
    let s = c.in-Ok.ensures in
    let p = c.in_default-put_indexed.ensures in
    no_room_left c.no_room-in_default-put_indexed.ensures p.indexed
    (kept₂ c.requires.0 s.indexed t s.arena_after refl p.indexed p.arena_after)
    (none₂ c.requires.0 s.indexed t s.arena_after refl p.indexed p.arena_after (numbered c.in_default-put_indexed.field-0))

pub returns-in_default-put_indexed-2 : goal.returns-in_default-put_indexed-2
returns-in_default-put_indexed-2 c =
    let t = terms_at c.args.t c.args.out.now in
    let s = c.in-Ok.ensures in
    let p = c.in-Ok-put_indexed.ensures in
    let o = c.in_default-put_indexed-2.ensures in
    no_room_left c.no_room-in_default-put_indexed-2.ensures o.indexed
    (kept₃ c.requires.0 s.indexed t s.arena_after refl p.indexed p.arena_after refl o.indexed o.arena_after)
    (none₃ c.requires.0 s.indexed t s.arena_after refl p.indexed p.arena_after refl o.indexed o.arena_after
    (numbered c.in_default-put_indexed-2.field-0))

pub returns : goal.returns
returns c =
    let x = c.requires.0 in
    let t = terms_at c.args.t c.args.out.now in
    let s = c.in-Ok.ensures in
    let p = c.in-Ok-put_indexed.ensures in
    let o = c.in-Ok-put_indexed-2.ensures in
    are_put o.indexed (kept₃ x s.indexed t s.arena_after refl p.indexed p.arena_after refl o.indexed o.arena_after) refl
    (next₃ x s.indexed t s.arena_after refl p.indexed p.arena_after refl o.indexed o.arena_after refl)
    (s_named x s.indexed t s.arena_after refl p.indexed p.arena_after refl o.indexed o.arena_after)
    (p_named x s.indexed t s.arena_after refl p.indexed p.arena_after refl o.indexed o.arena_after)
    (o_named x s.indexed t s.arena_after refl p.indexed p.arena_after refl o.indexed o.arena_after refl)
