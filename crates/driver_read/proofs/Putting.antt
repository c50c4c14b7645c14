-- The terms of a line, put one after the other: what is held, the ids, and the first that has no room. Assumes nothing.
use mathlib.Core.Path.{◌≡◌, refl, sym, ◌∙◌, ap, subst}
use mathlib.Core.Logic.{◌⊎◌, inl, inr, ◌≢◌}
use mathlib.Core.Option.{some}
use mathlib.Core.List.{List, [], ◌∷◌}
use Prim.Native.Nat.{ℕ, zero, suc, ◌≤◌}
use native.Mathlib.Omega.{arith}
use lib.Dec.{T}
use lib.ListN.{length, take, length-append}
use lib.Seq.{take_at, take_all, take-take}
use Rattle.common.specs.Triples.{triple}
use Rattle.common.specs.Values.{triple_of}
use Rattle.common.specs.declared.Triple as declared
use Rattle.std.specs.Prelude.{Option as Maybe, Some, None}
use Rattle.dictionary_layout.specs.declared.values.Counters.{Counters}
use Rattle.dictionary_layout.specs.Terms.{Term}
use Rattle.dictionary_layout.specs.Layout.{Dict, layout, decode}
use Rattle.dictionary_layout.specs.Dictionary.{place_of, id_of, PutAnswer, abstract_put, full, all_put, if_zero, put_all, valid}
use Rattle.dictionary_layout.specs.Calls.{PutResult, put_result, put_gives}
use Rattle.dictionary_layout.specs.Values.{contents}
use Rattle.dictionary_layout.proofs.Decoding.{decode_layout, layout_table, layout_arena}
use Rattle.dictionary_layout.proofs.Holding.{Added, put_cases, holds_put, holds_fits}
use Rattle.dictionary_layout.proofs.Reachable.{put_valid}
use Rattle.dictionary_entries.proofs.Reading.{held, count}
use Rattle.dictionary_run_terms.proofs.Places.{put_place, place_kept}
use Rattle.dictionary_puts.specs.Indexed.{Indexed}
use Rattle.ntriples.specs.Grammar.{Terms}
use Rattle.ntriples.specs.Reading.{in_order}
use Rattle.driver_read.specs.declared.values.LineIds.{LineIds}
use Rattle.driver_read.specs.Lines.{Kept, put_as, PutsTerms}

-- WHAT WAS HELD: all of it, and through two steps
pub kept_all : {d : Dict} → T (valid d) → Kept d d
kept_all {d} v = record {
  table = refl;
  arena = refl;
  more = omega arith;
  first = take_all d.terms (decode d) (omega (arith, count d v));
}

pub kept_on : {d e f : Dict} → Kept d e → Kept e f → Kept d f
kept_on {d} {e} {f} k l = record {
  table = l.table ∙ k.table;
  arena = l.arena ∙ k.arena;
  more = omega (arith, k.more, l.more);
  first = sym (take-take d.terms e.terms (decode f) k.more) ∙ (ap (take d.terms) l.first ∙ k.first);
}

-- ONE TERM
module _ {d e : Dict} {hash hash' : List ℕ} (x : Indexed d hash) (y : Indexed e hash') (t : Term) {n i : ℕ}
    (q : put_result n i e ≡ put_gives d t) where
  v : T (valid d)
  v = x.unbroken

  abbrev tl : ℕ
  tl = length d.table

  abbrev al : ℕ
  al = length d.arena

  abbrev p : PutAnswer
  p = abstract_put tl al (decode d) t

  gave : put_result n i e ≡ put_result p.number p.id (layout tl al p.held)
  gave = q ∙ put_valid d t v

  number_is : n ≡ p.number
  number_is = ap (λ (r : PutResult). r.number) gave

  after : e ≡ layout tl al p.held
  after = ap (λ (r : PutResult). r.contents) gave

  held_is : decode e ≡ p.held
  held_is = ap decode after ∙ decode_layout tl al p.held

  abbrev Longer : List Term → Type 0
  Longer us = (length (decode d) ≤ length us) × (take d.terms us ≡ decode d)

  longer : Longer p.held
  longer = go (put_cases tl al (decode d) t)
    where
      go : (p.held ≡ decode d) ⊎ Added tl al (decode d) t p → Longer p.held
      go (inl s) = subst Longer (sym s) (omega arith, take_all d.terms (decode d) (omega (arith, count d v)))
      go (inr a) =
          subst Longer (sym a.longer)
          (omega (arith, length-append (decode d) (t ∷ [])), take_at (decode d) (t ∷ []) d.terms (sym (count d v)))

  pub put_kept : Kept d e
  put_kept =
      let (a, b) = holds_fits tl al p.held (holds_put tl al (decode d) t (held d v)) in
      let (m, f) = longer in
      let c = count e y.unbroken in
      let h = ap (λ (us : List Term). length us) held_is in
      record {
        table = ap (λ (x : Dict). length x.table) after ∙ layout_table tl al p.held a;
        arena = ap (λ (x : Dict). length x.arena) after ∙ layout_arena tl al p.held b;
        more = omega (arith, count d v);
        first = ap (take d.terms) held_is ∙ f;
      }

  -- others behind it: none of them is put where it has no room
  pub put_none : n ≢ 0 → (r : List Term) → put_all tl al (decode d) (t ∷ r) ≡ full
  unfolding put_all
  put_none z r = go p.number (λ w. z (number_is ∙ w))
    where
      go : (m : ℕ) → m ≢ 0 → if_zero m (λ _. put_all tl al p.held r) (λ _. full) ≡ full
      go zero w = absurd (w refl)
      go (suc m) w = refl

  pub put_next : n ≡ 0 → (r : List Term) → put_all tl al (decode d) (t ∷ r) ≡ put_all (length e.table) (length e.arena) (decode e) r
  unfolding put_all
  put_next z r =
      ap (λ (m : ℕ). if_zero m (λ _. put_all tl al p.held r) (λ _. full)) (sym number_is ∙ z)
      ∙ (λ j. put_all (sym put_kept.table j) (sym put_kept.arena j) (sym held_is j) r)

  -- its id, and those of others
  pub put_id : n ≡ 0 → place_of t (decode e) ≡ some i
  put_id z =
      ap (place_of t) held_is ∙ (put_place tl al (decode d) t (sym number_is ∙ z) ∙ ap (λ (r : PutResult). some r.id) (sym gave))

  pub put_others : (u : Term) {j : ℕ} → place_of u (decode d) ≡ some j → place_of u (decode e) ≡ some j
  put_others u {j} s = ap (place_of u) held_is ∙ place_kept tl al (decode d) t u j s

-- THE THREE: one has no room
pub not_put : {d : Dict} {t : Terms} {table arena hash : List ℕ} {r : LineIds} → Indexed (contents table arena r.counters) hash
    → Kept d (contents table arena r.counters) → r.triple ≡ None
    → put_all (length d.table) (length d.arena) (decode d) (in_order t) ≡ full → PutsTerms d t table arena hash r
not_put {d} {t} {table} {arena} {hash} {r} x k n e = record {
  indexed = x;
  kept = k;
  puts = e ∙ ap (λ (m : Maybe declared.Triple). put_as m (contents table arena r.counters)) (sym n);
  named = λ y z. cc;
}

pub no_room_left : {d : Dict} {t : Terms} {table arena hash : List ℕ} {r : LineIds} {c : Counters}
    → r ≡ record { triple = None; counters = c } → Indexed (contents table arena c) hash → Kept d (contents table arena c)
    → put_all (length d.table) (length d.arena) (decode d) (in_order t) ≡ full → PutsTerms d t table arena hash r
no_room_left {d} {t} {table} {arena} {hash} e x k n = subst (PutsTerms d t table arena hash) (sym e) (not_put x k refl n)

-- all are put, with these ids
pub are_put : {d : Dict} {t : Terms} {table arena hash : List ℕ} {r : LineIds} {x : declared.Triple}
    → Indexed (contents table arena r.counters) hash → Kept d (contents table arena r.counters) → r.triple ≡ Some x
    → put_all (length d.table) (length d.arena) (decode d) (in_order t) ≡ all_put (decode (contents table arena r.counters))
    → place_of t.s (decode (contents table arena r.counters)) ≡ some x.s.0
    → place_of t.p (decode (contents table arena r.counters)) ≡ some x.p.0
    → place_of t.o (decode (contents table arena r.counters)) ≡ some x.o.0 → PutsTerms d t table arena hash r
are_put {d} {t} {table} {arena} {hash} {r} {x} i k n e f g h = record {
  indexed = i;
  kept = k;
  puts = e ∙ ap (λ (m : Maybe declared.Triple). put_as m (contents table arena r.counters)) (sym n);
  named = λ y z.
      let same : x ≡ y = cc in
      ap triple_of (sym same) ∙ λ j. triple (id_of (sym f j)) (id_of (sym g j)) (id_of (sym h j));
}

-- none are left to put
pub put_end : (d : Dict) → put_all (length d.table) (length d.arena) (decode d) [] ≡ all_put (decode d)
unfolding put_all
put_end d = refl
