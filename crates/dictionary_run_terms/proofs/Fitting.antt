-- The terms not held are put together or not at all: put exactly where all of them fit. Assumes nothing.
use mathlib.Core.Path.{◌≡◌, refl, sym, ◌∙◌, ap, subst}
use mathlib.Core.Logic.{◌⊎◌, inl, inr}
use mathlib.Core.Option.{Option, some, none}
use mathlib.Core.List.{List, [], ◌∷◌, ◌++◌, append_assoc, append-nil}
use Prim.Native.Nat.{ℕ, suc, ◌+◌, ◌*◌, ◌≤◌, ◌<◌}
use native.Mathlib.Omega.{arith}
use lib.Dec.{T, leb, leb→le, le→leb}
use lib.ListN.{length, length-append}
use Rattle.dictionary_layout.specs.declared.values.Counters.{Counters}
use Rattle.common.specs.Triples.{In, here, there, Distinct}
use Rattle.common.specs.Sizes.{heads_width, entry_width}
use Rattle.common.proofs.Lists.{in_nil, and→}
use Rattle.dictionary_layout.specs.Terms.{Term, property_term, membership_term, member_term, run_terms}
use Rattle.dictionary_layout.specs.Layout.{Dict, size, decode}
use Rattle.dictionary_layout.specs.Dictionary.{place_from, place_of, kind_known, short, roomy, PutAnswer, AllPut, full, all_put}
use Rattle.dictionary_layout.specs.Dictionary.{if_zero, put_all, valid}
use Rattle.dictionary_run_terms.specs.Running.{is_all_put}
use Rattle.dictionary_layout.proofs.Choice.{is_true, is_false, decide_bool}
use Rattle.dictionary_layout.proofs.Decoding.{size_append}
use Rattle.dictionary_layout.proofs.Holding.{Fits, holds_fits}
use Rattle.dictionary_layout.proofs.Distinct.{absent→, in_well}
use Rattle.dictionary_entries.proofs.Reading.{held, count, bytes_used}
use Rattle.dictionary_entries.proofs.Putting.{abstract_put_held, abstract_put_7, abstract_put_new, room_in}
use Rattle.dictionary_run_terms.proofs.Places.{place_here}
use Rattle.dictionary_run_terms.proofs.Counting.{new_at, new, count_all, count_new}

-- terms that can be put, none of them twice
pub record Ready (r : List Term) : Type 0 where
  pub well : (t : Term) → In t r → T (kind_known t) × T (short t)
  pub distinct : Distinct r

new_snoc : (ts : List Term) (t : Term) (r : List Term) → (In t r → ⊥) → new (ts ++ (t ∷ [])) r ≡ new ts r
unfolding new
new_snoc ts t [] n = refl
new_snoc ts t (u ∷ r) n = λ i. new_at (place_here 0 ts t u (λ e. n (here (sym e))) i) u (new_snoc ts t r (λ j. n (there j)) i)

-- PUT exactly where all of them fit
module _ (tl al : ℕ) where
  pub record PutsAll (ts r : List Term) : Type 0 where
    pub fits : Fits tl al (ts ++ new ts r) → put_all tl al ts r ≡ all_put (ts ++ new ts r)
    pub fails : (Fits tl al (ts ++ new ts r) → ⊥) → put_all tl al ts r ≡ full

  abbrev after : List Term → PutAnswer → AllPut
  after r p = if_zero p.number (λ _. put_all tl al p.held r) (λ _. full)

  fits_room : (ts : List Term) (t : Term) (us : List Term) → Fits tl al (ts ++ (t ∷ us)) → T (roomy tl al ts t)
  fits_room ts t us f = room_in tl al ts t (omega (arith, f.0, length-append ts (t ∷ us))) (omega (arith, f.1, size_append ts (t ∷ us)))

  fits_more : (ts : List Term) (t : Term) → T (roomy tl al ts t) → Fits tl al (ts ++ (t ∷ []))
  fits_more ts t r =
      let (a, b) = and→ (leb (heads_width + entry_width * suc (length ts)) tl) (leb (size ts + length t.bytes) al) r in (
        omega (arith, leb→le (heads_width + entry_width * suc (length ts)) tl a, length-append ts (t ∷ [])),
        omega (arith, leb→le (size ts + length t.bytes) al b, size_append ts (t ∷ [])),
      )

  pub puts_all : (ts r : List Term) → Fits tl al ts → Ready r → PutsAll ts r
  unfolding put_all new
  puts_all ts [] f w =
      record { fits = λ _. ap all_put (sym (append-nil ts)); fails = λ n. absurd (n (subst (Fits tl al) (sym (append-nil ts)) f)) }
  puts_all ts (t ∷ r) f w =
      go (place_of t ts) refl (decide_bool (roomy tl al ts t)) (puts_all ts r f rest) (λ g. puts_all (ts ++ (t ∷ [])) r g rest)
    where
      rest : Ready r
      rest = record { well = λ u i. w.well u (there i); distinct = w.distinct.1 }

      k : T (kind_known t)
      k = (w.well t (here refl)).0

      s : T (short t)
      s = (w.well t (here refl)).1

      -- with t added
      longer : new (ts ++ (t ∷ [])) r ≡ new ts r
      longer = new_snoc ts t r w.distinct.0

      whole : ts ++ (t ∷ new ts r) ≡ (ts ++ (t ∷ [])) ++ new (ts ++ (t ∷ [])) r
      whole = sym (append_assoc ts (t ∷ []) (new ts r)) ∙ ap (λ (l : List Term). (ts ++ (t ∷ [])) ++ l) (sym longer)

      one_more : place_of t ts ≡ none → new ts (t ∷ r) ≡ t ∷ new ts r
      one_more p = ap (λ (o : Option ℕ). new_at o t (new ts r)) p

      added : place_of t ts ≡ none → T (roomy tl al ts t) → PutsAll (ts ++ (t ∷ [])) r → PutsAll ts (t ∷ r)
      added p q b =
          let e = ap (after r) (abstract_put_new tl al ts t k s p q) in
          let n = ap (λ (l : List Term). ts ++ l) (one_more p) ∙ whole in
          record {
            fits = λ g. e ∙ (b.fits (subst (Fits tl al) n g) ∙ ap all_put (sym n));
            fails = λ g. e ∙ b.fails (λ h. g (subst (Fits tl al) (sym n) h));
          }

      held_case : (i : ℕ) → place_of t ts ≡ some i → PutsAll ts r → PutsAll ts (t ∷ r)
      held_case i p b =
          let e = ap (after r) (abstract_put_held tl al ts t k s i p) in
          let n = ap (λ (o : Option ℕ). ts ++ new_at o t (new ts r)) p in
          record {
            fits = λ g. e ∙ (b.fits (subst (Fits tl al) n g) ∙ ap all_put (sym n));
            fails = λ g. e ∙ b.fails (λ h. g (subst (Fits tl al) (sym n) h));
          }

      full_case : place_of t ts ≡ none → (T (roomy tl al ts t) → ⊥) → PutsAll ts (t ∷ r)
      full_case p q =
          let e = ap (after r) (abstract_put_7 tl al ts t k s p q) in
          record {
            fits = λ g. absurd (q (fits_room ts t (new ts r) (subst (λ (l : List Term). Fits tl al (ts ++ l)) (one_more p) g)));
            fails = λ _. e;
          }

      go : (o : Option ℕ) → place_of t ts ≡ o → T (roomy tl al ts t) ⊎ (T (roomy tl al ts t) → ⊥) → PutsAll ts r
          → (Fits tl al (ts ++ (t ∷ [])) → PutsAll (ts ++ (t ∷ [])) r) → PutsAll ts (t ∷ r)
      go (some i) p q b c = held_case i p b
      go none p (inl q) b c = added p q (c (fits_more ts t q))
      go none p (inr q) b c = full_case p q

-- the run's three terms can be put
run_ready : Ready run_terms
unfolding run_terms place_from
run_ready = record {
  well = in_well run_terms tt;
  distinct = (
    absent→ 0 property_term (membership_term ∷ member_term ∷ []) refl,
    (absent→ 0 membership_term (member_term ∷ []) refl, (in_nil, tt)),
  );
}

-- WHETHER THE THREE FIT
module _ (d : Dict) (v : T (valid d)) (c : Counters)
    (e : c ≡ count_all (decode d) run_terms (record { terms = d.terms; used = d.used })) where
  abbrev tl : ℕ
  tl = length d.table

  abbrev al : ℕ
  al = length d.arena

  abbrev us : List Term
  us = decode d ++ new (decode d) run_terms

  counts : (c.terms ≡ length us) × (c.used ≡ size us)
  counts =
      let (a, b) = count_new (decode d) run_terms (record { terms = d.terms; used = d.used }) in (
        omega (arith, a, ap (λ (x : Counters). x.terms) e, length-append (decode d) (new (decode d) run_terms), count d v),
        omega (arith, b, ap (λ (x : Counters). x.used) e, size_append (decode d) (new (decode d) run_terms), bytes_used d v),
      )

  together : PutsAll tl al (decode d) run_terms
  together = puts_all tl al (decode d) run_terms (holds_fits tl al (decode d) (held d v)) run_ready

  pub run_no_entry : tl < heads_width + entry_width * c.terms
      → leb (heads_width + entry_width * c.terms) tl ≡ is_all_put (put_all tl al (decode d) run_terms)
  run_no_entry h =
      let n = heads_width + entry_width * c.terms in
      sym (is_false (leb n tl) (λ t. let q = leb→le n tl t in omega arith))
      ∙ sym (ap is_all_put (together.fails (λ f. omega (arith, f.0, counts.0))))

  pub run_by_bytes : heads_width + entry_width * c.terms ≤ tl → leb c.used al ≡ is_all_put (put_all tl al (decode d) run_terms)
  run_by_bytes h = go (decide_bool (leb c.used al))
    where
      go : T (leb c.used al) ⊎ (T (leb c.used al) → ⊥) → leb c.used al ≡ is_all_put (put_all tl al (decode d) run_terms)
      go (inl t) =
          sym (is_true (leb c.used al) t) ∙ sym (ap is_all_put
          (together.fits (omega (arith, counts.0), omega (arith, leb→le c.used al t, counts.1))))
      go (inr n) =
          sym (is_false (leb c.used al) n) ∙ sym (ap is_all_put
          (together.fails (λ f. n (le→leb c.used al (omega (arith, f.1, counts.1))))))
