-- THE TEXT OF TRIPLES, READ: those that have a line, in their order, as terms, where there is room for them. Assumes nothing.
use mathlib.Core.Path.{◌≡◌, refl, sym, ◌∙◌, ap, subst}
use mathlib.Core.Bool.{◌&&◌}
use mathlib.Core.Option.{Option, some, none}
use mathlib.Core.List.{List, [], ◌∷◌, ◌++◌, append_assoc, append-nil}
use Prim.Native.Nat.{ℕ, ◌+◌, ◌≤◌, ◌<◌}
use native.Mathlib.Omega.{arith}
use lib.Dec.{T, ltb, ltb→lt, lt→ltb}
use lib.ListN.{length, length-append}
use Rattle.common.specs.Sizes.{load_limit}
use Rattle.common.specs.Triples.{Triple, In, here, there}
use Rattle.common.proofs.Lists.{in_left, in_right, and←}
use Rattle.dictionary_layout.specs.Terms.{Term}
use Rattle.dictionary_layout.specs.Dictionary.{kind_known, short}
use Rattle.dictionary_layout.proofs.Choice.{if_yes, if_no}
use Rattle.dictionary_layout.proofs.Holding.{Fits}
use Rattle.ntriples.specs.Utf8.{decode_after}
use Rattle.ntriples.specs.Characters.{all}
use Rattle.ntriples.specs.Grammar.{Terms, terms, ws, ended, statement, line}
use Rattle.ntriples.specs.Reading.{line_limit, lines, Outcome, read, in_order, all_short, ids, fits, on_put, on_said, read_line, on_read}
use Rattle.ntriples.specs.Reading.{read_lines, read_file}
use Rattle.ntriples.specs.Files.{inline}
use Rattle.ntriples.proofs.Lines.{lines_one, lines_append}
use Rattle.ntriples_canonical.specs.Writing.{line_text, ended_line, text_of, with_line, written, as_terms}
use Rattle.ntriples_canonical.specs.RoundTrip.{with_terms, all_terms}
use Rattle.ntriples_canonical.proofs.Lines.{line_back}
use Rattle.ntriples_canonical.proofs.Lengths.{line_inline, line_short}
use Rattle.ntriples_canonical.proofs.Puts.{id_back, with_grown, fits_less, all_accepted}

-- terms that a put takes
abbrev pub Well : List Term → Type 0
Well xs = (x : Term) → In x xs → T (kind_known x) × T (short x)

-- a line's bytes and a line feed, in front of other lines
line_first : (l f : List ℕ) → T (all inline l) → lines ((l ++ (10 ∷ [])) ++ f) ≡ l ∷ lines f
line_first l f h =
    ap lines (append_assoc l (10 ∷ []) f) ∙ (lines_append 10 l f tt ∙ ap (λ (ls : List (List ℕ)). ls ++ lines f) (lines_one l h))

module _ (tl al cap : ℕ) where
  -- room for triples behind others
  pub record Room (ts : List Term) (xs : List Triple) (w : List Terms) : Type 0 where
    pub well : Well (all_terms w)
    pub fit : Fits tl al (with_terms ts (all_terms w))
    pub few : length xs + length w ≤ load_limit
    pub rows : length xs + length w ≤ cap

  -- the triples ys are read behind the triples xs, and they are w
  pub record Back (ts : List Term) (xs : List Triple) (f : List ℕ) (w : List Terms) : Type 0 where
    pub ys : List Triple
    pub is : read_lines tl al cap ts xs (lines f) ≡ read (with_terms ts (all_terms w)) (xs ++ ys)
    pub same : as_terms (with_terms ts (all_terms w)) ys ≡ w

  -- ONE LINE
  module _ (ts : List Term) (xs : List Triple) (t : Terms) (l : List ℕ) (e : line_text t ≡ some l) (w : Well (in_order t)) where
    abbrev mid : List Term
    mid = with_terms ts (in_order t)

    line_read : Fits tl al mid → length xs < load_limit → length xs < cap → read_line tl al cap ts xs l ≡ read mid (xs ++ (ids mid t ∷ []))
    unfolding read_line
    line_read f m n =
        let s = and← (short t.s) (short t.p && short t.o) (w t.s (here refl)).1
        (and← (short t.p) (short t.o) (w t.p (there (here refl))).1 (w t.o (there (there (here refl)))).1) in
        let room = and← (ltb (length xs) load_limit) (ltb (length xs) cap) (lt→ltb (length xs) load_limit m) (lt→ltb (length xs) cap n) in
        if_no (ltb line_limit (length l)) _ _ (λ q. omega (arith, ltb→lt line_limit (length l) q, line_short t l e s))
        ∙ (ap (on_said tl al cap ts xs) (line_back t l e)
        ∙ (if_yes (all_short t) _ _ s ∙ (ap (on_put cap xs t) (all_accepted tl al ts (in_order t) w f) ∙ if_yes (fits cap xs) _ _ room)))

    -- the terms of its triple, when others have come
    terms_back : (new : List Term) (ys : List Triple) → as_terms (mid ++ new) (ids mid t ∷ ys) ≡ t ∷ as_terms (mid ++ new) ys
    unfolding as_terms
    terms_back new ys =
        let h = (with_grown ts (in_order t)).held in
        let e₁ = id_back mid new t.s (h t.s (here refl)) in
        let e₂ = id_back mid new t.p (h t.p (there (here refl))) in
        let e₃ = id_back mid new t.o (h t.o (there (there (here refl)))) in
        λ i. terms (e₁ i) (e₂ i) (e₃ i) ∷ as_terms (mid ++ new) ys

    -- it, and the lines after it
    more : (f : List ℕ) (w : List Terms) → Room ts xs (t ∷ w)
        → (Room mid (xs ++ (ids mid t ∷ [])) w → Back mid (xs ++ (ids mid t ∷ [])) f w) → Back ts xs ((l ++ (10 ∷ [])) ++ f) (t ∷ w)
    unfolding all_terms with_terms read_lines
    more f w r k =
        let x = ids mid t in
        let g = with_grown mid (all_terms w) in
        let len = length-append xs (x ∷ []) in
        let m = r.few in
        let n = r.rows in
        let fit = fits_less tl al mid g.new (subst (Fits tl al) g.whole r.fit) in
        let b = k (record { well = λ y i. r.well y (in_right (in_order t) i); fit = r.fit; few = omega arith; rows = omega arith }) in
        record {
          ys = x ∷ b.ys;
          is =
              ap (read_lines tl al cap ts xs) (line_first l f (line_inline t l e))
              ∙ (ap (λ (o : Outcome). on_read o (λ us ys. read_lines tl al cap us ys (lines f)))
              (line_read fit (omega arith) (omega arith))
              ∙ (b.is ∙ ap (read (with_terms mid (all_terms w))) (append_assoc xs (x ∷ []) b.ys)));
          same =
              subst (λ (us : List Term). as_terms us (x ∷ b.ys) ≡ t ∷ as_terms us b.ys) (sym g.whole) (terms_back g.new b.ys)
              ∙ ap (λ (v : List Terms). t ∷ v) b.same;
        }

  -- ALL LINES
  read_back : (v : List Terms) (ts : List Term) (xs : List Triple) → Room ts xs (written v) → Back ts xs (text_of v) (written v)
  unfolding text_of written lines read_lines read_line line decode_after statement ended ws all_terms with_terms as_terms
  read_back [] ts xs r = record { ys = []; is = ap (read ts) (sym (append-nil xs)); same = refl }
  read_back (t ∷ v) ts xs r = go (line_text t) refl r (read_back v)
    where
      go : (o : Option (List ℕ)) → line_text t ≡ o → Room ts xs (with_line o t (written v))
          → ((us : List Term) (ys : List Triple) → Room us ys (written v) → Back us ys (text_of v) (written v))
          → Back ts xs (ended_line o ++ text_of v) (with_line o t (written v))
      go none e r k = k ts xs r
      go (some l) e r k = more ts xs t l e (λ x i. r.well x (in_left (all_terms (written v)) i)) (text_of v) (written v) r (k _ _)

  -- A FILE
  pub file_back : (v : List Terms) (ts : List Term) → Room ts [] (written v)
      → (ys : List Triple) × (read_file tl al cap ts (text_of v) ≡ read (with_terms ts (all_terms (written v))) ys)
      × (as_terms (with_terms ts (all_terms (written v))) ys ≡ written v)
  unfolding read_file
  file_back v ts r = let b = read_back v ts [] r in (b.ys, b.is, b.same)
