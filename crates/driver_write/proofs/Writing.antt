-- The bytes of a line written one part after the other. Assumes nothing.
use mathlib.Core.Path.{◌≡◌, refl, sym, ap, subst, ◌∙◌}
use mathlib.Core.Bool.{◌&&◌}
use mathlib.Core.Option.{Option, some, none}
use mathlib.Core.List.{List, [], ◌∷◌, ◌++◌, append_assoc, append-nil}
use Prim.Native.Nat.{ℕ, suc, ◌+◌, ◌≤◌, ◌<◌}
use native.Mathlib.Numerals.{add-one}
use native.Mathlib.Omega.{arith}
use lib.Dec.{T, ltb, ltb→lt}
use lib.ListN.{length, set, length-append}
use lib.Seq.{sets}
use Rattle.common.specs.Triples.{Triple}
use Rattle.common.proofs.Lists.{and→}
use Rattle.dictionary_layout.specs.Layout.{Dict}
use Rattle.ntriples.specs.Grammar.{Terms}
use Rattle.ntriples.proofs.Tests.{when→, on→}
use Rattle.ntriples_utf8.specs.Promises.{Wrote}
use Rattle.ntriples_utf8.proofs.Encoding.{wrote}
use Rattle.ntriples_tokens.proofs.Writing.{wrote_none, wrote_then}
use Rattle.ntriples_canonical.specs.Writing.{term_text, may_stand, spaced, line_text, ended_line}
use Rattle.ntriples_canonical.specs.Calls.{known}
use Rattle.ntriples_text.specs.Promises.{or_nothing, TextFits}
use Rattle.driver_write.specs.Lines.{terms_of, LineFits}

-- A TEXT of which the first bytes are written up to place n, and `rest` is left to write; there is room for all
pub record Partly (old : List ℕ) (at : ℕ) (text new : List ℕ) (n : ℕ) (rest : List ℕ) : Type 0 where
  pub first : List ℕ
  pub wrote : Wrote old at first new n
  pub is : first ++ rest ≡ text
  pub room : at + length text ≤ length old

module _ {old : List ℕ} {at : ℕ} {text new : List ℕ} {n : ℕ} where
  -- room for what is left
  pub partly_room : {rest : List ℕ} → Partly old at text new n rest → n + length rest ≤ length new
  partly_room {rest} p =
      omega (arith, p.room, p.wrote.end, p.wrote.same, length-append p.first rest, ap length p.is)

  -- the next part
  pub partly_then : (xs : List ℕ) {rest c : List ℕ} {m : ℕ} → Partly old at text new n (xs ++ rest) → Wrote new n xs c m
      → Partly old at text c m rest
  partly_then xs {rest} p w = record {
    first = p.first ++ xs;
    wrote = wrote_then p.wrote w;
    is = append_assoc p.first xs rest ∙ p.is;
    room = p.room;
  }

  -- bytes stored one after the other
  pub partly_bytes : (xs : List ℕ) {rest : List ℕ} → Partly old at text new n (xs ++ rest)
      → Partly old at text (sets new n xs) (n + length xs) rest
  partly_bytes xs {rest} p =
      partly_then xs p (wrote new n xs (omega (arith, partly_room p, length-append xs rest)))

  -- all
  pub partly_end : Partly old at text new n [] → Wrote old at text new n
  partly_end p = subst (λ (l : List ℕ). Wrote old at l new n) (sym (append-nil p.first) ∙ p.is) p.wrote

  module _ {o : Option (List ℕ)} (xs rest : List ℕ) (p : Partly old at text new n (xs ++ rest)) (e : o ≡ some xs) where
    -- a term's text has room,
    pub partly_fits : TextFits o n new
    partly_fits = record { text = xs; is = e; room = omega (arith, partly_room p, length-append xs rest) }

    -- and is written
    pub partly_text : {c : List ℕ} {m : ℕ} → Wrote new n (or_nothing o) c m → Partly old at text c m rest
    partly_text {c} {m} w = partly_then xs p (subst (λ (t : Option (List ℕ)). Wrote new n (or_nothing t) c m) e w)

-- THE PARTS OF A LINE that is not left out
pub record LineParts (t : Terms) : Type 0 where
  pub may : T (may_stand t)
  pub s : List ℕ
  pub p : List ℕ
  pub o : List ℕ
  pub s_is : term_text t.s ≡ some s
  pub p_is : term_text t.p ≡ some p
  pub o_is : term_text t.o ≡ some o
  pub line_is : s ++ (32 ∷ (p ++ (32 ∷ (o ++ (32 ∷ 46 ∷ 10 ∷ []))))) ≡ ended_line (line_text t)

-- the line feed behind the point
spaced_end : (s p o : List ℕ) → s ++ (32 ∷ (p ++ (32 ∷ (o ++ (32 ∷ 46 ∷ 10 ∷ []))))) ≡ spaced s p o ++ (10 ∷ [])
spaced_end s p o =
    let e = append_assoc o (32 ∷ 46 ∷ []) (10 ∷ []) in
    let f = append_assoc p (32 ∷ (o ++ (32 ∷ 46 ∷ []))) (10 ∷ []) in
    sym (append_assoc s (32 ∷ (p ++ (32 ∷ (o ++ (32 ∷ 46 ∷ []))))) (10 ∷ []) ∙ ap (λ l. s ++ (32 ∷ l)) f
    ∙ ap (λ l. s ++ (32 ∷ (p ++ (32 ∷ l)))) e)

-- a line has them
pub line_parts : (t : Terms) → 0 < length (ended_line (line_text t)) → LineParts t
unfolding line_text
line_parts t h = go (line_text t) refl h
  where
    go : (l : Option (List ℕ)) → line_text t ≡ l → 0 < length (ended_line l) → LineParts t
    go none e h = absurd (omega arith)
    go (some l) e h =
        let (m, f) = when→ (may_stand t) _ e in
        let ws = on→ (term_text t.s) _ l f in
        let wp = on→ (term_text t.p) _ l ws.then in
        let wo = on→ (term_text t.o) _ l wp.then in
        record {
          may = m;
          s = ws.got;
          p = wp.got;
          o = wo.got;
          s_is = ws.is;
          p_is = wp.is;
          o_is = wo.is;
          line_is = spaced_end ws.got wp.got wo.got ∙ ap ended_line (sym (e ∙ sym wo.then));
        }

-- the ids of a known triple
pub known→ : {n : ℕ} {x : Triple} → T (known n x) → (x.s < n) × (x.p < n) × (x.o < n)
known→ {n} {x} k =
    let (s, r) = and→ (ltb x.s n) (ltb x.p n && ltb x.o n) k in
    let (p, o) = and→ (ltb x.p n) (ltb x.o n) r in
    (ltb→lt x.s n s, ltb→lt x.p n p, ltb→lt x.o n o)

-- A LINE, its terms and what stands between them, as they are written
module _ {d : Dict} {x : Triple} {at : ℕ} {page : List ℕ} (f : LineFits d x at page) where
  -- its parts, and what stands behind each
  parts : LineParts (terms_of d x)
  parts = line_parts (terms_of d x) (subst (λ (l : List ℕ). 0 < length l) (sym f.is) f.some)

  abbrev behind_o : List ℕ
  behind_o = 32 ∷ 46 ∷ 10 ∷ []

  abbrev behind_p : List ℕ
  behind_p = 32 ∷ (parts.o ++ behind_o)

  abbrev behind_s : List ℕ
  behind_s = 32 ∷ (parts.p ++ behind_p)

  -- `rest` is left to write
  abbrev Left : List ℕ → ℕ → List ℕ → Type 0
  Left new n rest = Partly page at (ended_line (line_text (terms_of d x))) new n rest

  -- before the subject
  none_put : Left page at (parts.s ++ behind_s)
  none_put = record {
    first = [];
    wrote = wrote_none page at;
    is = parts.line_is;
    room = subst (λ (l : List ℕ). at + length l ≤ length page) (sym f.is) f.room;
  }

  pub subject_fits : TextFits (term_text (terms_of d x).s) at page
  subject_fits = partly_fits parts.s behind_s none_put parts.s_is

  -- after the subject
  module _ {b : List ℕ} {n : ℕ} (u : Wrote page at (or_nothing (term_text (terms_of d x).s)) b n) where
    subject_put : Left b n behind_s
    subject_put = partly_text parts.s behind_s none_put parts.s_is u

    pub subject_room : n + 1 ≤ length b
    subject_room = omega (arith, partly_room subject_put)

    space_put : Left (set b n 32) (n + 1) (parts.p ++ behind_p)
    space_put = partly_bytes (32 ∷ []) subject_put

    pub predicate_fits : TextFits (term_text (terms_of d x).p) (n + 1) (set b n 32)
    predicate_fits = partly_fits parts.p behind_p space_put parts.p_is

    -- after the predicate
    module _ {c : List ℕ} {m : ℕ} (v : Wrote (set b n 32) (n + 1) (or_nothing (term_text (terms_of d x).p)) c m) where
      predicate_put : Left c m behind_p
      predicate_put = partly_text parts.p behind_p space_put parts.p_is v

      pub predicate_room : m + 1 ≤ length c
      predicate_room = omega (arith, partly_room predicate_put)

      pub predicate_same : length c ≡ length page
      predicate_same = predicate_put.wrote.same

      space_put_2 : Left (set c m 32) (m + 1) (parts.o ++ behind_o)
      space_put_2 = partly_bytes (32 ∷ []) predicate_put

      pub object_fits : TextFits (term_text (terms_of d x).o) (m + 1) (set c m 32)
      object_fits = partly_fits parts.o behind_o space_put_2 parts.o_is

      -- after the object
      module _ {e : List ℕ} {k : ℕ} (w : Wrote (set c m 32) (m + 1) (or_nothing (term_text (terms_of d x).o)) e k) where
        object_put : Left e k behind_o
        object_put = partly_text parts.o behind_o space_put_2 parts.o_is w

        pub object_room : k + 3 ≤ length e
        object_room = partly_room object_put

        pub line_same : length e ≡ length page
        line_same = object_put.wrote.same

        pub line_put : Wrote page at (ended_line (line_text (terms_of d x))) (set (set (set e k 32) (k + 1) 46) (k + 2) 10) (k + 3)
        line_put =
            let e2 : k + 2 ≡ suc (suc k) = omega arith in
            rw (add-one k, e2) (partly_end (partly_bytes (32 ∷ 46 ∷ 10 ∷ []) object_put))
