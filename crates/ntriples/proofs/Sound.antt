-- What each terminal gives meets the conditions of specs/Nodes.antt, and scalar values are left after it. Assumes nothing.
use mathlib.Core.Path.{◌≡◌, refl, sym, ◌∙◌, ap, subst}
use mathlib.Core.Logic.{◌⊎◌, inl, inr}
use mathlib.Core.Bool.{Bool, true, false, ◌&&◌, ◌||◌}
use mathlib.Core.Option.{Option, some}
use mathlib.Core.List.{List, [], ◌∷◌}
use Prim.Native.Nat.{ℕ, zero, suc}
use lib.Dec.{T, eqb, eqb→eq}
use Rattle.common.specs.Triples.{if}
use Rattle.common.proofs.Lists.{and→, and←}
use Rattle.ntriples.specs.Utf8.{scalar, Taken, taken, on}
use Rattle.ntriples.specs.Characters.{digit, one_of, all, pn_chars_u, pn_chars, iri_char, string_char, echar, no_echar, iri}
use Rattle.ntriples.specs.Characters.{tag_char, tag, blank}
use Rattle.ntriples.specs.Grammar.{Token, token, before, push, when, hexes, uchar, escape, quoted, iri_after, iriref}
use Rattle.ntriples.specs.Grammar.{string_literal_quote, dotted, label_rest, label, blank_node_label, tag_run, langtag, ws}
use Rattle.ntriples.specs.Grammar.{xsd_string, typed, suffix}
use Rattle.ntriples.specs.Nodes.{whole}
use Rattle.ntriples.proofs.Tests.{if_ind, or_left, or_right, no_some, same_some, on→, when→, when←}
use Rattle.ntriples.proofs.Tokens.{one_of→, one_of_none}

-- a token of scalar values, and scalar values after it
pub record Scalars (t : Token) : Type 0 where
  pub chars : T (all scalar t.chars)
  pub rest : T (all scalar t.rest)

-- ESCAPES name scalar values
abbrev Letters : (ℕ → Option ℕ) → Type 0
Letters letters = (c d : ℕ) → letters c ≡ some d → T (scalar d)

echar_letters : Letters echar
unfolding echar
echar_letters c d =
    if_ind (λ (o : Option ℕ). o ≡ some d → T (scalar d)) (eqb c 116) _ _ (λ _ e. at 9 tt e) λ _.
    if_ind (λ (o : Option ℕ). o ≡ some d → T (scalar d)) (eqb c 98) _ _ (λ _ e. at 8 tt e) λ _.
    if_ind (λ (o : Option ℕ). o ≡ some d → T (scalar d)) (eqb c 110) _ _ (λ _ e. at 10 tt e) λ _.
    if_ind (λ (o : Option ℕ). o ≡ some d → T (scalar d)) (eqb c 114) _ _ (λ _ e. at 13 tt e) λ _.
    if_ind (λ (o : Option ℕ). o ≡ some d → T (scalar d)) (eqb c 102) _ _ (λ _ e. at 12 tt e) λ _.
    if_ind (λ (o : Option ℕ). o ≡ some d → T (scalar d)) (one_of (34 ∷ 39 ∷ 92 ∷ []) c) _ _
    (λ h e. at c (first (one_of→ c 34 (39 ∷ 92 ∷ []) h)) e) (λ _ e. no_some e)
  where
    at : (x : ℕ) → T (scalar x) → ◌≡◌ {A = Option ℕ} (some x) (some d) → T (scalar d)
    at x h e = let q : x ≡ d = cc in subst (λ (y : ℕ). T (scalar y)) q h

    is : (x : ℕ) → T (scalar x) → T (eqb c x) → T (scalar c)
    is x h e = subst (λ (y : ℕ). T (scalar y)) (sym (eqb→eq c x e)) h

    third : T (eqb c 92) ⊎ T (one_of [] c) → T (scalar c)
    third (inl e) = is 92 tt e
    third (inr e) = absurd (one_of_none c e)

    second : T (eqb c 39) ⊎ T (one_of (92 ∷ []) c) → T (scalar c)
    second (inl e) = is 39 tt e
    second (inr e) = third (one_of→ c 92 [] e)

    first : T (eqb c 34) ⊎ T (one_of (39 ∷ 92 ∷ []) c) → T (scalar c)
    first (inl e) = is 34 tt e
    first (inr e) = second (one_of→ c 39 (92 ∷ []) e)

no_letters : Letters no_echar
no_letters c d e = no_some e

uchar_scalar : (n : ℕ) (cs : List ℕ) (t : Taken) → uchar n cs ≡ some t → T (scalar t.value)
unfolding uchar
uchar_scalar n cs t e =
    let w = on→ (hexes n 0 cs) (λ v. when (scalar v) (λ _. some (taken v (suc n)))) t e in
    let (h, q) = when→ (scalar w.got) (λ _. some (taken w.got (suc n))) w.then in
    subst (λ (x : Taken). T (scalar x.value)) (same_some q) h

escape_scalar : (letters : ℕ → Option ℕ) → Letters letters → (cs : List ℕ) (t : Taken) → escape letters cs ≡ some t → T (scalar t.value)
unfolding escape
escape_scalar letters l [] t e = no_some e
escape_scalar letters l (c ∷ cs) t e =
    if_ind (λ (o : Option Taken). o ≡ some t → T (scalar t.value)) (eqb c 117) _ _ (λ _ e. uchar_scalar 4 cs t e) (λ _.
    if_ind (λ (o : Option Taken). o ≡ some t → T (scalar t.value)) (eqb c 85) _ _ (λ _ e. uchar_scalar 8 cs t e) (λ _ e.
    let w = on→ (letters c) (λ d. some (taken d 1)) t e in
    subst (λ (x : Taken). T (scalar x.value)) (same_some w.then) (l c w.got w.is))) e

module _ (stop : ℕ) (raw : ℕ → Bool) (letters : ℕ → Option ℕ) (l : Letters letters) where
  pushed : (c : ℕ) (o : Option Token) (t : Token) → on o (push c) ≡ some t → T (scalar c) → ((u : Token) → o ≡ some u → Scalars u)
      → Scalars t
  pushed c o t e s k =
      let w = on→ o (push c) t e in
      let u = k w.got w.is in
      subst Scalars (same_some w.then) (record { chars = and← (scalar c) (all scalar w.got.chars) s u.chars; rest = u.rest })

  quoted_scalars : (k : ℕ) (cs : List ℕ) → T (all scalar cs) → (t : Token) → quoted stop raw letters k cs ≡ some t → Scalars t
  unfolding quoted
  quoted_scalars k [] h t e = no_some e
  quoted_scalars zero (c ∷ cs) h t e =
      let (i, j) = and→ (scalar c) (all scalar cs) h in
      if_ind (λ (o : Option Token). o ≡ some t → Scalars t) (eqb c stop) _ _
      (λ _ q. subst Scalars (same_some q) (record { chars = tt; rest = j })) (λ _.
      if_ind (λ (o : Option Token). o ≡ some t → Scalars t) (eqb c 92) _ _
      (λ _ q.
      let w = on→ (escape letters cs) (λ x. on (quoted stop raw letters x.extra cs) (push x.value)) t q in
      pushed w.got.value (quoted stop raw letters w.got.extra cs) t w.then (escape_scalar letters l cs w.got w.is)
      (quoted_scalars w.got.extra cs j))
      (λ _ q.
      let (r, f) = when→ (raw c) (λ _. on (quoted stop raw letters zero cs) (push c)) q in
      pushed c (quoted stop raw letters zero cs) t f i (quoted_scalars zero cs j))) e
  quoted_scalars (suc k) (c ∷ cs) h t e = quoted_scalars k cs (and→ (scalar c) (all scalar cs) h).1 t e

-- IRIREF
pub iri_sound : (cs : List ℕ) → T (all scalar cs) → (t : Token) → iriref cs ≡ some t → Scalars t × T (iri t.chars)
unfolding iriref iri_after
iri_sound [] h t e = no_some e
iri_sound (c ∷ cs) h t e =
    let (_, f) = when→ (eqb c 60) (λ _. on (quoted 62 iri_char no_echar 0 cs) (λ t. when (iri t.chars) (λ _. some t))) e in
    let w = on→ (quoted 62 iri_char no_echar 0 cs) (λ t. when (iri t.chars) (λ _. some t)) t f in
    let (i, q) = when→ (iri w.got.chars) (λ _. some w.got) w.then in
    subst (λ (x : Token). Scalars x × T (iri x.chars)) (same_some q)
    (quoted_scalars 62 iri_char no_echar no_letters 0 cs (and→ (scalar c) (all scalar cs) h).1 w.got w.is, i)

-- STRING_LITERAL_QUOTE
pub string_sound : (cs : List ℕ) → T (all scalar cs) → (t : Token) → string_literal_quote cs ≡ some t → Scalars t
unfolding string_literal_quote
string_sound [] h t e = no_some e
string_sound (c ∷ cs) h t e =
    let (_, f) = when→ (eqb c 34) (λ _. quoted 34 string_char echar 0 cs) e in
    quoted_scalars 34 string_char echar echar_letters 0 cs (and→ (scalar c) (all scalar cs) h).1 t f

-- BLANK_NODE_LABEL: what was taken is all a label
module _ (c : ℕ) where
  abbrev step : Bool → Bool → List ℕ → Token → Token
  step b d cs t = if b (λ _. before c t) (λ _. if d (λ _. dotted c cs t.chars t.rest) (λ _. token [] (c ∷ cs)))

  step_again : (b d : Bool) (cs : List ℕ) (t : Token) → (f : List ℕ → Token) → f [] ≡ token [] []
      → ((x : ℕ) (xs : List ℕ) → x ≡ c → f (x ∷ xs) ≡ step b d xs (f xs))
      → f t.chars ≡ token t.chars [] → f (step b d cs t).chars ≡ token (step b d cs t).chars []
  step_again true d cs t f z s k = s c t.chars refl ∙ ap (before c) k
  step_again false true cs t f z s k = dots t.chars t.rest k
    where
      dots : (ts tr : List ℕ) → f ts ≡ token ts [] → f (dotted c cs ts tr).chars ≡ token (dotted c cs ts tr).chars []
      dots [] tr k = z
      dots (x ∷ xs) tr k = s c (x ∷ xs) refl ∙ ap (λ (u : Token). dotted c (x ∷ xs) u.chars u.rest) k
  step_again false false cs t f z s k = z

  step_scalars : (b d : Bool) (cs : List ℕ) (t : Token) → T (scalar c) → T (all scalar cs) → Scalars t → Scalars (step b d cs t)
  step_scalars true d cs t s h k = record { chars = and← (scalar c) (all scalar t.chars) s k.chars; rest = k.rest }
  step_scalars false true cs t s h k = dots t.chars t.rest k.chars k.rest
    where
      dots : (ts tr : List ℕ) → T (all scalar ts) → T (all scalar tr) → Scalars (dotted c cs ts tr)
      dots [] tr a b = record { chars = tt; rest = and← (scalar c) (all scalar cs) s h }
      dots (x ∷ xs) tr a b = record { chars = and← (scalar c) (all scalar (x ∷ xs)) s a; rest = b }
  step_scalars false false cs t s h k = record { chars = tt; rest = and← (scalar c) (all scalar cs) s h }

label_step : (c x : ℕ) (xs : List ℕ) → x ≡ c → label_rest (x ∷ xs) ≡ step c (pn_chars c) (eqb c 46) xs (label_rest xs)
unfolding label_rest
label_step c x xs e = ap (λ (y : ℕ). step y (pn_chars y) (eqb y 46) xs (label_rest xs)) e

label_again : (cs : List ℕ) → label_rest (label_rest cs).chars ≡ token (label_rest cs).chars []
unfolding label_rest
label_again [] = refl
label_again (c ∷ cs) = step_again c (pn_chars c) (eqb c 46) cs (label_rest cs) label_rest refl (label_step c) (label_again cs)

label_scalars : (cs : List ℕ) → T (all scalar cs) → Scalars (label_rest cs)
unfolding label_rest
label_scalars [] h = record { chars = tt; rest = tt }
label_scalars (c ∷ cs) h =
    let (i, j) = and→ (scalar c) (all scalar cs) h in step_scalars c (pn_chars c) (eqb c 46) cs (label_rest cs) i j (label_scalars cs j)

label_sound : (cs : List ℕ) → T (all scalar cs) → (t : Token) → label cs ≡ some t → Scalars t × T (whole (label t.chars))
unfolding label
label_sound [] h t e = no_some e
label_sound (c ∷ cs) h t e =
    let (i, j) = and→ (scalar c) (all scalar cs) h in
    let (s, q) = when→ (pn_chars_u c || digit c) (λ _. push c (label_rest cs)) e in
    let r = label_scalars cs j in
    let w : when (pn_chars_u c || digit c) (λ _. push c (label_rest (label_rest cs).chars)) ≡ some (token (c ∷ (label_rest cs).chars) []) =
    when← (pn_chars_u c || digit c) _ s ∙ ap (push c) (label_again cs) in
    subst (λ (x : Token). Scalars x × T (whole (label x.chars))) (same_some q) (
      record { chars = and← (scalar c) (all scalar (label_rest cs).chars) i r.chars; rest = r.rest },
      subst
          (λ (o : Option Token). T (whole o)) (sym w) tt,
    )

-- with its two characters before
pub blank_sound : (cs : List ℕ) → T (all scalar cs) → (t : Token) → blank_node_label cs ≡ some t → Scalars t × T (whole (label t.chars))
unfolding blank_node_label
blank_sound [] h t e = no_some e
blank_sound (a ∷ []) h t e = no_some e
blank_sound (a ∷ b ∷ cs) h t e =
    let (_, f) = when→ (eqb a 95 && eqb b 58) (λ _. label cs) e in
    label_sound cs (and→ (scalar b) (all scalar cs) (and→ (scalar a) (all scalar (b ∷ cs)) h).1).1 t f

-- LANGTAG
run_scalars : (cs : List ℕ) → T (all scalar cs) → Scalars (tag_run cs)
unfolding tag_run
run_scalars [] h = record { chars = tt; rest = tt }
run_scalars (c ∷ cs) h =
    let (i, j) = and→ (scalar c) (all scalar cs) h in
    let r = run_scalars cs j in
    if_ind Scalars (tag_char c) (λ _. before c (tag_run cs)) (λ _. token [] (c ∷ cs))
    (λ _. record { chars = and← (scalar c) (all scalar (tag_run cs).chars) i r.chars; rest = r.rest })
    (λ _. record { chars = tt; rest = h })

-- and the run is tested as a tag
pub tag_sound : (cs : List ℕ) → T (all scalar cs) → (t : Token) → langtag cs ≡ some t → Scalars t × T (tag t.chars)
unfolding langtag
tag_sound cs h t e =
    let (i, q) = when→ (tag (tag_run cs).chars) (λ _. some (tag_run cs)) e in
    subst (λ (x : Token). Scalars x × T (tag x.chars)) (same_some q) (run_scalars cs h, i)

-- white space
pub ws_scalars : (cs : List ℕ) → T (all scalar cs) → T (all scalar (ws cs))
unfolding ws
ws_scalars [] h = tt
ws_scalars (c ∷ cs) h =
    if_ind (λ (l : List ℕ). T (all scalar l)) (blank c) _ _ (λ _. ws_scalars cs (and→ (scalar c) (all scalar cs) h).1) (λ _. h)

-- what follows a literal's text: a datatype, which is an IRI, or a language tag
abbrev pub Suffix : Token → Type 0
Suffix t = Scalars t × T (iri t.chars || tag t.chars)

plain_sound : (r : List ℕ) → T (all scalar r) → (t : Token) → ◌≡◌ {A = Option Token} (some (token xsd_string r)) (some t) → Suffix t
unfolding xsd_string iri iri_char one_of
plain_sound r h t e =
    subst Suffix (same_some e) (record { chars = tt; rest = h }, or_left (iri xsd_string) (tag xsd_string) tt)

typed_sound : (cs : List ℕ) → T (all scalar cs) → (t : Token) → typed cs ≡ some t → Suffix t
unfolding typed
typed_sound [] h t e = no_some e
typed_sound (c ∷ cs) h t e =
    let (_, q) = when→ (eqb c 94) (λ _. iriref (ws cs)) e in
    let (s, i) = iri_sound (ws cs) (ws_scalars cs (and→ (scalar c) (all scalar cs) h).1) t q in
    (s, or_left (iri t.chars) (tag t.chars) i)

-- SUFFIX: either, or xsd:string where neither is written
pub suffix_sound : (cs : List ℕ) → T (all scalar cs) → (t : Token) → suffix cs ≡ some t → Suffix t
unfolding suffix
suffix_sound [] h t e = plain_sound [] tt t e
suffix_sound (c ∷ cs) h t e =
    let j = (and→ (scalar c) (all scalar cs) h).1 in
    if_ind (λ (o : Option Token). o ≡ some t → Suffix t) (eqb c 94) _ _ (λ _ q. typed_sound cs j t q) (λ _.
    if_ind (λ (o : Option Token). o ≡ some t → Suffix t) (eqb c 64) _ _
    (λ _ q. let (s, i) = tag_sound cs j t q in (s, or_right (iri t.chars) (tag t.chars) i))
    (λ _ q. plain_sound (c ∷ cs) h t q)) e
