-- Each terminal reads back what is written for it. Assumes nothing.
use mathlib.Core.Path.{◌≡◌, refl, sym, ◌∙◌, ap, subst}
use mathlib.Core.Logic.{◌⊎◌, inl, inr}
use mathlib.Core.Bool.{Bool, true, false, ◌||◌}
use mathlib.Core.Option.{Option, some}
use mathlib.Core.List.{List, [], ◌∷◌, ◌++◌, append_assoc}
use Prim.Native.Nat.{ℕ}
use native.Mathlib.Omega.{arith}
use lib.Dec.{T, eqb, eqb→eq, not_T}
use Rattle.common.specs.Triples.{if}
use Rattle.common.proofs.Lists.{and→}
use Rattle.dictionary_layout.specs.Dictionary.{same_row}
use Rattle.dictionary_layout.proofs.Choice.{if_yes, if_no}
use Rattle.dictionary_layout.proofs.Equality.{same_row→}
use Rattle.ntriples.specs.Utf8.{on}
use Rattle.ntriples.specs.Characters.{digit, one_of, all, pn_chars_base, pn_chars_u, pn_chars, iri_char, string_char, echar, no_echar}
use Rattle.ntriples.specs.Characters.{iri, tag_char, tag}
use Rattle.ntriples.specs.Grammar.{Token, token, before, push, when, escape, quoted, iri_after, iriref, string_literal_quote, dotted}
use Rattle.ntriples.specs.Grammar.{label_rest, label, blank_node_label, tag_run, langtag, ws, xsd_string, typed, suffix}
use Rattle.ntriples.specs.Nodes.{empty, whole}
use Rattle.ntriples.proofs.Tests.{if_ind, or→, when←}
use Rattle.ntriples.proofs.Tokens.{one_of→, one_of_none, tag_chars, no_colon}
use Rattle.ntriples_canonical.specs.Writing.{escaped, escape_all, suffix_text}

-- a character that passes a test is none that fails it
other : (f : ℕ → Bool) (c d : ℕ) → T (f c) → (T (f d) → ⊥) → T (eqb c d) → ⊥
other f c d h n e = n (subst (λ (x : ℕ). T (f x)) (eqb→eq c d e) h)

-- IRIREF: raw characters up to the end
quoted_iri : (cs r : List ℕ) → T (all iri_char cs) → quoted 62 iri_char no_echar 0 (cs ++ (62 ∷ r)) ≡ some (token cs r)
unfolding quoted iri_char one_of
quoted_iri [] r h = refl
quoted_iri (c ∷ cs) r h =
    let (i, j) = and→ (iri_char c) (all iri_char cs) h in
    if_no (eqb c 62) _ _ (other iri_char c 62 i (λ x. x))
    ∙ (if_no (eqb c 92) _ _ (other iri_char c 92 i (λ x. x))
    ∙ (when← (iri_char c) _ i ∙ ap (λ (o : Option Token). on o (push c)) (quoted_iri cs r j)))

-- and the whole of it
pub iri_back : (cs r : List ℕ) → T (iri cs) → iriref (60 ∷ (cs ++ (62 ∷ r))) ≡ some (token cs r)
unfolding iriref iri_after iri
iri_back cs r h =
    ap (λ (o : Option Token). on o (λ t. when (iri t.chars) (λ _. some t)))
    (quoted_iri cs r (and→ (one_of cs 58) (all iri_char cs) h).1)
    ∙ when← (iri cs) (λ _. some (token cs r)) h

-- STRING_LITERAL_QUOTE
abbrev string_from : List ℕ → Option Token
string_from = quoted 34 string_char echar 0

-- one character c in front of l, from which the text cs is read
module _ (c : ℕ) (cs r l : List ℕ) (e : string_from l ≡ some (token cs r)) where
  abbrev Reads : List ℕ → Type 0
  Reads w = string_from (w ++ l) ≡ some (token (c ∷ cs) r)

  -- one of the four escapes that are written
  escape_read : (d x : ℕ) → eqb x 117 ≡ false → eqb x 85 ≡ false → echar x ≡ some d → T (eqb c d) → Reads (92 ∷ x ∷ [])
  unfolding quoted escape
  escape_read d x u v f q = rw (u, v, f) (rw e (ap (λ (y : ℕ). some (token (y ∷ cs) r)) (sym (eqb→eq c d q))))

  -- none of those four characters is a raw one
  raw_char : (T (eqb c 34) → ⊥) → (T (eqb c 92) → ⊥) → (T (eqb c 10) → ⊥) → (T (eqb c 13) → ⊥) → T (string_char c)
  unfolding string_char
  raw_char a b n m = not_T (one_of (34 ∷ 92 ∷ 10 ∷ 13 ∷ []) c) (λ t. first (one_of→ c 34 (92 ∷ 10 ∷ 13 ∷ []) t))
    where
      fourth : T (eqb c 13) ⊎ T (one_of [] c) → ⊥
      fourth (inl t) = m t
      fourth (inr t) = one_of_none c t

      third : T (eqb c 10) ⊎ T (one_of (13 ∷ []) c) → ⊥
      third (inl t) = n t
      third (inr t) = fourth (one_of→ c 13 [] t)

      second : T (eqb c 92) ⊎ T (one_of (10 ∷ 13 ∷ []) c) → ⊥
      second (inl t) = b t
      second (inr t) = third (one_of→ c 10 (13 ∷ []) t)

      first : T (eqb c 34) ⊎ T (one_of (92 ∷ 10 ∷ 13 ∷ []) c) → ⊥
      first (inl t) = a t
      first (inr t) = second (one_of→ c 92 (10 ∷ 13 ∷ []) t)

  raw_read : (T (eqb c 34) → ⊥) → (T (eqb c 92) → ⊥) → T (string_char c) → Reads (c ∷ [])
  unfolding quoted
  raw_read a b h =
      if_no (eqb c 34) _ _ a ∙ (if_no (eqb c 92) _ _ b ∙ (when← (string_char c) _ h ∙ ap (λ (q : Option Token). on q (push c)) e))

  character_read : Reads (escaped c)
  unfolding echar one_of escaped
  character_read =
      if_ind Reads (eqb c 34) _ _ (λ q. escape_read 34 34 refl refl refl q) λ a.
      if_ind Reads (eqb c 92) _ _ (λ q. escape_read 92 92 refl refl refl q) λ b.
      if_ind Reads (eqb c 10) _ _ (λ q. escape_read 10 110 refl refl refl q) λ n.
      if_ind Reads (eqb c 13) _ _ (λ q. escape_read 13 114 refl refl refl q) λ m.
      raw_read a b (raw_char a b n m)

string_all : (cs r : List ℕ) → string_from (escape_all cs ++ (34 ∷ r)) ≡ some (token cs r)
unfolding escape_all quoted
string_all [] r = refl
string_all (c ∷ cs) r =
    ap string_from (append_assoc (escaped c) (escape_all cs) (34 ∷ r)) ∙ character_read c cs r (escape_all cs ++ (34 ∷ r))
    (string_all cs r)

-- a literal's text, escaped
pub string_back : (cs r : List ℕ) → string_literal_quote (34 ∷ (escape_all cs ++ (34 ∷ r))) ≡ some (token cs r)
unfolding string_literal_quote
string_back cs r = string_all cs r

-- BLANK_NODE_LABEL, before a space
empty→ : (l : List ℕ) → T (empty l) → l ≡ []
empty→ [] h = refl
empty→ (c ∷ l) h = absurd h

no_cons : {A : Type 0} {c : ℕ} {l : List ℕ} → ◌≡◌ {A = List ℕ} (c ∷ l) [] → A
no_cons e = absurd (let z : ◌≡◌ {A = ℕ} 0 1 = cc in omega arith)

-- a character c of a label, with X after the label
module _ (c : ℕ) (X : List ℕ) where
  abbrev step : Bool → Bool → List ℕ → Token → Token
  step b d cs t = if b (λ _. before c t) (λ _. if d (λ _. dotted c cs t.chars t.rest) (λ _. token [] (c ∷ cs)))

  dot_shape : (d : ℕ) (ds cs : List ℕ) → (cs ≡ [] → d ∷ ds ≡ []) → dotted c (cs ++ X) cs X ≡ token (c ∷ cs) X
  dot_shape d ds [] f = no_cons (f refl)
  dot_shape d ds (e ∷ es) f = refl

  dot_step : (cs ts tr : List ℕ) (u : Token) → (dotted c cs ts tr).rest ≡ [] → (cs ≡ [] → ts ≡ []) → (tr ≡ [] → u ≡ token cs X)
      → dotted c (cs ++ X) u.chars u.rest ≡ token (c ∷ cs) X
  dot_step cs [] tr u h f k = no_cons h
  dot_step cs (d ∷ ds) tr u h f k = ap (λ (w : Token). dotted c (cs ++ X) w.chars w.rest) (k h) ∙ dot_shape d ds cs f

  label_step : (b d : Bool) (cs : List ℕ) (t u : Token) → (step b d cs t).rest ≡ [] → (cs ≡ [] → t.chars ≡ [])
      → (t.rest ≡ [] → u ≡ token cs X)
      → step b d (cs ++ X) u ≡ token (c ∷ cs) X
  label_step true d cs t u h f k = ap (before c) (k h)
  label_step false true cs t u h f k = dot_step cs t.chars t.rest u h f k
  label_step false false cs t u h f k = no_cons h

label_nil : (cs : List ℕ) → cs ≡ [] → (label_rest cs).chars ≡ []
unfolding label_rest
label_nil [] e = refl
label_nil (c ∷ cs) e = no_cons e

label_rest_back : (cs r : List ℕ) → (label_rest cs).rest ≡ [] → label_rest (cs ++ (32 ∷ r)) ≡ token cs (32 ∷ r)
unfolding label_rest pn_chars pn_chars_u pn_chars_base
label_rest_back [] r h = refl
label_rest_back (c ∷ cs) r h =
    label_step c (32 ∷ r) (pn_chars c) (eqb c 46) cs (label_rest cs) (label_rest (cs ++ (32 ∷ r))) h (label_nil cs) (label_rest_back cs r)

-- what is all a label is read as one
pub label_back : (cs r : List ℕ) → T (whole (label cs)) → blank_node_label (95 ∷ 58 ∷ (cs ++ (32 ∷ r))) ≡ some (token cs (32 ∷ r))
unfolding label blank_node_label
label_back [] r h = absurd h
label_back (c ∷ cs) r h = go (pn_chars_u c || digit c) h
  where
    go : (b : Bool) → T (whole (when b (λ _. push c (label_rest cs)))) → when b (λ _. push c (label_rest (cs ++ (32 ∷ r))))
        ≡ some (token (c ∷ cs) (32 ∷ r))
    go true h = ap (push c) (label_rest_back cs r (empty→ (label_rest cs).rest h))
    go false h = absurd h

-- LANGTAG, before a space
tag_run_back : (cs r : List ℕ) → T (all tag_char cs) → tag_run (cs ++ (32 ∷ r)) ≡ token cs (32 ∷ r)
unfolding tag_run
tag_run_back [] r h = refl
tag_run_back (c ∷ cs) r h =
    let (i, j) = and→ (tag_char c) (all tag_char cs) h in
    if_yes (tag_char c) _ _ i ∙ ap (before c) (tag_run_back cs r j)

-- what is tested as a tag is read as one
pub tag_back : (cs r : List ℕ) → T (tag cs) → langtag (cs ++ (32 ∷ r)) ≡ some (token cs (32 ∷ r))
unfolding langtag tag
tag_back cs r h =
    ap (λ (t : Token). when (tag t.chars) (λ _. some t)) (tag_run_back cs r (tag_chars true false cs h)) ∙ when← (tag cs) _ h

-- WHAT FOLLOWS A LITERAL'S TEXT, up to the statement's dot
abbrev pub end : List ℕ
end = 32 ∷ 46 ∷ []

-- an IRI has a colon
iri_colon : (d : List ℕ) → T (iri d) → T (one_of d 58)
unfolding iri
iri_colon d h = (and→ (one_of d 58) (all iri_char d) h).0

-- the datatype or tag d is read, and after white space the dot is left
pub record Suffixed (d l : List ℕ) : Type 0 where
  pub rest : List ℕ
  pub is : suffix (ws (l ++ end)) ≡ some (token d rest)
  pub left : ws rest ≡ 46 ∷ []

module _ (d : List ℕ) where
  plain_back : d ≡ xsd_string → Suffixed d []
  unfolding suffix ws
  plain_back e = record { rest = 46 ∷ []; is = ap (λ (x : List ℕ). some (token x (46 ∷ []))) (sym e); left = refl }

  datatype_back : T (iri d) → Suffixed d (94 ∷ 94 ∷ 60 ∷ (d ++ (62 ∷ [])))
  unfolding suffix typed ws
  datatype_back i = record {
    rest = end;
    is = ap (λ (l : List ℕ). iriref (60 ∷ l)) (append_assoc d (62 ∷ []) end) ∙ iri_back d end i;
    left = refl;
  }

  langtag_back : T (tag d) → Suffixed d (64 ∷ d)
  unfolding suffix ws
  langtag_back i = record { rest = end; is = tag_back d (46 ∷ []) i; left = refl }

  -- a colon tells which of the two it is
  pub suffix_back : T (iri d || tag d) → Suffixed d (suffix_text d)
  unfolding suffix_text
  suffix_back h =
      if_ind (Suffixed d) (same_row d xsd_string) _ _ (λ e. plain_back (same_row→ d xsd_string e)) λ _.
      if_ind (Suffixed d) (one_of d 58) _ _ (λ c. datatype_back (is_iri c (or→ (iri d) (tag d) h)))
      (λ n. langtag_back (is_tag n (or→ (iri d) (tag d) h)))
    where
      is_iri : T (one_of d 58) → T (iri d) ⊎ T (tag d) → T (iri d)
      is_iri c (inl i) = i
      is_iri c (inr i) = absurd (no_colon d i c)

      is_tag : (T (one_of d 58) → ⊥) → T (iri d) ⊎ T (tag d) → T (tag d)
      is_tag n (inl i) = absurd (n (iri_colon d i))
      is_tag n (inr i) = i
