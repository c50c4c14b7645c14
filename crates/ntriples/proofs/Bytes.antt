-- For the code, which goes through bytes: where the definitions over characters can be met byte by byte. Assumes nothing.
use mathlib.Core.Path.{◌≡◌, refl, sym, ◌∙◌, ap, ap₂, subst}
use mathlib.Core.Logic.{◌⊎◌, inl, inr}
use mathlib.Core.Bool.{Bool, true, false, ◌&&◌, ◌||◌, not}
use mathlib.Core.Option.{Option}
use mathlib.Core.List.{List, [], ◌∷◌, ◌++◌}
use Prim.Native.Nat.{ℕ, zero, suc, ◌≤◌, ◌<◌}
use native.Mathlib.Omega.{arith}
use lib.Dec.{T, ltb, eqb, ltb→lt, lt→ltb, eqb→eq, not_T}
use lib.ListN.{length, drop}
use Rattle.common.specs.Triples.{if}
use Rattle.common.proofs.Lists.{and→, and←}
use Rattle.dictionary_layout.proofs.Choice.{is_true, is_false, decide_bool}
use Rattle.ntriples.specs.Utf8.{within, decode_after, decode, encode_one, encode}
use Rattle.ntriples.specs.Characters.{letter, digit, one_of, all, iri_char, iri, tag_char, tag_from, tag}
use Rattle.ntriples.specs.Grammar.{quoted}
use Rattle.ntriples.proofs.Tests.{if_ind, in→, or→, not_lt}
use Rattle.ntriples.proofs.Utf8.{one_of_one}
use Rattle.ntriples.proofs.Tokens.{one_of→, one_of_none, tag_chars}

-- passing over elements is a step of the position
pub decode_drop : (k : ℕ) (bs : List ℕ) → decode_after k bs ≡ decode (drop k bs)
unfolding decode_after
decode_drop zero bs = refl
decode_drop (suc k) [] = refl
decode_drop (suc k) (b ∷ bs) = decode_drop k bs

-- and so of what is quoted
pub quoted_drop : (stop : ℕ) (raw : ℕ → Bool) (letters : ℕ → Option ℕ) (k : ℕ) (cs : List ℕ) → quoted stop raw letters k cs
    ≡ quoted stop raw letters 0 (drop k cs)
unfolding quoted
quoted_drop stop raw letters zero cs = refl
quoted_drop stop raw letters (suc k) [] = refl
quoted_drop stop raw letters (suc k) (c ∷ cs) = quoted_drop stop raw letters k cs

-- bytes of a character above 127 are above 127
pub High : List ℕ → Type 0
High [] = Unit {0}
High (b ∷ bs) = (128 ≤ b) × High bs

pub one_high : (c : ℕ) → 128 ≤ c → High (encode_one c)
unfolding encode_one High
one_high c h =
    if_ind High (ltb c 128) _ _ (λ t. absurd (omega (arith, ltb→lt c 128 t))) λ _.
    if_ind High (ltb c 2048) _ _ (λ _. (omega arith, (omega arith, tt))) λ _.
    if_ind High (ltb c 65536) _ _ (λ _. (omega arith, (omega arith, (omega arith, tt)))) λ _.
    (omega arith, (omega arith, (omega arith, (omega arith, tt))))

-- so they pass each test that all above 127 pass;
pub high_all : (f : ℕ → Bool) → ((b : ℕ) → 128 ≤ b → T (f b)) → (bs : List ℕ) → High bs → T (all f bs)
unfolding High
high_all f k [] h = tt
high_all f k (b ∷ bs) h = and← (f b) (all f bs) (k b h.0) (high_all f k bs h.1)

-- and so do all bytes of a character that passes it
pub one_all : (f : ℕ → Bool) → ((b : ℕ) → 128 ≤ b → T (f b)) → (c : ℕ) → T (f c) → T (all f (encode_one c))
one_all f k c h = go (decide_bool (ltb c 128))
  where
    go : T (ltb c 128) ⊎ (T (ltb c 128) → ⊥) → T (all f (encode_one c))
    go (inl t) = subst (λ (l : List ℕ). T (all f l)) (sym (one_of_one c (ltb→lt c 128 t))) (and← (f c) true h tt)
    go (inr n) = high_all f k (encode_one c) (one_high c (not_lt c 128 n))

-- there is one at least
pub one_some : (c : ℕ) → 1 ≤ length (encode_one c)
unfolding encode_one
one_some c =
    if_ind (λ (l : List ℕ). 1 ≤ length l) (ltb c 128) _ _ (λ _. omega arith) λ _.
    if_ind (λ (l : List ℕ). 1 ≤ length l) (ltb c 2048) _ _ (λ _. omega arith) λ _.
    if_ind (λ (l : List ℕ). 1 ≤ length l) (ltb c 65536) _ _ (λ _. omega arith) (λ _. omega arith)

-- each is none of ASCII's,
pub not_small : (b x : ℕ) → 128 ≤ b → x < 128 → T (eqb b x) → ⊥
not_small b x h l t = let e = eqb→eq b x t in omega arith

-- nor one of a list of them
no_ascii : (ds : List ℕ) (b : ℕ) → 128 ≤ b → T (all (λ d. ltb d 128) ds) → T (one_of ds b) → ⊥
no_ascii [] b h l t = one_of_none b t
no_ascii (d ∷ ds) b h l t =
    let (i, j) = and→ (ltb d 128) (all (λ d. ltb d 128) ds) l in go (ltb→lt d 128 i) (one_of→ b d ds t) (no_ascii ds b h j)
  where
    go : d < 128 → T (eqb b d) ⊎ T (one_of ds b) → (T (one_of ds b) → ⊥) → ⊥
    go i (inl e) k = not_small b d h i e
    go i (inr e) k = k e

-- AN IRI CAN BE TESTED BYTE BY BYTE
and-true : (b : Bool) → (b && true) ≡ b
and-true true = refl
and-true false = refl

all_of : (f : ℕ → Bool) (a b : List ℕ) → all f (a ++ b) ≡ (all f a && all f b)
all_of f [] b = refl
all_of f (c ∷ a) b = go (f c) (all_of f a b)
  where
    go : (x : Bool) → all f (a ++ b) ≡ (all f a && all f b) → (x && all f (a ++ b)) ≡ ((x && all f a) && all f b)
    go true e = e
    go false e = refl

iri_high : (c : ℕ) → 128 ≤ c → T (iri_char c)
unfolding iri_char
iri_high c h =
    and← (ltb 32 c) _ (lt→ltb 32 c (omega arith))
    (not_T (one_of (60 ∷ 62 ∷ 34 ∷ 123 ∷ 125 ∷ 124 ∷ 94 ∷ 96 ∷ 92 ∷ []) c)
    (no_ascii (60 ∷ 62 ∷ 34 ∷ 123 ∷ 125 ∷ 124 ∷ 94 ∷ 96 ∷ 92 ∷ []) c h tt))

iri_one : (c : ℕ) → all iri_char (encode_one c) ≡ iri_char c
iri_one c = go (decide_bool (ltb c 128))
  where
    go : T (ltb c 128) ⊎ (T (ltb c 128) → ⊥) → all iri_char (encode_one c) ≡ iri_char c
    go (inl t) = ap (all iri_char) (one_of_one c (ltb→lt c 128 t)) ∙ and-true (iri_char c)
    go (inr n) =
        let h = not_lt c 128 n in
        sym (is_true (all iri_char (encode_one c)) (high_all iri_char iri_high (encode_one c) (one_high c h)))
        ∙ is_true (iri_char c) (iri_high c h)

-- the characters an IRI may have,
pub iri_chars_bytes : (cs : List ℕ) → all iri_char (encode cs) ≡ all iri_char cs
unfolding encode
iri_chars_bytes [] = refl
iri_chars_bytes (c ∷ cs) = all_of iri_char (encode_one c) (encode cs) ∙ ap₂ (λ x y. x && y) (iri_one c) (iri_chars_bytes cs)

-- the colon
or_of : (a b : List ℕ) (x : ℕ) → one_of (a ++ b) x ≡ if (one_of a x) (λ _. true) (λ _. one_of b x)
unfolding one_of
or_of [] b x = refl
or_of (c ∷ a) b x = go (eqb x c) (or_of a b x)
  where
    go : (t : Bool) → one_of (a ++ b) x ≡ if (one_of a x) (λ _. true) (λ _. one_of b x)
        → if t (λ _. true) (λ _. one_of (a ++ b) x) ≡ if (if t (λ _. true) (λ _. one_of a x)) (λ _. true) (λ _. one_of b x)
    go true e = refl
    go false e = e

no_colon_high : (bs : List ℕ) → High bs → T (one_of bs 58) → ⊥
unfolding High
no_colon_high [] h t = one_of_none 58 t
no_colon_high (b ∷ bs) h t = go h.0 (one_of→ 58 b bs t) (no_colon_high bs h.1)
  where
    go : 128 ≤ b → T (eqb 58 b) ⊎ T (one_of bs 58) → (T (one_of bs 58) → ⊥) → ⊥
    go l (inl e) k = let q = eqb→eq 58 b e in omega arith
    go l (inr e) k = k e

colon_one : (c : ℕ) → one_of (encode_one c) 58 ≡ eqb 58 c
unfolding one_of
colon_one c = go (decide_bool (ltb c 128))
  where
    only : (b : Bool) → if b (λ _. true) (λ _. false) ≡ b
    only true = refl
    only false = refl

    go : T (ltb c 128) ⊎ (T (ltb c 128) → ⊥) → one_of (encode_one c) 58 ≡ eqb 58 c
    go (inl t) = ap (λ (l : List ℕ). one_of l 58) (one_of_one c (ltb→lt c 128 t)) ∙ only (eqb 58 c)
    go (inr n) =
        let h = not_lt c 128 n in
        sym (is_false (one_of (encode_one c) 58) (no_colon_high (encode_one c) (one_high c h)))
        ∙ is_false (eqb 58 c) (λ e. let q = eqb→eq 58 c e in omega arith)

-- its colon,
pub colon_bytes : (cs : List ℕ) → one_of (encode cs) 58 ≡ one_of cs 58
unfolding encode one_of
colon_bytes [] = refl
colon_bytes (c ∷ cs) = or_of (encode_one c) (encode cs) 58 ∙ ap₂ (λ (x y : Bool). if x (λ _. true) (λ _. y)) (colon_one c) (colon_bytes cs)

-- and the whole test
pub iri_bytes : (cs : List ℕ) → iri (encode cs) ≡ iri cs
unfolding iri
iri_bytes cs = ap₂ (λ x y. x && y) (colon_bytes cs) (iri_chars_bytes cs)

-- A LANGUAGE TAG CAN BE TESTED BYTE BY BYTE: all its characters are ASCII
tag_ascii : (c : ℕ) → T (tag_char c) → c < 128
tag_ascii c h = go (or→ (letter c) (digit c || eqb c 45) h)
  where
    one : T (within 65 90 c) ⊎ T (within 97 122 c) → c < 128
    one (inl t) = omega (arith, in→ 65 90 c t)
    one (inr t) = omega (arith, in→ 97 122 c t)

    other : T (digit c) ⊎ T (eqb c 45) → c < 128
    other (inl t) = omega (arith, in→ 48 57 c t)
    other (inr t) = omega (arith, eqb→eq c 45 t)

    go : T (letter c) ⊎ T (digit c || eqb c 45) → c < 128
    go (inl t) = one (or→ (within 65 90 c) (within 97 122 c) t)
    go (inr t) = other (or→ (digit c) (eqb c 45) t)

high_no_tag : (b : ℕ) → 128 ≤ b → (bs : List ℕ) → T (all tag_char (b ∷ bs)) → ⊥
high_no_tag b h bs t = omega (arith, tag_ascii b (and→ (tag_char b) (all tag_char bs) t).0)

-- nor are the bytes of a character above 127: there is one
one_no_tag : (c : ℕ) → 128 ≤ c → T (all tag_char (encode_one c)) → ⊥
unfolding High
one_no_tag c h = go (encode_one c) (one_high c h) (one_some c)
  where
    go : (l : List ℕ) → High l → 1 ≤ length l → T (all tag_char l) → ⊥
    go [] i n t = omega arith
    go (b ∷ l) i n t = high_no_tag b i.0 l t

-- whatever may stand at this place of the tag
tag_from_bytes : (letters seen : Bool) (cs : List ℕ) → tag_from letters seen (encode cs) ≡ tag_from letters seen cs
unfolding encode tag_from
tag_from_bytes letters seen [] = refl
tag_from_bytes letters seen (c ∷ cs) =
    go (decide_bool (ltb c 128)) (tag_from_bytes false false cs) (tag_from_bytes letters true cs)
  where
    go : T (ltb c 128) ⊎ (T (ltb c 128) → ⊥) → tag_from false false (encode cs) ≡ tag_from false false cs
        → tag_from letters true (encode cs) ≡ tag_from letters true cs
        → tag_from letters seen (encode_one c ++ encode cs) ≡ tag_from letters seen (c ∷ cs)
    go (inl t) e f =
        ap (λ (l : List ℕ). tag_from letters seen (l ++ encode cs)) (one_of_one c (ltb→lt c 128 t))
        ∙ ap₂ (λ x y. if (eqb c 45) (λ _. seen && x) (λ _. (letter c || (not letters && digit c)) && y)) e f
    go (inr n) e f =
        let h = not_lt c 128 n in
        let l = encode_one c ++ encode cs in
        sym (is_false (tag_from letters seen l) (λ t. one_no_tag c h (and→ (all tag_char (encode_one c)) (all tag_char (encode cs))
        (subst T (all_of tag_char (encode_one c) (encode cs)) (tag_chars letters seen l t))).0))
        ∙ is_false (tag_from letters seen (c ∷ cs)) (λ t. high_no_tag c h cs (tag_chars letters seen (c ∷ cs) t))

pub tag_bytes : (cs : List ℕ) → tag (encode cs) ≡ tag cs
unfolding tag
tag_bytes cs = tag_from_bytes true false cs
