-- A line is under 32,768 bytes where its terms are within 4,096, and none of its bytes ends a line. Assumes nothing.
use mathlib.Core.Path.{◌≡◌, subst}
use mathlib.Core.Logic.{◌⊎◌, inl, inr}
use mathlib.Core.Bool.{Bool, true, false, ◌&&◌, ◌||◌}
use mathlib.Core.Option.{some}
use mathlib.Core.List.{List, [], ◌∷◌, ◌++◌}
use Prim.Native.Nat.{ℕ, ◌≤◌}
use native.Mathlib.Omega.{arith}
use lib.Dec.{T, eqb, eqb→eq, leb→le, not_T}
use lib.ListN.{length, length-append}
use Rattle.common.specs.Sizes.{term_limit}
use Rattle.common.specs.Triples.{if}
use Rattle.common.proofs.Lists.{and→, and←}
use Rattle.dictionary_layout.specs.Terms.{Term}
use Rattle.dictionary_layout.specs.Dictionary.{same_row, short}
use Rattle.ntriples.specs.Utf8.{within, scalar, on, decode, encode_one, encode}
use Rattle.ntriples.specs.Characters.{digit, one_of, all, pn_chars_base, pn_chars_u, pn_chars, iri_char, iri, tag_char, tag}
use Rattle.ntriples.specs.Grammar.{token, push, when, dotted, label_rest, label, xsd_string, Terms}
use Rattle.ntriples.specs.Nodes.{Node, named_node, labelled, literal_of, empty, whole, well_formed}
use Rattle.ntriples.specs.Reading.{line_limit, all_short}
use Rattle.ntriples.specs.Files.{inline}
use Rattle.ntriples.proofs.Tests.{if_ind, or→, or_left, or_right, same_some, on→, when→}
use Rattle.ntriples.proofs.Tokens.{all_append, all_map, tag_chars}
use Rattle.ntriples.proofs.Bytes.{one_all, not_small}
use Rattle.ntriples_canonical.specs.Writing.{node_by, if_good, node_of, escaped, escape_all, suffix_text, literal_text, node_text}
use Rattle.ntriples_canonical.specs.Writing.{term_text, may_stand, spaced, line_text}
use Rattle.ntriples_canonical.proofs.Bytes.{text_short}

-- CHARACTERS: neither end
not_end : (c : ℕ) → (T (eqb c 10) → ⊥) → (T (eqb c 13) → ⊥) → T (inline c)
not_end c n m = not_T (eqb c 10 || eqb c 13) (λ t. go (or→ (eqb c 10) (eqb c 13) t))
  where
    go : T (eqb c 10) ⊎ T (eqb c 13) → ⊥
    go (inl t) = n t
    go (inr t) = m t

-- a test that neither end passes keeps them out
by_test : (f : ℕ → Bool) → (T (f 10) → ⊥) → (T (f 13) → ⊥) → (cs : List ℕ) → T (all f cs) → T (all inline cs)
by_test f n m cs h = all_map f inline cs one h
  where
    one : (c : ℕ) → T (f c) → T (inline c)
    one c h = not_end c (λ t. n (subst (λ (x : ℕ). T (f x)) (eqb→eq c 10 t) h)) (λ t. m (subst (λ (x : ℕ). T (f x)) (eqb→eq c 13 t) h))

iri_inline : (cs : List ℕ) → T (iri cs) → T (all inline cs)
unfolding iri iri_char one_of
iri_inline cs h = by_test iri_char (λ x. x) (λ x. x) cs (and→ (one_of cs 58) (all iri_char cs) h).1

tag_inline : (cs : List ℕ) → T (tag cs) → T (all inline cs)
unfolding tag
tag_inline cs h = by_test tag_char (λ x. x) (λ x. x) cs (tag_chars true false cs h)

-- the characters of a label
abbrev label_char : ℕ → Bool
label_char c = pn_chars c || eqb c 46

rest_chars : (cs : List ℕ) → T (empty (label_rest cs).rest) → T (all label_char cs)
unfolding label_rest
rest_chars [] h = tt
rest_chars (c ∷ cs) h = go (pn_chars c) (eqb c 46) (label_rest cs).chars (label_rest cs).rest h (rest_chars cs)
  where
    dots : (d : Bool) (ts tr : List ℕ) → T (empty (if d (λ _. dotted c cs ts tr) (λ _. token [] (c ∷ cs))).rest)
        → (T (empty tr) → T (all label_char cs)) → T (d && all label_char cs)
    dots true [] tr h k = absurd h
    dots true (t ∷ ts) tr h k = k h
    dots false ts tr h k = h

    go : (b d : Bool) (ts tr : List ℕ)
        → T (empty (if b (λ _. token (c ∷ ts) tr) (λ _. if d (λ _. dotted c cs ts tr) (λ _. token [] (c ∷ cs)))).rest)
        → (T (empty tr) → T (all label_char cs)) → T ((b || d) && all label_char cs)
    go true d ts tr h k = k h
    go false d ts tr h k = dots d ts tr h k

label_chars : (cs : List ℕ) → T (whole (label cs)) → T (all label_char cs)
unfolding label pn_chars
label_chars [] h = tt
label_chars (c ∷ cs) h = go (pn_chars_u c) (digit c) h
  where
    more : Bool → Bool
    more d = eqb c 45 || (d || (eqb c 0xB7 || (within 0x300 0x36F c || within 0x203F 0x2040 c)))

    go : (b d : Bool) → T (whole (when (b || d) (λ _. push c (label_rest cs)))) → T (((b || more d) || eqb c 46) && all label_char cs)
    go true d h = rest_chars cs h
    go false true h =
        and← (more true || eqb c 46) (all label_char cs) (or_left (more true) (eqb c 46) (or_right (eqb c 45) true tt)) (rest_chars cs h)
    go false false h = absurd h

label_inline : (cs : List ℕ) → T (whole (label cs)) → T (all inline cs)
unfolding pn_chars pn_chars_u pn_chars_base
label_inline cs h = by_test label_char (λ x. x) (λ x. x) cs (label_chars cs h)

-- A NODE'S TEXT: both ends are escaped,
escaped_inline : (c : ℕ) → T (all inline (escaped c))
unfolding escaped
escaped_inline c =
    if_ind (λ (l : List ℕ). T (all inline l)) (eqb c 34) _ _ (λ _. tt) λ _.
    if_ind (λ (l : List ℕ). T (all inline l)) (eqb c 92) _ _ (λ _. tt) λ _.
    if_ind (λ (l : List ℕ). T (all inline l)) (eqb c 10) _ _ (λ _. tt) λ n.
    if_ind (λ (l : List ℕ). T (all inline l)) (eqb c 13) _ _ (λ _. tt) λ m.
    and← (inline c) true (not_end c n m) tt

escape_inline : (cs : List ℕ) → T (all inline (escape_all cs))
unfolding escape_all
escape_inline [] = tt
escape_inline (c ∷ cs) = all_append inline (escaped c) (escape_all cs) (escaped_inline c) (escape_inline cs)

-- and stand in no datatype and no tag
suffix_inline : (d : List ℕ) → T (iri d || tag d) → T (all inline (suffix_text d))
unfolding suffix_text
suffix_inline d h =
    if_ind (λ (l : List ℕ). T (all inline l)) (same_row d xsd_string) _ _ (λ _. tt) λ _.
    if_ind (λ (l : List ℕ). T (all inline l)) (one_of d 58) _ _
    (λ _. all_append inline d (62 ∷ []) (go (or→ (iri d) (tag d) h)) tt) (λ _. go (or→ (iri d) (tag d) h))
  where
    go : T (iri d) ⊎ T (tag d) → T (all inline d)
    go (inl i) = iri_inline d i
    go (inr i) = tag_inline d i

node_inline : (n : Node) → T (well_formed n) → T (all inline (node_text n))
unfolding well_formed node_text literal_text
node_inline (named_node cs) h = all_append inline cs (62 ∷ []) (iri_inline cs (and→ (all scalar cs) (iri cs) h).1) tt
node_inline (labelled cs) h = label_inline cs (and→ (all scalar cs) (whole (label cs)) h).1
node_inline (literal_of t d) h =
    let s = (and→ (all scalar t) (all scalar d && (iri d || tag d)) h).1 in
    all_append inline (escape_all t) (34 ∷ suffix_text d) (escape_inline t) (suffix_inline d (and→ (all scalar d) (iri d || tag d) s).1)

-- IN BYTES: those of characters above 127 are above 127
high_inline : (b : ℕ) → 128 ≤ b → T (inline b)
high_inline b l = not_end b (not_small b 10 l (omega arith)) (not_small b 13 l (omega arith))

encode_inline : (cs : List ℕ) → T (all inline cs) → T (all inline (encode cs))
unfolding encode
encode_inline [] h = tt
encode_inline (c ∷ cs) h =
    let (i, j) = and→ (inline c) (all inline cs) h in
    all_append inline (encode_one c) (encode cs) (one_all inline high_inline c i) (encode_inline cs j)

-- a term that has a text is a node's
text_node : (t : Term) (x : List ℕ) → term_text t ≡ some x → (n : Node) × T (well_formed n) × (encode (node_text n) ≡ x)
unfolding term_text node_of
text_node t x e =
    let a = on→ (node_of t) (λ n. some (encode (node_text n))) x e in
    let b = on→ (decode t.bytes) (λ cs. on (node_by t.kind cs) if_good) a.got a.is in
    let c = on→ (node_by t.kind b.got) if_good a.got b.then in
    let (h, q) = when→ (well_formed c.got) (λ _. some c.got) c.then in
    (a.got, subst (λ (n : Node). T (well_formed n)) (same_some q) h, same_some a.then)

text_inline : (t : Term) (x : List ℕ) → term_text t ≡ some x → T (all inline x)
text_inline t x e =
    let (n, h, q) = text_node t x e in subst (λ (l : List ℕ). T (all inline l)) q (encode_inline (node_text n) (node_inline n h))

-- A LINE, and the texts that it is made of
record Made (t : Terms) (l : List ℕ) : Type 0 where
  s : List ℕ
  p : List ℕ
  o : List ℕ
  s_text : term_text t.s ≡ some s
  p_text : term_text t.p ≡ some p
  o_text : term_text t.o ≡ some o
  is : spaced s p o ≡ l

line_made : (t : Terms) (l : List ℕ) → line_text t ≡ some l → Made t l
unfolding line_text
line_made t l e =
    let (_, f) = when→ (may_stand t) _ e in
    let a = on→ (term_text t.s) _ l f in
    let b = on→ (term_text t.p) _ l a.then in
    let c = on→ (term_text t.o) _ l b.then in
    record { s = a.got; p = b.got; o = c.got; s_text = a.is; p_text = b.is; o_text = c.is; is = same_some c.then }

-- NONE OF ITS BYTES ENDS A LINE
pub line_inline : (t : Terms) (l : List ℕ) → line_text t ≡ some l → T (all inline l)
line_inline t l e =
    let m = line_made t l e in
    let end : List ℕ = 32 ∷ 46 ∷ [] in
    let o = all_append inline m.o end (text_inline t.o m.o m.o_text) tt in
    let p = all_append inline m.p (32 ∷ (m.o ++ end)) (text_inline t.p m.p m.p_text) o in
    let s = all_append inline m.s (32 ∷ (m.p ++ (32 ∷ (m.o ++ end)))) (text_inline t.s m.s m.s_text) p in
    subst (λ (x : List ℕ). T (all inline x)) m.is s

-- IT IS SHORT where its terms are
pub line_short : (t : Terms) (l : List ℕ) → line_text t ≡ some l → T (all_short t) → length l ≤ line_limit
line_short t l e h =
    let m = line_made t l e in
    let (a, r) = and→ (short t.s) (short t.p && short t.o) h in
    let (b, c) = and→ (short t.p) (short t.o) r in
    let end : List ℕ = 32 ∷ 46 ∷ [] in
    subst (λ (x : List ℕ). length x ≤ line_limit) m.is
    (omega (
      arith,
      length-append m.s (32 ∷ (m.p ++ (32 ∷ (m.o ++ end)))),
      length-append m.p (32 ∷ (m.o ++ end)),
      length-append m.o end,
      text_short t.s m.s m.s_text,
      text_short t.p m.p m.p_text,
      text_short t.o m.o m.o_text,
      leb→le (length t.s.bytes) term_limit a,
      leb→le (length t.p.bytes) term_limit b,
      leb→le (length t.o.bytes) term_limit c,
    ))
