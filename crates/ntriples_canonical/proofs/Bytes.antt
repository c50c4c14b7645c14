-- For the code, which goes through bytes: a term's text can be made of its bytes, one after the other, since all that canonical text treats
-- specially is ASCII. And a text's length, within bounds. Assumes nothing.
use mathlib.Core.Path.{◌≡◌, refl, sym, ◌∙◌, ap, ap₂, subst}
use mathlib.Core.Logic.{◌⊎◌, inl, inr, ◌≢◌}
use mathlib.Core.Bool.{Bool, true, false, ◌&&◌, ◌||◌, not}
use mathlib.Core.Option.{Option, some, none}
use mathlib.Core.List.{List, [], ◌∷◌, ◌++◌, append_assoc, append-nil}
use Prim.Native.Nat.{ℕ, ◌+◌, ◌*◌, ◌≤◌, ◌<◌}
use native.Mathlib.Omega.{arith}
use lib.Dec.{T, leb, ltb, eqb, leb→le, le→leb, ltb→lt, eqb→eq, not_T}
use lib.ListN.{length, length-append}
use Rattle.common.specs.Triples.{if}
use Rattle.common.proofs.Lists.{and→, and←, eq→eqb}
use Rattle.dictionary_layout.specs.Terms.{Term, term}
use Rattle.dictionary_layout.specs.Dictionary.{same_row}
use Rattle.dictionary_layout.proofs.Choice.{if_no, decide_bool, same_test}
use Rattle.dictionary_layout.proofs.Equality.{same_row→, same_rows}
use Rattle.ntriples.specs.Utf8.{scalar, on, decode, encode_one, encode}
use Rattle.ntriples.specs.Characters.{one_of, all, iri, tag}
use Rattle.ntriples.specs.Grammar.{Token, token, push, or, when, label, xsd_string, literal_chars}
use Rattle.ntriples.specs.Nodes.{Node, named_node, labelled, literal_of, whole, well_formed}
use Rattle.ntriples.proofs.Tests.{if_ind, not_lt, no_some, same_some, on→, when→}
use Rattle.ntriples.proofs.Utf8.{one_of_one, decode_encode, decoded, encode_append}
use Rattle.ntriples.proofs.Tokens.{all_left, all_right}
use Rattle.ntriples.proofs.Nodes.{nonzero}
use Rattle.ntriples.proofs.Bytes.{one_high, high_all, one_all, not_small, colon_bytes, iri_bytes, tag_bytes}
use Rattle.ntriples_canonical.specs.Writing.{last_zero, as_literal, node_by, if_good, node_of, escaped, escape_all, suffix_text}
use Rattle.ntriples_canonical.specs.Writing.{literal_text, node_text, term_text}
use Rattle.ntriples_canonical.proofs.Nodes.{split_back}

-- THE SPLIT AT THE LAST ZERO, in characters or in bytes
abbrev encoded : Token → Token
encoded t = token (encode t.chars) (encode t.rest)

abbrev after : List ℕ → Token → Token
after l t = token (l ++ t.chars) t.rest

-- characters in front that are no zero are in front of the first part
zero_after : (l r : List ℕ) → T (all nonzero l) → last_zero (l ++ r) ≡ on (last_zero r) (λ t. some (after l t))
unfolding last_zero
zero_after [] r h = go (last_zero r)
  where
    go : (o : Option Token) → o ≡ on o (λ t. some (after [] t))
    go none = refl
    go (some t) = refl
zero_after (c ∷ l) r h =
    let (i, j) = and→ (nonzero c) (all nonzero l) h in go (eqb c 0) i (last_zero r) (zero_after l r j)
  where
    go : (b : Bool) → T (not b) → (o : Option Token) → last_zero (l ++ r) ≡ on o (λ t. some (after l t))
        → or (on (last_zero (l ++ r)) (push c)) (λ _. when b (λ _. some (token [] (l ++ r)))) ≡ on o (λ t. some (after (c ∷ l) t))
    go true i o e = absurd i
    go false i none e = ap (λ (o : Option Token). or (on o (push c)) (λ _. none)) e
    go false i (some t) e = ap (λ (o : Option Token). or (on o (push c)) (λ _. none)) e

one_nonzero : (c : ℕ) → T (nonzero c) → T (all nonzero (encode_one c))
one_nonzero = one_all nonzero (λ b h. not_T (eqb b 0) (not_small b 0 h (omega arith)))

zero_bytes : (cs : List ℕ) → last_zero (encode cs) ≡ on (last_zero cs) (λ t. some (encoded t))
unfolding encode last_zero encode_one
zero_bytes [] = refl
zero_bytes (c ∷ cs) = go (decide_bool (eqb c 0)) (zero_bytes cs)
  where
    -- after a zero
    at : (o : Option Token) → last_zero (encode cs) ≡ on o (λ t. some (encoded t))
        → or (on (last_zero (encode cs)) (push 0)) (λ _. some (token [] (encode cs)))
        ≡ on (or (on o (push 0)) (λ _. some (token [] cs))) (λ t. some (encoded t))
    at none e = ap (λ (o : Option Token). or (on o (push 0)) (λ _. some (token [] (encode cs)))) e
    at (some t) e = ap (λ (o : Option Token). or (on o (push 0)) (λ _. some (token [] (encode cs)))) e

    -- after another
    on_both : (o : Option Token) → on (on o (λ t. some (encoded t))) (λ t. some (after (encode_one c) t))
        ≡ on (on o (λ t. some (after (c ∷ []) t))) (λ t. some (encoded t))
    on_both none = refl
    on_both (some t) = refl

    go : T (eqb c 0) ⊎ (T (eqb c 0) → ⊥) → last_zero (encode cs) ≡ on (last_zero cs) (λ t. some (encoded t))
        → last_zero (encode (c ∷ cs)) ≡ on (last_zero (c ∷ cs)) (λ t. some (encoded t))
    go (inl z) e =
        subst (λ (x : ℕ). last_zero (encode (x ∷ cs)) ≡ on (last_zero (x ∷ cs)) (λ t. some (encoded t))) (sym (eqb→eq c 0 z))
        (at (last_zero cs) e)
    go (inr n) e =
        let i = not_T (eqb c 0) n in
        zero_after (encode_one c) (encode cs) (one_nonzero c i)
        ∙ (ap (λ (o : Option Token). on o (λ t. some (after (encode_one c) t))) e ∙ (on_both (last_zero cs)
        ∙ ap (λ (o : Option Token). on o (λ t. some (encoded t))) (sym (zero_after (c ∷ []) cs (and← (nonzero c) true i tt)))))

-- what is split is the two parts with a zero between them
abbrev both_parts : Token → List ℕ
both_parts t = literal_chars t.chars t.rest

zero_split : (cs : List ℕ) (t : Token) → last_zero cs ≡ some t → cs ≡ both_parts t
zero_split cs t e = sym (split_back cs t e)

-- ESCAPES: bytes above 127 need none
escaped_high : (b : ℕ) → 128 ≤ b → escaped b ≡ b ∷ []
unfolding escaped
escaped_high b h =
    if_no (eqb b 34) _ _ (not_small b 34 h (omega arith)) ∙ (if_no (eqb b 92) _ _ (not_small b 92 h (omega arith))
    ∙ (if_no (eqb b 10) _ _ (not_small b 10 h (omega arith)) ∙ if_no (eqb b 13) _ _ (not_small b 13 h (omega arith))))

escape_high : (bs : List ℕ) → T (all (leb 128) bs) → escape_all bs ≡ bs
unfolding escape_all
escape_high [] h = refl
escape_high (b ∷ bs) h =
    let (i, j) = and→ (leb 128 b) (all (leb 128) bs) h in
    ap₂ (λ x y. x ++ y) (escaped_high b (leb→le 128 b i)) (escape_high bs j)

escaped_low : (c : ℕ) → c < 128 → encode (escaped c) ≡ escaped c
unfolding encode encode_one escaped
escaped_low c h =
    if_ind (λ (l : List ℕ). encode l ≡ l) (eqb c 34) _ _ (λ _. refl) λ _.
    if_ind (λ (l : List ℕ). encode l ≡ l) (eqb c 92) _ _ (λ _. refl) λ _.
    if_ind (λ (l : List ℕ). encode l ≡ l) (eqb c 10) _ _ (λ _. refl) λ _.
    if_ind (λ (l : List ℕ). encode l ≡ l) (eqb c 13) _ _ (λ _. refl) λ _.
    ap (λ (l : List ℕ). l ++ []) (one_of_one c h)

-- one character: escaped and encoded, or encoded and escaped
escape_one : (c : ℕ) → encode (escaped c) ≡ escape_all (encode_one c)
unfolding escape_all encode
escape_one c = go (decide_bool (ltb c 128))
  where
    go : T (ltb c 128) ⊎ (T (ltb c 128) → ⊥) → encode (escaped c) ≡ escape_all (encode_one c)
    go (inl t) =
        let h = ltb→lt c 128 t in
        escaped_low c h ∙ (sym (append-nil (escaped c)) ∙ ap escape_all (sym (one_of_one c h)))
    go (inr n) =
        let h = not_lt c 128 n in
        ap encode (escaped_high c h) ∙ (append-nil (encode_one c)
        ∙ sym (escape_high (encode_one c) (high_all (leb 128) (le→leb 128) (encode_one c) (one_high c h))))

escape_append : (a b : List ℕ) → escape_all (a ++ b) ≡ escape_all a ++ escape_all b
unfolding escape_all
escape_append [] b = refl
escape_append (c ∷ a) b =
    ap (λ (l : List ℕ). escaped c ++ l) (escape_append a b) ∙ sym (append_assoc (escaped c) (escape_all a) (escape_all b))

escape_bytes : (cs : List ℕ) → encode (escape_all cs) ≡ escape_all (encode cs)
unfolding escape_all encode
escape_bytes [] = refl
escape_bytes (c ∷ cs) =
    encode_append (escaped c) (escape_all cs)
    ∙ (ap₂ (λ x y. x ++ y) (escape_one c) (escape_bytes cs) ∙ sym (escape_append (encode_one c) (encode cs)))

-- WHAT FOLLOWS A LITERAL'S TEXT: xsd:string is ASCII, so no other characters have its bytes
xsd_ascii : encode xsd_string ≡ xsd_string
unfolding encode encode_one xsd_string
xsd_ascii = refl

xsd_scalars : T (all scalar xsd_string)
unfolding xsd_string
xsd_scalars = tt

xsd_bytes : (d : List ℕ) → T (all scalar d) → same_row d xsd_string ≡ same_row (encode d) xsd_string
xsd_bytes d s =
    same_test (same_row d xsd_string) (same_row d xsd_string) (same_row (encode d) xsd_string) refl
    (λ t. same_rows (ap encode (same_row→ d xsd_string t) ∙ xsd_ascii))
    (λ t. same_rows (same_some (sym (decode_encode d s)
    ∙ (ap decode (same_row→ (encode d) xsd_string t ∙ sym xsd_ascii) ∙ decode_encode xsd_string xsd_scalars))))

-- by the outcomes of its two tests
abbrev suffix_by : List ℕ → Bool → Bool → List ℕ
suffix_by d a b = if a (λ _. []) (λ _. if b (λ _. 94 ∷ 94 ∷ 60 ∷ (d ++ (62 ∷ []))) (λ _. 64 ∷ d))

suffix_bytes : (d : List ℕ) → T (all scalar d) → encode (suffix_text d) ≡ suffix_text (encode d)
unfolding suffix_text encode encode_one
suffix_bytes d s =
    go (same_row d xsd_string) (one_of d 58) ∙ ap₂ (suffix_by (encode d)) (xsd_bytes d s) (sym (colon_bytes d))
  where
    go : (a b : Bool) → encode (suffix_by d a b) ≡ suffix_by (encode d) a b
    go true b = refl
    go false true = ap (λ (l : List ℕ). 94 ∷ 94 ∷ 60 ∷ l) (encode_append d (62 ∷ []))
    go false false = refl

literal_text_bytes : (t d : List ℕ) → T (all scalar d) → encode (literal_text t d) ≡ literal_text (encode t) (encode d)
unfolding literal_text encode encode_one
literal_text_bytes t d s =
    ap (λ (l : List ℕ). 34 ∷ l) (encode_append (escape_all t) (34 ∷ suffix_text d)
    ∙ ap₂ (λ x y. x ++ (34 ∷ y)) (escape_bytes t) (suffix_bytes d s))

-- A TERM'S TEXT BYTE BY BYTE
abbrev text_out : Node → Option (List ℕ)
text_out n = some (encode (node_text n))

-- from the characters that its bytes decode as
by_chars : (k : ℕ) (bs cs : List ℕ) → decode bs ≡ some cs → term_text (term k bs) ≡ on (on (node_by k cs) if_good) text_out
unfolding term_text node_of
by_chars k bs cs e = ap (λ (o : Option (List ℕ)). on (on o (λ cs. on (node_by k cs) if_good)) text_out) e

-- of a node whose conditions come to one test
good_text : (n : Node) (b : Bool) (l : List ℕ) → well_formed n ≡ b → encode (node_text n) ≡ l
    → on (if_good n) text_out ≡ when b (λ _. some l)
good_text n b l e q = go (well_formed n) ∙ ap₂ (λ (b : Bool) (l : List ℕ). when b (λ _. some l)) e q
  where
    go : (b : Bool) → on (when b (λ _. some n)) text_out ≡ when b (λ _. text_out n)
    go true = refl
    go false = refl

and_second : (a b : Bool) → T a → (a && b) ≡ b
and_second true b h = refl
and_second false b h = absurd h

pub named_bytes : (bs cs : List ℕ) → decode bs ≡ some cs → term_text (term 1 bs) ≡ when (iri bs) (λ _. some (60 ∷ (bs ++ (62 ∷ []))))
unfolding well_formed node_text encode encode_one
named_bytes bs cs e =
    let d = decoded bs cs e in
    by_chars 1 bs cs e ∙ good_text (named_node cs) (iri bs) (60 ∷ (bs ++ (62 ∷ [])))
    (and_second (all scalar cs) (iri cs) d.valid ∙ (sym (iri_bytes cs) ∙ ap iri d.same))
    (ap (λ (l : List ℕ). 60 ∷ l) (encode_append cs (62 ∷ []) ∙ ap (λ (l : List ℕ). l ++ (62 ∷ [])) d.same))

pub blank_bytes : (bs cs : List ℕ) → decode bs ≡ some cs → term_text (term 2 bs) ≡ when (whole (label cs)) (λ _. some (95 ∷ 58 ∷ bs))
unfolding well_formed node_text encode encode_one
blank_bytes bs cs e =
    let d = decoded bs cs e in
    by_chars 2 bs cs e ∙ good_text (labelled cs) (whole (label cs)) (95 ∷ 58 ∷ bs)
    (and_second (all scalar cs) (whole (label cs)) d.valid) (ap (λ (l : List ℕ). 95 ∷ 58 ∷ l) d.same)

-- a literal's two parts, in bytes
abbrev literal_out : Token → Option (List ℕ)
literal_out t = when (iri t.rest || tag t.rest) (λ _. some (literal_text t.chars t.rest))

literal_out_bytes : (t : Token) → T (all scalar (both_parts t)) → on (on (as_literal t) if_good) text_out ≡ literal_out (encoded t)
unfolding well_formed node_text
literal_out_bytes t s =
    let c = t.chars in
    let d = t.rest in
    let i = all_left scalar c (0 ∷ d) s in
    let j : T (all scalar d) = all_right scalar c (0 ∷ d) s in
    good_text (literal_of c d) (iri (encode d) || tag (encode d)) (literal_text (encode c) (encode d))
    (and_second (all scalar c) (all scalar d && (iri d || tag d)) i ∙ (and_second (all scalar d) (iri d || tag d) j
    ∙ sym (ap₂ (λ x y. x || y) (iri_bytes d) (tag_bytes d))))
    (literal_text_bytes c d j)

pub literal_bytes : (bs cs : List ℕ) → decode bs ≡ some cs → term_text (term 3 bs)
    ≡ on (last_zero bs) (λ t. when (iri t.rest || tag t.rest) (λ _. some (literal_text t.chars t.rest)))
literal_bytes bs cs e =
    let d = decoded bs cs e in
    by_chars 3 bs cs e ∙ (go (last_zero cs) (λ t q. subst (λ (l : List ℕ). T (all scalar l)) (zero_split cs t q) d.valid)
    ∙ ap (λ (o : Option Token). on o literal_out) (sym (zero_bytes cs) ∙ ap last_zero d.same))
  where
    go : (o : Option Token) → ((t : Token) → o ≡ some t → T (all scalar (both_parts t)))
        → on (on (on o as_literal) if_good) text_out ≡ on (on o (λ t. some (encoded t))) literal_out
    go none k = refl
    go (some t) k = literal_out_bytes t (k t refl)

-- NO TEXT: bytes that are no UTF-8, and other kinds
pub not_utf8 : (t : Term) → decode t.bytes ≡ none → term_text t ≡ none
unfolding term_text node_of
not_utf8 t e = ap (λ (o : Option (List ℕ)). on (on o (λ cs. on (node_by t.kind cs) if_good)) text_out) e

pub other_kind : (t : Term) → t.kind ≢ 1 → t.kind ≢ 2 → t.kind ≢ 3 → term_text t ≡ none
unfolding term_text node_of
other_kind t a b c = go (decode t.bytes)
  where
    no_node : (cs : List ℕ) → node_by t.kind cs ≡ none
    no_node cs =
        if_no (eqb t.kind 1) _ _ (λ h. a (eqb→eq t.kind 1 h)) ∙ (if_no (eqb t.kind 2) _ _ (λ h. b (eqb→eq t.kind 2 h))
        ∙ if_no (eqb t.kind 3) _ _ (λ h. c (eqb→eq t.kind 3 h)))

    go : (o : Option (List ℕ)) → on (on o (λ cs. on (node_by t.kind cs) if_good)) text_out ≡ none
    go none = refl
    go (some cs) = ap (λ (o : Option Node). on (on o if_good) text_out) (no_node cs)

-- so the bytes of a term that has a text decode
pub text_decodes : (t : Term) (x : List ℕ) → term_text t ≡ some x → (cs : List ℕ) × (decode t.bytes ≡ some cs)
unfolding term_text node_of
text_decodes t x e =
    let w = on→ (node_of t) text_out x e in
    let v = on→ (decode t.bytes) (λ cs. on (node_by t.kind cs) if_good) w.got w.is in
    (v.got, v.is)

-- A TEXT'S LENGTH
escape_length : (l : List ℕ) → length (escape_all l) ≤ 2 * length l
unfolding escape_all escaped
escape_length [] = omega arith
escape_length (c ∷ l) = omega (arith, length-append (escaped c) (escape_all l), one, escape_length l)
  where
    one : length (escaped c) ≤ 2
    one =
        if_ind (λ (l : List ℕ). length l ≤ 2) (eqb c 34) _ _ (λ _. omega arith) λ _.
        if_ind (λ (l : List ℕ). length l ≤ 2) (eqb c 92) _ _ (λ _. omega arith) λ _.
        if_ind (λ (l : List ℕ). length l ≤ 2) (eqb c 10) _ _ (λ _. omega arith) λ _.
        if_ind (λ (l : List ℕ). length l ≤ 2) (eqb c 13) _ _ (λ _. omega arith) (λ _. omega arith)

suffix_length : (d : List ℕ) → length (suffix_text d) ≤ length d + 4
unfolding suffix_text
suffix_length d =
    if_ind (λ (l : List ℕ). length l ≤ length d + 4) (same_row d xsd_string) _ _ (λ _. omega arith) λ _.
    if_ind (λ (l : List ℕ). length l ≤ length d + 4) (one_of d 58) _ _ (λ _. omega (arith, length-append d (62 ∷ []))) (λ _. omega arith)

-- of a text x for these bytes: both bounds
abbrev Bounds : List ℕ → List ℕ → Type 0
Bounds bs x = (2 ≤ length x) × (length x ≤ 2 * length bs + 4)

literal_length : (bs : List ℕ) (t : Token) → bs ≡ both_parts t → Bounds bs (literal_text t.chars t.rest)
unfolding literal_text
literal_length bs t e =
    let n = ap length e ∙ length-append t.chars (0 ∷ t.rest) in
    let m = length-append (escape_all t.chars) (34 ∷ suffix_text t.rest) in
    (omega (arith, m), omega (arith, n, m, escape_length t.chars, suffix_length t.rest))

-- by its kind
module _ (bs cs x : List ℕ) (d : decode bs ≡ some cs) where
  abbrev Bounded : ℕ → Type 0
  Bounded k = term_text (term k bs) ≡ some x → Bounds bs x

  named_bounds : Bounded 1
  named_bounds e =
      let q = same_some (when→ (iri bs) (λ _. some (60 ∷ (bs ++ (62 ∷ [])))) (sym (named_bytes bs cs d) ∙ e)).1 in
      let n = length-append bs (62 ∷ []) in
      subst (Bounds bs) q (omega (arith, n), omega (arith, n))

  blank_bounds : Bounded 2
  blank_bounds e =
      let q = same_some (when→ (whole (label cs)) (λ _. some (95 ∷ 58 ∷ bs)) (sym (blank_bytes bs cs d) ∙ e)).1 in
      subst (Bounds bs) q (omega arith, omega arith)

  literal_bounds : Bounded 3
  literal_bounds e =
      let w = on→ (last_zero bs) literal_out x (sym (literal_bytes bs cs d) ∙ e) in
      let t = w.got in
      let (_, q) = when→ (iri t.rest || tag t.rest) (λ _. some (literal_text t.chars t.rest)) w.then in
      subst (Bounds bs) (same_some q) (literal_length bs t (zero_split bs t w.is))

  any_kind : (k : ℕ) → Bounded k
  any_kind k = go (decide_bool (eqb k 1)) (decide_bool (eqb k 2)) (decide_bool (eqb k 3))
    where
      of_kind : (n : ℕ) → T (eqb k n) → Bounded n → Bounded k
      of_kind n t f = subst Bounded (sym (eqb→eq k n t)) f

      other : (n : ℕ) → (T (eqb k n) → ⊥) → k ≢ n
      other n f q = f (eq→eqb k n q)

      go : T (eqb k 1) ⊎ (T (eqb k 1) → ⊥) → T (eqb k 2) ⊎ (T (eqb k 2) → ⊥) → T (eqb k 3) ⊎ (T (eqb k 3) → ⊥) → Bounded k
      go (inl t) b c = of_kind 1 t named_bounds
      go (inr a) (inl t) c = of_kind 2 t blank_bounds
      go (inr a) (inr b) (inl t) = of_kind 3 t literal_bounds
      go (inr a) (inr b) (inr c) = λ e. no_some (sym (other_kind (term k bs) (other 1 a) (other 2 b) (other 3 c)) ∙ e)

text_bounds : (t : Term) (x : List ℕ) → term_text t ≡ some x → Bounds t.bytes x
text_bounds t x e = let (cs, d) = text_decodes t x e in any_kind t.bytes cs x d t.kind e

-- two bytes at least,
pub text_some : (t : Term) (x : List ℕ) → term_text t ≡ some x → 2 ≤ length x
text_some t x e = (text_bounds t x e).0

-- and at most twice the term's bytes and four more
pub text_short : (t : Term) (x : List ℕ) → term_text t ≡ some x → length x ≤ 2 * length t.bytes + 4
text_short t x e = (text_bounds t x e).1
