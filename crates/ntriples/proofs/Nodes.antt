-- Decoding is exact both ways: the terms of a line are the kinds and bytes of RDF terms, and no two RDF terms have the same. Assumes
-- nothing.
use mathlib.Core.Path.{◌≡◌, refl, sym, ◌∙◌, ap, ap₂, subst}
use mathlib.Core.Logic.{◌⊎◌, inl, inr}
use mathlib.Core.Bool.{Bool, true, false, ◌&&◌, ◌||◌, not}
use mathlib.Core.Option.{Option, some, none}
use mathlib.Core.List.{List, [], ◌∷◌}
use Prim.Native.Nat.{ℕ}
use native.Mathlib.Omega.{arith}
use lib.Dec.{T, eqb, eqb→eq, not_T}
use Rattle.common.proofs.Lists.{and→, and←}
use Rattle.dictionary_layout.specs.Terms.{Term, term}
use Rattle.ntriples.specs.Utf8.{scalar, on, decode, encode}
use Rattle.ntriples.specs.Characters.{one_of, all, iri_char, iri, tag_char, tag}
use Rattle.ntriples.specs.Grammar.{or, label, iriref, string_literal_quote, blank_node_label, ws, Found, as_term, literal_chars}
use Rattle.ntriples.specs.Grammar.{named, blank_node, suffix, literal, subject, object, Terms, terms, Line, says, bad, ended, stopped}
use Rattle.ntriples.specs.Grammar.{on_line, triple_line, statement, line}
use Rattle.ntriples.specs.Nodes.{Node, named_node, labelled, literal_of, term_of_node, whole, well_formed, no_literal, is_named, Nodes}
use Rattle.ntriples.proofs.Tests.{if_ind, or→, same_some, on→}
use Rattle.ntriples.proofs.Utf8.{decode_encode, decoded_scalars}
use Rattle.ntriples.proofs.Tokens.{all_append, all_right, all_map, tag_chars}
use Rattle.ntriples.proofs.Sound.{iri_sound, blank_sound, string_sound, suffix_sound, ws_scalars}

-- WHAT A LINE SAYS: the term found is the node's, with scalar values after it
pub record Of (n : Node) (f : Found) : Type 0 where
  pub good : T (well_formed n)
  pub is : term_of_node n ≡ f.found
  pub rest : T (all scalar f.rest)

-- some node that passes a test
abbrev Some : (Node → Bool) → Found → Type 0
Some test f = (n : Node) × T (test n) × Of n f

made : (n : Node) (k : ℕ) (cs r : List ℕ) (f : Found) → as_term k cs r ≡ some f → T (well_formed n)
    → term_of_node n ≡ term k (encode cs) → T (all scalar r) → Of n f
made n k cs r f e g i s = subst (Of n) (same_some e) (record { good = g; is = i; rest = s })

named_of : (cs : List ℕ) → T (all scalar cs) → (f : Found) → named cs ≡ some f → Some is_named f
unfolding named term_of_node well_formed
named_of cs h f e =
    let w = on→ (iriref cs) (λ t. as_term 1 t.chars t.rest) f e in
    let (s, i) = iri_sound cs h w.got w.is in
    let c = w.got.chars in
    (named_node c, tt, made (named_node c) 1 c w.got.rest f w.then (and← (all scalar c) (iri c) s.chars i) refl s.rest)

blank_of : (cs : List ℕ) → T (all scalar cs) → (f : Found) → blank_node cs ≡ some f → Some no_literal f
unfolding blank_node term_of_node well_formed
blank_of cs h f e =
    let w = on→ (blank_node_label cs) (λ t. as_term 2 t.chars t.rest) f e in
    let (s, i) = blank_sound cs h w.got w.is in
    let c = w.got.chars in
    (labelled c, tt, made (labelled c) 2 c w.got.rest f w.then (and← (all scalar c) (whole (label c)) s.chars i) refl s.rest)

literal_of_line : (cs : List ℕ) → T (all scalar cs) → (f : Found) → literal cs ≡ some f → (n : Node) × Of n f
unfolding literal term_of_node well_formed
literal_of_line cs h f e =
    let w = on→ (string_literal_quote cs)
    (λ t. on (suffix (ws t.rest)) (λ d. as_term 3 (literal_chars t.chars d.chars) d.rest)) f e in
    let t = w.got in
    let r = string_sound cs h t w.is in
    let v = on→ (suffix (ws t.rest)) (λ d. as_term 3 (literal_chars t.chars d.chars) d.rest) f w.then in
    let d = v.got in
    let (s, i) = suffix_sound (ws t.rest) (ws_scalars t.rest r.rest) d v.is in
    let g = and← (all scalar t.chars) (all scalar d.chars && (iri d.chars || tag d.chars)) r.chars
    (and← (all scalar d.chars) (iri d.chars || tag d.chars) s.chars i) in (
      literal_of t.chars d.chars,
      made (literal_of t.chars d.chars) 3 (literal_chars t.chars d.chars) d.rest f v.then g refl s.rest,
    )

-- a named node is no literal
named_no_literal : (n : Node) → T (is_named n) → T (no_literal n)
named_no_literal (named_node cs) h = tt
named_no_literal (labelled cs) h = tt
named_no_literal (literal_of t d) h = h

-- the first of two that is there
or_cases : {A : Type 0} (o : Option A) (f : Unit {0} → Option A) (a : A) → or o f ≡ some a → (o ≡ some a) ⊎ (f tt ≡ some a)
or_cases (some x) f a e = inl e
or_cases none f a e = inr e

-- a subject, and an object
subject_of : (cs : List ℕ) → T (all scalar cs) → (f : Found) → subject cs ≡ some f → Some no_literal f
unfolding subject
subject_of cs h f e = go (or_cases (named cs) (λ _. blank_node cs) f e)
  where
    go : (named cs ≡ some f) ⊎ (blank_node cs ≡ some f) → Some no_literal f
    go (inl q) = let (n, i, p) = named_of cs h f q in (n, named_no_literal n i, p)
    go (inr q) = blank_of cs h f q

object_of : (cs : List ℕ) → T (all scalar cs) → (f : Found) → object cs ≡ some f → (n : Node) × Of n f
unfolding object
object_of cs h f e = go (or_cases (named cs) (λ _. or (blank_node cs) (λ _. literal cs)) f e)
  where
    more : (blank_node cs ≡ some f) ⊎ (literal cs ≡ some f) → (n : Node) × Of n f
    more (inl q) = let (n, _, p) = blank_of cs h f q in (n, p)
    more (inr q) = literal_of_line cs h f q

    go : (named cs ≡ some f) ⊎ (or (blank_node cs) (λ _. literal cs) ≡ some f) → (n : Node) × Of n f
    go (inl q) = let (n, _, p) = named_of cs h f q in (n, p)
    go (inr q) = more (or_cases (blank_node cs) (λ _. literal cs) f q)

bad_says : {A : Type 0} {t : Terms} → bad ≡ says t → A
bad_says e = absurd (let z : ◌≡◌ {A = ℕ} 0 1 = cc in omega arith)

-- what a step of a line that says something was made of
record On {A : Type 0} (o : Option A) (f : A → Line) (t : Terms) : Type 0 where
  got : A
  is : o ≡ some got
  then : f got ≡ says t

on_says : {A : Type 0} (o : Option A) (f : A → Line) (t : Terms) → on_line o f ≡ says t → On o f t
on_says (some a) f t e = record { got = a; is = refl; then = e }
on_says none f t e = bad_says e

stopped_says : (u t : Terms) (cs : List ℕ) → stopped u cs ≡ says t → u ≡ t
unfolding stopped
stopped_says u t [] e = bad_says e
stopped_says u t (c ∷ cs) e = if_ind (λ (l : Line). l ≡ says t → u ≡ t) (eqb c 46 && ended (ws cs)) _ _ (λ _ q. cc) (λ _ q. bad_says q) e

nodes_found : (a b c : Found) (t : Terms) → Some no_literal a → Some is_named b → (n : Node) × Of n c
    → terms a.found b.found c.found ≡ t → Nodes t
nodes_found a b c t (na, ka, pa) (nb, kb, pb) (nc, pc) e = record {
  s = na;
  p = nb;
  o = nc;
  s_good = and← (well_formed na) (no_literal na) pa.good ka;
  p_good = and← (well_formed nb) (is_named nb) pb.good kb;
  o_good = pc.good;
  same = (λ i. terms (pa.is i) (pb.is i) (pc.is i)) ∙ e;
}

triple_nodes : (cs : List ℕ) → T (all scalar cs) → (t : Terms) → triple_line cs ≡ says t → Nodes t
unfolding triple_line
triple_nodes cs h t e =
    let a = on_says (subject cs) _ t e in
    let fa = subject_of cs h a.got a.is in
    let b = on_says (named (ws a.got.rest)) _ t a.then in
    let fb = named_of (ws a.got.rest) (ws_scalars a.got.rest fa.2.rest) b.got b.is in
    let c = on_says (object (ws b.got.rest)) _ t b.then in
    let fc = object_of (ws b.got.rest) (ws_scalars b.got.rest fb.2.rest) c.got c.is in
    nodes_found a.got b.got c.got t fa fb fc
    (stopped_says (terms a.got.found b.got.found c.got.found) t (ws c.got.rest) c.then)

-- THE TERMS OF A LINE ARE THE KINDS AND BYTES OF RDF TERMS
pub line_nodes : (bs : List ℕ) (t : Terms) → line bs ≡ says t → Nodes t
unfolding line statement
line_nodes bs t e =
    let a = on_says (decode bs) _ t e in
    let h = ws_scalars a.got (decoded_scalars bs a.got a.is) in
    if_ind (λ (l : Line). l ≡ says t → Nodes t) (ended (ws a.got)) _ _
    (λ _ q. absurd (let z : ◌≡◌ {A = ℕ} 0 1 = cc in omega arith)) (λ _ q. triple_nodes (ws a.got) h t q) a.then

-- NO TWO RDF TERMS HAVE THE SAME KIND AND BYTES: encoded bytes say the characters
same_chars : (a b : List ℕ) → T (all scalar a) → T (all scalar b) → encode a ≡ encode b → a ≡ b
same_chars a b h k e =
    same_some (sym (decode_encode a h) ∙ (ap decode e ∙ decode_encode b k))

-- neither tag nor IRI holds a zero,
abbrev pub nonzero : ℕ → Bool
nonzero c = not (eqb c 0)

by_zero : (f : ℕ → Bool) → (T (f 0) → ⊥) → (cs : List ℕ) → T (all f cs) → T (all nonzero cs)
by_zero f n cs h = all_map f nonzero cs (λ c i. not_T (eqb c 0) (λ e. n (subst (λ (x : ℕ). T (f x)) (eqb→eq c 0 e) i))) h

-- so what follows a literal's text is without one
pub suffix_nonzero : (d : List ℕ) → T (iri d || tag d) → T (all nonzero d)
unfolding iri tag iri_char
suffix_nonzero d h = go (or→ (iri d) (tag d) h)
  where
    go : T (iri d) ⊎ T (tag d) → T (all nonzero d)
    go (inl i) = by_zero iri_char (λ x. x) d (and→ (one_of d 58) (all iri_char d) i).1
    go (inr i) = by_zero tag_char (λ x. x) d (tag_chars true false d i)

-- so a literal's characters are split at the last zero, and nowhere else
no_zero : {A : Type 0} (t d : List ℕ) → T (all nonzero (literal_chars t d)) → A
no_zero t d h = absurd (and→ (nonzero 0) (all nonzero d) (all_right nonzero t (0 ∷ d) h)).0

split_once : (t u d e : List ℕ) → T (all nonzero d) → T (all nonzero e) → literal_chars t d ≡ literal_chars u e → (t ≡ u) × (d ≡ e)
split_once [] [] d e h k q = (refl, cc)
split_once [] (c ∷ u) d e h k q =
    let r : d ≡ literal_chars u e = cc in no_zero u e (subst (λ (l : List ℕ). T (all nonzero l)) r h)
split_once (c ∷ t) [] d e h k q =
    let r : literal_chars t d ≡ e = cc in no_zero t d (subst (λ (l : List ℕ). T (all nonzero l)) (sym r) k)
split_once (c ∷ t) (b ∷ u) d e h k q =
    let r : literal_chars t d ≡ literal_chars u e = cc in
    let s : c ≡ b = cc in
    let (x, y) = split_once t u d e h k r in
    (ap₂ (λ i j. i ∷ j) s x, y)

-- terms of different kinds
other_kind : {A : Type 0} {k : ℕ} {a b : List ℕ} (l : ℕ) → (k ≡ l → ⊥) → term k a ≡ term l b → A
other_kind l n e = absurd (n (ap (λ (t : Term). t.kind) e))

bytes_of : {k l : ℕ} {a b : List ℕ} → term k a ≡ term l b → a ≡ b
bytes_of e = ap (λ (t : Term). t.bytes) e

-- the terms of RDF terms tell them apart
pub nodes_differ : (a b : Node) → T (well_formed a) → T (well_formed b) → term_of_node a ≡ term_of_node b → a ≡ b
unfolding well_formed term_of_node
nodes_differ (named_node c) (named_node d) h k e =
    ap named_node (same_chars c d (and→ (all scalar c) (iri c) h).0 (and→ (all scalar d) (iri d) k).0 (bytes_of e))
nodes_differ (named_node c) (labelled d) h k e = other_kind 2 (λ q. omega arith) e
nodes_differ (named_node c) (literal_of u d) h k e = other_kind 3 (λ q. omega arith) e
nodes_differ (labelled c) (named_node d) h k e = other_kind 1 (λ q. omega arith) e
nodes_differ (labelled c) (labelled d) h k e =
    ap labelled (same_chars c d (and→ (all scalar c) (whole (label c)) h).0 (and→ (all scalar d) (whole (label d)) k).0 (bytes_of e))
nodes_differ (labelled c) (literal_of u d) h k e = other_kind 3 (λ q. omega arith) e
nodes_differ (literal_of t c) (named_node d) h k e = other_kind 1 (λ q. omega arith) e
nodes_differ (literal_of t c) (labelled d) h k e = other_kind 2 (λ q. omega arith) e
nodes_differ (literal_of t c) (literal_of u d) h k e =
    let (ht, hr) = and→ (all scalar t) (all scalar c && (iri c || tag c)) h in
    let (hc, hs) = and→ (all scalar c) (iri c || tag c) hr in
    let (ku, kr) = and→ (all scalar u) (all scalar d && (iri d || tag d)) k in
    let (kd, ks) = and→ (all scalar d) (iri d || tag d) kr in
    let q = same_chars (literal_chars t c) (literal_chars u d) (all_append scalar t (0 ∷ c) ht hc) (all_append scalar u (0 ∷ d) ku kd)
    (bytes_of e) in
    let (x, y) = split_once t u c d (suffix_nonzero c hs) (suffix_nonzero d ks) q in
    ap₂ literal_of x y
