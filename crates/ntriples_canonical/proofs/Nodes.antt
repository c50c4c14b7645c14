-- A term is that of the RDF term which it is told to be, and every RDF term is told from its kind and bytes. Assumes nothing.
use mathlib.Core.Path.{◌≡◌, refl, sym, ◌∙◌, ap, subst}
use mathlib.Core.Bool.{◌&&◌, ◌||◌, not}
use mathlib.Core.Option.{Option, some, none}
use mathlib.Core.List.{List, [], ◌∷◌}
use Prim.Native.Nat.{ℕ}
use lib.Dec.{T, eqb, eqb→eq, T_not}
use Rattle.common.proofs.Lists.{and→}
use Rattle.dictionary_layout.specs.Terms.{Term, term}
use Rattle.ntriples.specs.Utf8.{scalar, on, decode, encode}
use Rattle.ntriples.specs.Characters.{all, iri, tag}
use Rattle.ntriples.specs.Grammar.{Token, token, push, or, when, literal_chars, label}
use Rattle.ntriples.specs.Nodes.{Node, named_node, labelled, literal_of, term_of_node, whole, well_formed, no_literal, is_named}
use Rattle.ntriples.proofs.Tests.{if_ind, no_some, same_some, on→, when→, when←}
use Rattle.ntriples.proofs.Tokens.{all_append}
use Rattle.ntriples.proofs.Utf8.{decode_encode, decoded}
use Rattle.ntriples.proofs.Nodes.{nonzero, suffix_nonzero}
use Rattle.ntriples_canonical.specs.Writing.{last_zero, as_literal, node_by, if_good, node_of, node_text, term_text}

-- A LITERAL'S CHARACTERS, split at the last zero, are put together again,
pub split_back : (cs : List ℕ) (t : Token) → last_zero cs ≡ some t → literal_chars t.chars t.rest ≡ cs
unfolding last_zero
split_back [] t e = no_some e
split_back (c ∷ cs) t e = go (last_zero cs) (split_back cs) e
  where
    go : (o : Option Token) → ((u : Token) → o ≡ some u → literal_chars u.chars u.rest ≡ cs)
        → or (on o (push c)) (λ _. when (eqb c 0) (λ _. some (token [] cs))) ≡ some t → literal_chars t.chars t.rest ≡ c ∷ cs
    go (some u) k e =
        subst (λ (v : Token). literal_chars v.chars v.rest ≡ c ∷ cs) (same_some e) (ap (λ (l : List ℕ). c ∷ l) (k u refl))
    go none k e =
        let (z, f) = when→ (eqb c 0) (λ _. some (token [] cs)) e in
        subst (λ (v : Token). literal_chars v.chars v.rest ≡ c ∷ cs) (same_some f) (ap (λ (n : ℕ). n ∷ cs) (sym (eqb→eq c 0 z)))

-- and those put together are split there where no zero follows
zero_none : (d : List ℕ) → T (all nonzero d) → last_zero d ≡ none
unfolding last_zero
zero_none [] h = refl
zero_none (c ∷ d) h =
    let (i, j) = and→ (nonzero c) (all nonzero d) h in
    ap (λ (o : Option Token). or (on o (push c)) (λ _. when (eqb c 0) (λ _. some (token [] d)))) (zero_none d j)
    ∙ if_ind (λ (o : Option Token). o ≡ none) (eqb c 0) _ _ (λ z. absurd (T_not (eqb c 0) i z)) (λ _. refl)

pub split_joined : (t d : List ℕ) → T (all nonzero d) → last_zero (literal_chars t d) ≡ some (token t d)
unfolding last_zero
split_joined [] d h =
    ap (λ (o : Option Token). or (on o (push 0)) (λ _. when (eqb 0 0) (λ _. some (token [] d)))) (zero_none d h)
split_joined (c ∷ t) d h =
    ap (λ (o : Option Token). or (on o (push c)) (λ _. when (eqb c 0) (λ _. some (token [] (literal_chars t d))))) (split_joined t d h)

-- THE NODE OF A KIND AND CHARACTERS has them
node_by_back : (k : ℕ) (cs : List ℕ) (n : Node) → node_by k cs ≡ some n → term_of_node n ≡ term k (encode cs)
unfolding term_of_node
node_by_back k cs n =
    if_ind (λ (o : Option Node). o ≡ some n → Back) (eqb k 1) _ _ (λ h e. at 1 (named_node cs) h e refl) λ _.
    if_ind (λ (o : Option Node). o ≡ some n → Back) (eqb k 2) _ _ (λ h e. at 2 (labelled cs) h e refl) λ _ e.
    let (h, f) = when→ (eqb k 3) (λ _. on (last_zero cs) as_literal) e in
    let w = on→ (last_zero cs) as_literal n f in
    at 3 (literal_of w.got.chars w.got.rest) h w.then (ap (λ (l : List ℕ). term 3 (encode l)) (split_back cs w.got w.is))
  where
    Back : Type 0
    Back = term_of_node n ≡ term k (encode cs)

    at : (i : ℕ) (m : Node) → T (eqb k i) → some m ≡ some n → term_of_node m ≡ term i (encode cs) → Back
    at i m h e q = ap term_of_node (sym (same_some e)) ∙ (q ∙ ap (λ (j : ℕ). term j (encode cs)) (sym (eqb→eq k i h)))

-- THE NODE OF A TERM has the term's kind and bytes, and is well-formed
pub node_back : (t : Term) (n : Node) → node_of t ≡ some n → (term_of_node n ≡ t) × T (well_formed n)
unfolding node_of
node_back t n e =
    let w = on→ (decode t.bytes) (λ cs. on (node_by t.kind cs) if_good) n e in
    let v = on→ (node_by t.kind w.got) if_good n w.then in
    let (h, q) = when→ (well_formed v.got) (λ _. some v.got) v.then in
    subst (λ (m : Node). (term_of_node m ≡ t) × T (well_formed m)) (same_some q) (
      node_by_back t.kind w.got v.got v.is ∙ ap (term t.kind) (decoded t.bytes w.got w.is).same,
      h,
    )

-- A WELL-FORMED NODE is the node of its term
module _ (n : Node) (h : T (well_formed n)) where
  node_found : (k : ℕ) (cs : List ℕ) → T (all scalar cs) → node_by k cs ≡ some n → node_of (term k (encode cs)) ≡ some n
  unfolding node_of
  node_found k cs s e =
      ap (λ (o : Option (List ℕ)). on o (λ cs. on (node_by k cs) if_good)) (decode_encode cs s)
      ∙ (ap (λ (o : Option Node). on o if_good) e ∙ when← (well_formed n) (λ _. some n) h)

pub node_term : (n : Node) → T (well_formed n) → node_of (term_of_node n) ≡ some n
unfolding well_formed term_of_node
node_term (named_node cs) h = node_found (named_node cs) h 1 cs (and→ (all scalar cs) (iri cs) h).0 refl
node_term (labelled cs) h = node_found (labelled cs) h 2 cs (and→ (all scalar cs) (whole (label cs)) h).0 refl
node_term (literal_of t d) h =
    let (i, r) = and→ (all scalar t) (all scalar d && (iri d || tag d)) h in
    let (j, s) = and→ (all scalar d) (iri d || tag d) r in
    node_found (literal_of t d) h 3 (literal_chars t d) (all_append scalar t (0 ∷ d) i j)
    (ap (λ (o : Option Token). on o as_literal) (split_joined t d (suffix_nonzero d s)))

-- so it has a text,
pub node_has_text : (n : Node) → T (well_formed n) → term_text (term_of_node n) ≡ some (encode (node_text n))
unfolding term_text
node_has_text n h = ap (λ (o : Option Node). on o (λ n. some (encode (node_text n)))) (node_term n h)

-- and a term with a text is that of such a node
pub record TextOf (t : Term) (l : List ℕ) : Type 0 where
  pub node : Node
  pub good : T (well_formed node)
  pub is : term_of_node node ≡ t
  pub text : encode (node_text node) ≡ l

pub text_of_node : (t : Term) (l : List ℕ) → term_text t ≡ some l → TextOf t l
unfolding term_text
text_of_node t l e =
    let w = on→ (node_of t) (λ n. some (encode (node_text n))) l e in
    let (i, h) = node_back t w.got w.is in
    record { node = w.got; good = h; is = i; text = same_some w.then }

-- KINDS: which nodes may be subjects, and which predicates, is told from the kind
pub kind_literal : (n : Node) → no_literal n ≡ not (eqb (term_of_node n).kind 3)
unfolding term_of_node
kind_literal (named_node cs) = refl
kind_literal (labelled cs) = refl
kind_literal (literal_of t d) = refl

pub kind_named : (n : Node) → is_named n ≡ eqb (term_of_node n).kind 1
unfolding term_of_node
kind_named (named_node cs) = refl
kind_named (labelled cs) = refl
kind_named (literal_of t d) = refl
