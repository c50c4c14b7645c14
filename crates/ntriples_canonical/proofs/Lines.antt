-- A written line reads back as its triple. Assumes nothing.
use mathlib.Core.Path.{◌≡◌, refl, sym, ◌∙◌, ap, subst}
use mathlib.Core.Bool.{Bool, false, ◌&&◌, ◌||◌, not}
use mathlib.Core.Option.{Option, some, none}
use mathlib.Core.List.{List, [], ◌∷◌, ◌++◌, append_assoc}
use Prim.Native.Nat.{ℕ}
use lib.Dec.{T, eqb}
use Rattle.common.specs.Triples.{if}
use Rattle.common.proofs.Lists.{and→, and←}
use Rattle.dictionary_layout.specs.Terms.{Term}
use Rattle.dictionary_layout.specs.Dictionary.{same_row}
use Rattle.ntriples.specs.Utf8.{scalar, on, encode_one, encode}
use Rattle.ntriples.specs.Characters.{one_of, all, iri, tag}
use Rattle.ntriples.specs.Grammar.{Token, or, iriref, string_literal_quote, label, blank_node_label, ws, Found, as_term}
use Rattle.ntriples.specs.Grammar.{xsd_string, literal_chars, named, blank_node, suffix, literal, subject, object, Terms, terms, Line}
use Rattle.ntriples.specs.Grammar.{says, ended, stopped, on_line, triple_line, statement, line}
use Rattle.ntriples.specs.Nodes.{Node, named_node, labelled, literal_of, term_of_node, whole, well_formed, no_literal, is_named, Nodes}
use Rattle.ntriples.proofs.Tests.{if_ind, same_some, on→, when→, when←}
use Rattle.ntriples.proofs.Tokens.{all_append}
use Rattle.ntriples.proofs.Utf8.{decode_encode, encode_append}
use Rattle.ntriples_canonical.specs.Writing.{escaped, escape_all, suffix_text, literal_text, node_text, term_text, may_stand, spaced}
use Rattle.ntriples_canonical.specs.Writing.{line_text}
use Rattle.ntriples_canonical.proofs.Tokens.{iri_back, string_back, label_back, end, suffix_back}
use Rattle.ntriples_canonical.proofs.Nodes.{node_has_text, text_of_node, kind_literal, kind_named}

-- WHAT A PARSER FINDS in a node's text: the node's term, and what follows
abbrev found : Node → List ℕ → Found
found n r = record { found = term_of_node n; rest = r }

named_back : (cs X : List ℕ) → T (iri cs) → named (node_text (named_node cs) ++ X) ≡ some (found (named_node cs) X)
unfolding named node_text term_of_node
named_back cs X h =
    ap (λ (l : List ℕ). on (iriref (60 ∷ l)) (λ t. as_term 1 t.chars t.rest)) (append_assoc cs (62 ∷ []) X)
    ∙ ap (λ (o : Option Token). on o (λ t. as_term 1 t.chars t.rest)) (iri_back cs X h)

blank_back : (cs X : List ℕ) → T (whole (label cs))
    → blank_node (node_text (labelled cs) ++ (32 ∷ X)) ≡ some (found (labelled cs) (32 ∷ X))
unfolding blank_node node_text term_of_node
blank_back cs X h = ap (λ (o : Option Token). on o (λ t. as_term 2 t.chars t.rest)) (label_back cs X h)

-- a parser finds the node, and after white space the statement's dot is left
record Ends (o : Option Found) (n : Node) : Type 0 where
  rest : List ℕ
  is : o ≡ some (found n rest)
  left : ws rest ≡ 46 ∷ []

literal_back : (t d : List ℕ) → T (iri d || tag d) → Ends (literal (node_text (literal_of t d) ++ end)) (literal_of t d)
unfolding literal node_text literal_text term_of_node
literal_back t d h =
    let f = suffix_back d h in
    record {
      rest = f.rest;
      is =
          ap (λ (o : Option Token). on o typed_or_tagged)
          (ap (λ (l : List ℕ). string_literal_quote (34 ∷ l)) (append_assoc (escape_all t) (34 ∷ suffix_text d) end)
          ∙ string_back t (suffix_text d ++ end))
          ∙ ap (λ (o : Option Token). on o (λ d. as_term 3 (literal_chars t d.chars) d.rest)) f.is;
      left = f.left;
    }
  where
    typed_or_tagged : Token → Option Found
    typed_or_tagged t = on (suffix (ws t.rest)) (λ d. as_term 3 (literal_chars t.chars d.chars) d.rest)

-- the first character tells the three apart
quote_no_blank : (l : List ℕ) → blank_node (34 ∷ l) ≡ none
unfolding blank_node blank_node_label
quote_no_blank [] = refl
quote_no_blank (c ∷ l) = refl

label_no_iri : (cs X : List ℕ) → named (node_text (labelled cs) ++ X) ≡ none
unfolding named iriref node_text
label_no_iri cs X = refl

text_no_iri : (t d X : List ℕ) → named (node_text (literal_of t d) ++ X) ≡ none
unfolding named iriref node_text literal_text
text_no_iri t d X = refl

text_no_blank : (t d X : List ℕ) → blank_node (node_text (literal_of t d) ++ X) ≡ none
unfolding node_text literal_text
text_no_blank t d X = quote_no_blank ((escape_all t ++ (34 ∷ suffix_text d)) ++ X)

-- a subject,
subject_back : (n : Node) (X : List ℕ) → T (well_formed n) → T (no_literal n) → subject (node_text n ++ (32 ∷ X)) ≡ some (found n (32 ∷ X))
unfolding subject well_formed
subject_back (named_node cs) X h k =
    ap (λ (o : Option Found). or o (λ _. blank_node (node_text (named_node cs) ++ (32 ∷ X))))
    (named_back cs (32 ∷ X) (and→ (all scalar cs) (iri cs) h).1)
subject_back (labelled cs) X h k =
    ap (λ (o : Option Found). or o (λ _. blank_node (node_text (labelled cs) ++ (32 ∷ X)))) (label_no_iri cs (32 ∷ X))
    ∙ blank_back cs X (and→ (all scalar cs) (whole (label cs)) h).1
subject_back (literal_of t d) X h k = absurd k

-- a predicate,
predicate_back : (n : Node) (X : List ℕ) → T (well_formed n) → T (is_named n) → named (node_text n ++ X) ≡ some (found n X)
unfolding well_formed
predicate_back (named_node cs) X h k = named_back cs X (and→ (all scalar cs) (iri cs) h).1
predicate_back (labelled cs) X h k = absurd k
predicate_back (literal_of t d) X h k = absurd k

-- an object
abbrev after : List ℕ → Unit {0} → Option Found
after cs _ = or (blank_node cs) (λ _. literal cs)

object_back : (n : Node) → T (well_formed n) → Ends (object (node_text n ++ end)) n
unfolding object well_formed ws
object_back (named_node cs) h = record {
  rest = end;
  is =
      ap (λ (o : Option Found). or o (after (node_text (named_node cs) ++ end)))
      (named_back cs end (and→ (all scalar cs) (iri cs) h).1);
  left = refl;
}
object_back (labelled cs) h = record {
  rest = end;
  is =
      ap (λ (o : Option Found). or o (after (node_text (labelled cs) ++ end))) (label_no_iri cs end)
      ∙ ap (λ (o : Option Found). or o (λ _. literal (node_text (labelled cs) ++ end)))
      (blank_back cs (46 ∷ []) (and→ (all scalar cs) (whole (label cs)) h).1);
  left = refl;
}
object_back (literal_of t d) h =
    let (_, r) = and→ (all scalar t) (all scalar d && (iri d || tag d)) h in
    let f = literal_back t d (and→ (all scalar d) (iri d || tag d) r).1 in
    record {
      rest = f.rest;
      is =
          ap (λ (o : Option Found). or o (after (node_text (literal_of t d) ++ end))) (text_no_iri t d end)
          ∙ (ap (λ (o : Option Found). or o (λ _. literal (node_text (literal_of t d) ++ end))) (text_no_blank t d end) ∙ f.is);
      left = f.left;
    }

-- a node's text begins with neither white space nor a comment
starts_ws : (n : Node) (X : List ℕ) → ws (node_text n ++ X) ≡ node_text n ++ X
unfolding ws node_text literal_text
starts_ws (named_node cs) X = refl
starts_ws (labelled cs) X = refl
starts_ws (literal_of t d) X = refl

starts_triple : (n : Node) (X : List ℕ) → ended (node_text n ++ X) ≡ false
unfolding ended node_text literal_text
starts_triple (named_node cs) X = refl
starts_triple (labelled cs) X = refl
starts_triple (literal_of t d) X = refl

-- SCALAR VALUES: all that is written
escaped_scalars : (c : ℕ) → T (scalar c) → T (all scalar (escaped c))
unfolding escaped
escaped_scalars c h =
    if_ind All (eqb c 34) _ _ (λ _. tt) λ _. if_ind All (eqb c 92) _ _ (λ _. tt) λ _.
    if_ind All (eqb c 10) _ _ (λ _. tt) λ _. if_ind All (eqb c 13) _ _ (λ _. tt) λ _. and← (scalar c) (all scalar []) h tt
  where
    All : List ℕ → Type 0
    All l = T (all scalar l)

escape_scalars : (cs : List ℕ) → T (all scalar cs) → T (all scalar (escape_all cs))
unfolding escape_all
escape_scalars [] h = tt
escape_scalars (c ∷ cs) h =
    let (i, j) = and→ (scalar c) (all scalar cs) h in
    all_append scalar (escaped c) (escape_all cs) (escaped_scalars c i) (escape_scalars cs j)

suffix_scalars : (d : List ℕ) → T (all scalar d) → T (all scalar (suffix_text d))
unfolding suffix_text
suffix_scalars d h =
    if_ind All (same_row d xsd_string) _ _ (λ _. tt) λ _.
    if_ind All (one_of d 58) _ _ (λ _. all_append scalar d (62 ∷ []) h tt) (λ _. h)
  where
    All : List ℕ → Type 0
    All l = T (all scalar l)

-- a node's text
node_scalars : (n : Node) → T (well_formed n) → T (all scalar (node_text n))
unfolding node_text literal_text well_formed
node_scalars (named_node cs) h = all_append scalar cs (62 ∷ []) (and→ (all scalar cs) (iri cs) h).0 tt
node_scalars (labelled cs) h = (and→ (all scalar cs) (whole (label cs)) h).0
node_scalars (literal_of t d) h =
    let (i, r) = and→ (all scalar t) (all scalar d && (iri d || tag d)) h in
    all_append scalar (escape_all t) (34 ∷ suffix_text d) (escape_scalars t i)
    (suffix_scalars d (and→ (all scalar d) (iri d || tag d) r).0)

-- THE LINE OF THREE NODES, in characters
module _ (s p o : Node) where
  abbrev third : List ℕ
  third = node_text o ++ end

  abbrev second : List ℕ
  second = node_text p ++ (32 ∷ third)

  abbrev chars : List ℕ
  chars = spaced (node_text s) (node_text p) (node_text o)

  abbrev their_terms : Terms
  their_terms = terms (term_of_node s) (term_of_node p) (term_of_node o)

  -- the texts one after the other are the encoding of the characters
  encoded : spaced (encode (node_text s)) (encode (node_text p)) (encode (node_text o)) ≡ encode chars
  unfolding encode encode_one
  encoded =
      sym (encode_append (node_text s) (32 ∷ second)
      ∙ ap (λ (l : List ℕ). encode (node_text s) ++ (32 ∷ l)) (encode_append (node_text p) (32 ∷ third)
      ∙ ap (λ (l : List ℕ). encode (node_text p) ++ (32 ∷ l)) (encode_append (node_text o) end)))

  module _ (hs : T (well_formed s)) (hp : T (well_formed p)) (ho : T (well_formed o)) where
    chars_scalars : T (all scalar chars)
    chars_scalars =
        all_append scalar (node_text s) (32 ∷ second) (node_scalars s hs)
        (all_append scalar (node_text p) (32 ∷ third) (node_scalars p hp) (all_append scalar (node_text o) end (node_scalars o ho) tt))

    triple_back : T (no_literal s) → T (is_named p) → triple_line chars ≡ says their_terms
    unfolding triple_line stopped ws ended
    triple_back ks kp =
        let f = object_back o ho in
        ap (λ (x : Option Found). on_line x (λ s. on_line (named (ws s.rest)) (predicate_then s.found)))
        (subject_back s second hs ks)
        ∙ (ap (λ (l : List ℕ). on_line (named l) (predicate_then (term_of_node s))) (starts_ws p (32 ∷ third))
        ∙ (ap (λ (x : Option Found). on_line x (predicate_then (term_of_node s))) (predicate_back p (32 ∷ third) hp kp)
        ∙ (ap (λ (l : List ℕ). on_line (object l) (object_then (term_of_node s) (term_of_node p))) (starts_ws o end)
        ∙ (ap (λ (x : Option Found). on_line x (object_then (term_of_node s) (term_of_node p))) f.is
        ∙ ap (stopped their_terms) f.left))))
      where
        object_then : Term → Term → Found → Line
        object_then a b c = stopped (terms a b c.found) (ws c.rest)

        predicate_then : Term → Found → Line
        predicate_then a b = on_line (object (ws b.rest)) (object_then a b.found)

    -- read back, from its bytes
    spaced_back : T (no_literal s) → T (is_named p) → line (encode chars) ≡ says their_terms
    unfolding line statement
    spaced_back ks kp =
        ap (λ (x : Option (List ℕ)). on_line x (λ cs. statement (ws cs))) (decode_encode chars chars_scalars)
        ∙ (ap statement (starts_ws s (32 ∷ second))
        ∙ (ap (λ (e : Bool). if e (λ _. Line.nothing) (λ _. triple_line chars)) (starts_triple s (32 ∷ second)) ∙ triple_back ks kp))

-- THE LINE OF A TRIPLE OF RDF TERMS
abbrev pub nodes_chars : {t : Terms} → Nodes t → List ℕ
nodes_chars n = chars n.s n.p n.o

module _ (t : Terms) (n : Nodes t) where
  -- reads back as the triple,
  pub nodes_line : line (encode (nodes_chars n)) ≡ says t
  nodes_line =
      let (hs, ks) = and→ (well_formed n.s) (no_literal n.s) n.s_good in
      let (hp, kp) = and→ (well_formed n.p) (is_named n.p) n.p_good in
      spaced_back n.s n.p n.o hs hp n.o_good ks kp ∙ ap says n.same

  -- and is what is written
  pub nodes_text : line_text t ≡ some (encode (nodes_chars n))
  unfolding line_text
  nodes_text =
      let (hs, ks) = and→ (well_formed n.s) (no_literal n.s) n.s_good in
      let (hp, kp) = and→ (well_formed n.p) (is_named n.p) n.p_good in
      let u = their_terms n.s n.p n.o in
      let stands =
      and← (not (eqb u.s.kind 3)) (eqb u.p.kind 1) (subst T (kind_literal n.s) ks) (subst T (kind_named n.p) kp) in
      subst (λ (x : Terms). line_text x ≡ some (encode (nodes_chars n))) n.same
      (when← (may_stand u) _ stands
      ∙ (λ i. on (node_has_text n.s hs i)
      (λ s. on (node_has_text n.p hp i) (λ p. on (node_has_text n.o n.o_good i) (λ o. some (spaced s p o)))))
      ∙ ap some (encoded n.s n.p n.o))

-- A TRIPLE THAT HAS A LINE is one of RDF terms
pub record Written (t : Terms) (l : List ℕ) : Type 0 where
  pub nodes : Nodes t
  pub bytes : encode (nodes_chars nodes) ≡ l

pub text_nodes : (t : Terms) (l : List ℕ) → line_text t ≡ some l → Written t l
unfolding line_text
text_nodes t l e =
    let (m, q) = when→ (may_stand t) _ e in
    let (ks, kp) = and→ (not (eqb t.s.kind 3)) (eqb t.p.kind 1) m in
    let a = on→ (term_text t.s) _ l q in
    let b = on→ (term_text t.p) _ l a.then in
    let c = on→ (term_text t.o) _ l b.then in
    let s = text_of_node t.s a.got a.is in
    let p = text_of_node t.p b.got b.is in
    let o = text_of_node t.o c.got c.is in
    record {
      nodes = record {
        s = s.node;
        p = p.node;
        o = o.node;
        s_good = and← (well_formed s.node) (no_literal s.node) s.good
            (subst T (sym (kind_literal s.node ∙ ap (λ (x : Term). not (eqb x.kind 3)) s.is)) ks);
        p_good = and← (well_formed p.node) (is_named p.node) p.good
            (subst T (sym (kind_named p.node ∙ ap (λ (x : Term). eqb x.kind 1) p.is)) kp);
        o_good = o.good;
        same = λ i. terms (s.is i) (p.is i) (o.is i);
      };
      bytes = sym (encoded s.node p.node o.node) ∙ ((λ i. spaced (s.text i) (p.text i) (o.text i)) ∙ same_some c.then);
    }

-- A WRITTEN LINE READS BACK AS ITS TRIPLE
pub line_back : (t : Terms) (l : List ℕ) → line_text t ≡ some l → line l ≡ says t
line_back t l e = let w = text_nodes t l e in ap line (sym w.bytes) ∙ nodes_line t w.nodes
