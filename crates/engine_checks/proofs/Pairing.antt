-- The pairs of rows and the findings in words: a finding comes from one pair, and the pairs of a store give exactly its findings.
-- Assumes nothing.
use mathlib.Core.Path.{◌≡◌, refl, sym, ap, subst, ◌∙◌}
use Rattle.std.specs.Prelude.{Some, None}
use Rattle.std.proofs.Common.{ne_eqb}
use mathlib.Core.List.{List}
use Prim.Native.Nat.{ℕ, ◌<◌}
use lib.Dec.{eqb}
use Rattle.common.specs.Triples.{Triple, triple, Finding, finding, In, if}
use Rattle.common.specs.Vocabulary.{type, Nothing, IrreflexiveProperty, AsymmetricProperty, disjointWith, propertyDisjointWith}
use Rattle.meaning.specs.Rules.{Graph, Found, cax_dw, prp_irp, prp_asyp, prp_pdw, cls_nothing2}
use Rattle.meaning.specs.Table.{graph_of}
use Rattle.store_rows.specs.Rows.{row_at, rows, InRows, row_graph}
use Rattle.store_rows.specs.Chains.{Chain}
use Rattle.store_rows.specs.Store.{Indexed}
use Rattle.store_rows.proofs.Rows.{triple_eq, in_rows→, in_rows←}
use Rattle.engine_checks.specs.declared.CheckKind.{CheckKind}
use Rattle.engine_checks.specs.declared.CheckKind.TheVariants.{CaxDw, PrpIrp, PrpAsyp, PrpPdw, ClsNothing2}
use Rattle.engine_checks.specs.Pairs.{Axiom, check_of, KindOf, Violates, finding_by, assertions_block, key_by, Gives, GivesWith}
use Rattle.engine_checks.specs.Pairs.{GivenByRow, GivenByRows}

-- an axiom is one of its check alone
pub axiom_kind : (k : CheckKind) (t : Triple) → Axiom k t → check_of t ≡ Some k
unfolding check_of
axiom_kind CaxDw t a = rw a
axiom_kind PrpIrp t (a, b) = rw (a, b)
axiom_kind PrpAsyp t (a, b) = rw (a, b)
axiom_kind PrpPdw t a = rw a
axiom_kind ClsNothing2 t (a, b) = rw (a, b)

-- so check_of finds it
pub kind_some : (k : CheckKind) (t : Triple) → Axiom k t → KindOf t (Some k)
kind_some k t a = record { is = sym (axiom_kind k t a); stated = λ c e. subst (λ (x : CheckKind). Axiom x t) (same e) a }
  where
    same : {c : CheckKind} → Some k ≡ Some c → k ≡ c
    same e = cc

-- and none for a triple of another predicate, or that types by another class
pub kind_other : (t : Triple) → (t.p ≡ disjointWith → ⊥) → (t.p ≡ propertyDisjointWith → ⊥) → (t.p ≡ type → ⊥) → KindOf t None
unfolding check_of
kind_other t a b c = record { is = simp (ne_eqb _ _ a, ne_eqb _ _ b, ne_eqb _ _ c); stated = λ k e. cc }

pub kind_typed : (t : Triple) → t.p ≡ type → (t.o ≡ IrreflexiveProperty → ⊥) → (t.o ≡ AsymmetricProperty → ⊥) → (t.o ≡ Nothing → ⊥)
    → KindOf t None
unfolding check_of
kind_typed t p a b c = record { is = rw p (simp (ne_eqb _ _ a, ne_eqb _ _ b, ne_eqb _ _ c)); stated = λ k e. cc }

-- the chain that has the assertions
pub violates_key : (k : CheckKind) (R : Graph) (t u : Triple) → Violates k R t u → key_by k u ≡ t.s
violates_key CaxDw R t u v = v.class
violates_key PrpIrp R t u v = v.property
violates_key PrpAsyp R t u v = v.property
violates_key PrpPdw R t u v = v.property
violates_key ClsNothing2 R t u v = v.instance

chain_of : {l ix : List ℕ} {n : ℕ} → Indexed l n ix → (k : CheckKind) → Chain (λ j. key_by k (row_at l j)) n ix (assertions_block k)
chain_of i CaxDw = i.by_object
chain_of i PrpIrp = i.by_predicate
chain_of i PrpAsyp = i.by_predicate
chain_of i PrpPdw = i.by_predicate
chain_of i ClsNothing2 = i.by_subject

pub chain_by : {l ix : List ℕ} {n : ℕ} → Indexed l n ix → (k : CheckKind) (b : ℕ) → b ≡ assertions_block k
    → Chain (λ j. key_by k (row_at l j)) n ix b
chain_by {l} {ix} {n} i k b e = subst (λ (x : ℕ). Chain (λ j. key_by k (row_at l j)) n ix x) (sym e) (chain_of i k)

-- the axiom of a finding, from the record
axiom_in : Finding → Triple
axiom_in x =
    if (eqb x.check 1) (λ _. triple x.b disjointWith x.c)
    (λ _. if (eqb x.check 2) (λ _. triple x.a type IrreflexiveProperty)
    (λ _. if (eqb x.check 3) (λ _. triple x.a type AsymmetricProperty)
    (λ _. if (eqb x.check 4) (λ _. triple x.c propertyDisjointWith x.d)
    (λ _. triple x.a type Nothing))))

axiom_from : (k : CheckKind) (t u : Triple) → Axiom k t → axiom_in (finding_by k t u) ≡ t
unfolding axiom_in
axiom_from CaxDw t u a = triple_eq (triple t.s disjointWith t.o) t refl (sym a) refl
axiom_from PrpIrp t u (a, b) = triple_eq (triple t.s type IrreflexiveProperty) t refl (sym a) (sym b)
axiom_from PrpAsyp t u (a, b) = triple_eq (triple t.s type AsymmetricProperty) t refl (sym a) (sym b)
axiom_from PrpPdw t u a = triple_eq (triple t.s propertyDisjointWith t.o) t refl (sym a) refl
axiom_from ClsNothing2 t u (a, b) = triple_eq (triple t.s type Nothing) t refl (sym a) (sym b)

-- A FINDING COMES FROM ONE AXIOM
pub same_axiom : {l : List ℕ} {n i j : ℕ} {x : Finding} → GivenByRow l n i x → GivenByRow l n j x → row_at l i ≡ row_at l j
same_axiom {l} {n} {i} {j} {x} g h = sym (from g) ∙ from h
  where
    from : {m : ℕ} → GivenByRow l n m x → axiom_in x ≡ row_at l m
    from {m} d = ap axiom_in d.gives.gives.is ∙ axiom_from d.kind (row_at l m) (row_at l d.gives.at) d.stated

-- AND FROM ONE ASSERTION
pub same_assertion : (k : CheckKind) (R : Graph) (t u v : Triple) → Violates k R t u → Violates k R t v
    → finding_by k t u ≡ finding_by k t v → u ≡ v
same_assertion CaxDw R t u v a b e = triple_eq u v (ap (λ (x : Finding). x.a) e) (a.typed ∙ sym b.typed) (a.class ∙ sym b.class)
same_assertion PrpIrp R t u v a b e =
    triple_eq u v (ap (λ (x : Finding). x.b) e) (a.property ∙ sym b.property)
    (sym a.same ∙ ap (λ (x : Finding). x.b) e ∙ b.same)
same_assertion PrpAsyp R t u v a b e =
    triple_eq u v (ap (λ (x : Finding). x.b) e) (a.property ∙ sym b.property) (ap (λ (x : Finding). x.c) e)
same_assertion PrpPdw R t u v a b e =
    triple_eq u v (ap (λ (x : Finding). x.a) e) (a.property ∙ sym b.property) (ap (λ (x : Finding). x.b) e)
same_assertion ClsNothing2 R t u v a b e =
    triple_eq u v (a.instance ∙ sym b.instance) (a.typed ∙ sym b.typed) (a.class ∙ sym b.class)

-- THE FINDINGS IN WORDS: the pairs of the store give exactly the records whose check holds in it.
module _ (l : List ℕ) (n : ℕ) where
  given_by : (k : CheckKind) {t u : Triple} → InRows l n t → InRows l n u → Axiom k t → Violates k (row_graph l n) t u
      → GivenByRows l n (finding_by k t u)
  given_by k {t} {u} i j a v = record {
    at = i.at;
    below = i.below;
    gives = record {
      kind = k;
      stated = subst (Axiom k) (sym i.is) a;
      gives = subst (λ (z : Triple). GivesWith k l n z (finding_by k t u)) (sym i.is) (record {
        at = j.at;
        below = j.below;
        gives = subst (λ (z : Triple). Gives k (row_graph l n) t z (finding_by k t u)) (sym j.is) (record { violated = v; is = refl });
      });
    };
  }

  pub found→given : {k a b c d : ℕ} → Found (graph_of (rows n l)) k a b c d → GivenByRows l n (finding k a b c d)
  found→given (cax_dw {i = i} {c = c} {d = d} h j k z) =
      given_by CaxDw (in_rows→ n l k) (in_rows→ n l h) refl (record { typed = refl; class = refl; other = in_rows→ n l j; nonzero = z })
  found→given (prp_irp h j z) =
      given_by PrpIrp (in_rows→ n l h) (in_rows→ n l j) (refl, refl) (record { property = refl; same = refl; nonzero = z })
  found→given (prp_asyp h j k x y z) =
      given_by PrpAsyp (in_rows→ n l h) (in_rows→ n l j) (refl, refl)
      (record { property = refl; back = in_rows→ n l k; nonzero_p = x; nonzero_a = y; nonzero_b = z })
  found→given (prp_pdw h j k w x y z) =
      given_by PrpPdw (in_rows→ n l h) (in_rows→ n l j) refl
      (record { property = refl; other = in_rows→ n l k; nonzero_a = w; nonzero_b = x; nonzero_p = y; nonzero_q = z })
  found→given (cls_nothing2 h z) =
      given_by ClsNothing2 (in_rows→ n l h) (in_rows→ n l h) (refl, refl)
      (record { instance = refl; typed = refl; class = refl; nonzero = z })

  -- row j is the triple of these ids
  there_is : {x y z : ℕ} (j : ℕ) → j < n → (row_at l j).s ≡ x → (row_at l j).p ≡ y → (row_at l j).o ≡ z → In (triple x y z) (rows n l)
  there_is {x} {y} {z} j b p q r = in_rows← {l = l} {n = n}
      (record { at = j; below = b; is = triple_eq (row_at l j) (triple x y z) p q r })

  pair→found : (k : CheckKind) (i j : ℕ) → i < n → j < n → Axiom k (row_at l i)
      → Violates k (row_graph l n) (row_at l i) (row_at l j) → (x : Finding) → x ≡ finding_by k (row_at l i) (row_at l j)
      → Found (graph_of (rows n l)) x.check x.a x.b x.c x.d
  pair→found k i j b c a v x e =
      subst (λ (y : Finding). Found (graph_of (rows n l)) y.check y.a y.b y.c y.d) (sym e) (go k a v)
    where
      t : Triple
      t = row_at l i

      u : Triple
      u = row_at l j

      go : (k : CheckKind) → Axiom k t → Violates k (row_graph l n) t u
          → Found (graph_of (rows n l)) (finding_by k t u).check (finding_by k t u).a (finding_by k t u).b
          (finding_by k t u).c (finding_by k t u).d
      go CaxDw a v = cax_dw (there_is j c refl v.typed v.class) (in_rows← v.other) (there_is i b refl a refl) v.nonzero
      go PrpIrp (a, o) v = prp_irp (there_is i b refl a o) (there_is j c refl v.property (sym v.same)) v.nonzero
      go PrpAsyp (a, o) v =
          prp_asyp (there_is i b refl a o) (there_is j c refl v.property refl) (in_rows← v.back) v.nonzero_p
          v.nonzero_a v.nonzero_b
      go PrpPdw a v =
          prp_pdw (there_is i b refl a refl) (there_is j c refl v.property refl) (in_rows← v.other) v.nonzero_a
          v.nonzero_b v.nonzero_p v.nonzero_q
      go ClsNothing2 (a, o) v = cls_nothing2 (there_is i b refl a o) v.nonzero

  pub given→found : {x : Finding} → GivenByRows l n x → Found (graph_of (rows n l)) x.check x.a x.b x.c x.d
  given→found {x} g =
      let w = g.gives.gives in pair→found g.gives.kind g.at w.at g.below w.below g.gives.stated
      w.gives.violated x w.gives.is
