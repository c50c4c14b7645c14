-- The checks of the table are the checks in words, both ways: all five; and the findings computed are exactly the records whose
-- check holds. Assumes nothing.
use mathlib.Core.Path.{◌≡◌, refl, sym, subst}
use mathlib.Core.Logic.{◌⊎◌, inl, inr}
use mathlib.Core.List.{List, []}
use Prim.Native.Nat.{ℕ}
use Rattle.common.specs.Triples.{Triple, Finding, finding, In, key_finding, Ascending, insert_all}
use Rattle.common.specs.Vocabulary.{type}
use Rattle.meaning.specs.Rules.{Graph, ListSets, Found, cax_dw, prp_irp, prp_asyp, prp_pdw, cls_nothing2}
use Rattle.meaning.specs.Table.{checks, consequences, Follows, graph_of, sets_of}
use Rattle.meaning.specs.Closure.{Sub, findings}
use Rattle.common.proofs.Lists.{in_nil}
use Rattle.common.proofs.Order.{in_insert_all→, in_insert_all_new, ascending_insert_all, finding_tells}
use Rattle.meaning.proofs.Table.{follows→, follows←}

module _ (S : Graph) (M : ListSets) where
  abbrev FoundF : Finding → Type 0
  FoundF x = Found S x.check x.a x.b x.c x.d

  pub found→table : {n a b c d : ℕ} → Found S n a b c d → Follows checks S M (finding n a b c d)
  unfolding checks
  found→table (cax_dw {i = i} {c = c} {d = d} h j k n) = inl (c, d, k, (i, h, (i, j, inl (refl, inr (n, refl)))))
  found→table (prp_irp {p = p} {s = s} h j n) = inr (inl (p, h, (s, s, j, inl (refl, inr (n, refl)))))
  found→table (prp_asyp {p = p} {a = a} {b = b} h j k n₁ n₂ n₃) =
      inr (inr (inl (p, h, (a, b, j, (a, k, inl (refl, inr (n₁, inr (n₂, inr (n₃, refl)))))))))
  found→table (prp_pdw {a = a} {b = b} {p = p} {q = q} h j k n₁ n₂ n₃ n₄) =
      inr (inr (inr (inl (p, q, h, (a, b, j, (b, k, inl (refl, inr (n₁, inr (n₂, inr (n₃, inr (n₄, refl)))))))))))
  found→table (cls_nothing2 {i = i} h n) = inr (inr (inr (inr (inl (i, h, inr (n, refl))))))

  -- the record in hand is the one that the check makes
  by : {x y : Finding} → x ≡ y → FoundF y → FoundF x
  by e g = subst FoundF (sym e) g

  -- a test that must hold, and one that must not
  met : {A B X : Type 0} → (A × X) ⊎ (B × ⊥) → A × X
  met (inl h) = h
  met (inr h) = absurd h.1

  kept : {A B X : Type 0} → (A × ⊥) ⊎ (B × X) → B × X
  kept (inl h) = absurd h.1
  kept (inr h) = h

  pub table→found : (x : Finding) → Follows checks S M x → FoundF x
  unfolding checks
  table→found x (inl (c, d, k, (i, h, (j, g, m)))) =
      let (e, m₁) = met m in
      let (n, f) = kept m₁ in
      by f (cax_dw h (subst (λ z. S z type d) (sym e) g) k n)
  table→found x (inr (inl (p, h, (s, o, g, m)))) =
      let (e, m₁) = met m in
      let (n, f) = kept m₁ in
      by f (prp_irp h (subst (λ z. S s p z) (sym e) g) n)
  table→found x (inr (inr (inl (p, h, (a, b, j, (c, k, m)))))) =
      let (e, m₁) = met m in
      let (n₁, m₂) = kept m₁ in
      let (n₂, m₃) = kept m₂ in
      let (n₃, f) = kept m₃ in
      by f (prp_asyp h j (subst (λ z. S b p z) e k) n₁ n₂ n₃)
  table→found x (inr (inr (inr (inl (p, q, h, (a, b, j, (c, k, m))))))) =
      let (e, m₁) = met m in
      let (n₁, m₂) = kept m₁ in
      let (n₂, m₃) = kept m₂ in
      let (n₃, m₄) = kept m₃ in
      let (n₄, f) = kept m₄ in
      by f (prp_pdw h j (subst (λ z. S a q z) e k) n₁ n₂ n₃ n₄)
  table→found x (inr (inr (inr (inr (inl (i, h, m)))))) =
      let (n, f) = kept m in
      by f (cls_nothing2 h n)
  table→found x (inr (inr (inr (inr (inr h))))) = absurd h

-- the findings computed from a list: ascending, and exactly the records whose check holds in it
pub findings_ascending : (ts : List Triple) → Ascending key_finding (findings ts)
unfolding findings insert_all
findings_ascending ts = ascending_insert_all key_finding (consequences checks (λ l. []) ts) [] tt

pub findings→ : (ts : List Triple) {x : Finding} → In x (findings ts) → Found (graph_of ts) x.check x.a x.b x.c x.d
unfolding insert_all findings
findings→ ts {x} h = go (in_insert_all→ key_finding (consequences checks (λ l. []) ts) [] h)
  where
    go : In x (consequences checks (λ l. []) ts) ⊎ In x [] → Found (graph_of ts) x.check x.a x.b x.c x.d
    go (inl i) = table→found (graph_of ts) (sets_of (λ l. [])) x (follows→ checks ts (λ l. []) x i)
    go (inr i) = absurd (in_nil i)

pub findings← : (ts : List Triple) {n a b c d : ℕ} → Found (graph_of ts) n a b c d → In (finding n a b c d) (findings ts)
unfolding findings insert_all
findings← ts {n} {a} {b} {c} {d} h =
    in_insert_all_new key_finding finding_tells (consequences checks (λ l. []) ts) []
    (follows← checks ts (λ l. []) (finding n a b c d) (found→table (graph_of ts) (sets_of (λ l. [])) h))

-- a larger set has no fewer findings
pub found_up : {S S' : Graph} → Sub S S' → {n a b c d : ℕ} → Found S n a b c d → Found S' n a b c d
found_up f (cax_dw h j k n) = cax_dw (f _ _ _ h) (f _ _ _ j) (f _ _ _ k) n
found_up f (prp_irp h j n) = prp_irp (f _ _ _ h) (f _ _ _ j) n
found_up f (prp_asyp h j k l m n) = prp_asyp (f _ _ _ h) (f _ _ _ j) (f _ _ _ k) l m n
found_up f (prp_pdw h j k l m n o) = prp_pdw (f _ _ _ h) (f _ _ _ j) (f _ _ _ k) l m n o
found_up f (cls_nothing2 h n) = cls_nothing2 (f _ _ _ h) n
