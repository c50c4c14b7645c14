-- Where only a list's own cells have one of its cells as rdf:rest object, the group of its first cell has the members of the list, and
-- no others. Assumes nothing.
use mathlib.Core.Path.{◌≡◌, refl, sym, subst}
use mathlib.Core.Logic.{◌⊎◌, inl, inr, ◌≢◌}
use mathlib.Core.List.{List, ◌∷◌}
use Prim.Native.Nat.{ℕ}
use Rattle.common.specs.Triples.{In, here, there}
use Rattle.common.specs.Vocabulary.{first, rest, nil}
use Rattle.meaning.specs.Rules.{Graph}
use Rattle.meaning.specs.Lists.{Proper, ends, cell, MemberOf}
use Rattle.meaning.specs.Groups.{Joined, alone, forth, back, GroupMember, OwnCells}
use Rattle.common.proofs.Lists.{in_nil, in_cons}

module _ {S : Graph} where
  -- the cell named is among the cells
  head_cell : {l : ℕ} {cs ms : List ℕ} → Proper S l cs ms → l ≢ nil → In l cs
  head_cell (ends e) n = absurd (n e)
  head_cell (cell d f g u p) n = here refl

  -- a node whose list has a member is not nil
  with_member : {l m : ℕ} {cs ms : List ℕ} → Proper S l cs ms → In m ms → l ≢ nil
  with_member (ends e) i = absurd (in_nil i)
  with_member (cell d f g u p) i = d

  -- the rdf:rest object of a cell is a cell or nil
  next_cell : {l x y : ℕ} {cs ms : List ℕ} → Proper S l cs ms → In x cs → S x rest y → y ≢ nil → In y cs
  next_cell (ends e) i h n = absurd (in_nil i)
  next_cell {l} {x} {y} (cell {r = r} {cs = cs} {ms = ms} d f g u p) i h n = go (in_cons i) (λ j. next_cell p j h n)
    where
      after : y ≡ r → In y cs
      after e = subst (λ z. In z cs) (sym e) (head_cell p (λ q. n (subst (λ z. z ≡ nil) (sym e) q)))

      go : (x ≡ l) ⊎ In x cs → (In x cs → In y cs) → In y (l ∷ cs)
      go (inl e) k = there (after (g.alone y (subst (λ z. S z rest y) e h)))
      go (inr j) k = there (k j)

  -- and its rdf:first object is a member
  cell_member : {l x m : ℕ} {cs ms : List ℕ} → Proper S l cs ms → In x cs → S x first m → In m ms
  cell_member (ends e) i h = absurd (in_nil i)
  cell_member {l} {x} {m} (cell {m = k} {cs = cs} {ms = ms} d f g u p) i h = go (in_cons i) (λ j. cell_member p j h)
    where
      go : (x ≡ l) ⊎ In x cs → (In x cs → In m ms) → In m (k ∷ ms)
      go (inl e) w = here (f.alone m (subst (λ z. S z first m) e h))
      go (inr j) w = there (w j)

  -- a walk forth or back stays among the cells
  stays : {l x y : ℕ} {cs ms : List ℕ} → OwnCells S l cs ms → Joined S x y → In x cs → In y cs
  stays h alone i = i
  stays h (forth e n j) i = stays h j (next_cell h.proper i e n)
  stays h (back {x = x} {y = y} e n j) i = stays h j (h.own y x e i)

  -- THE GROUP AND THE LIST HAVE THE SAME MEMBERS: where the cells are the list's own,
  pub group→list : {l m : ℕ} {cs ms : List ℕ} → OwnCells S l cs ms → GroupMember S l m → MemberOf S l m
  group→list {cs = cs} {ms = ms} h (n, j, i) =
      (cs, ms, h.proper, cell_member h.proper (stays h j (head_cell h.proper h.named)) i)

  -- and, for every list, the other way: its cells are of one group
  pub list→group : {l m : ℕ} → MemberOf S l m → GroupMember S l m
  list→group {m = m} (cs, ms, p, i) = go p i
    where
      go : {l : ℕ} {cs ms : List ℕ} → Proper S l cs ms → In m ms → GroupMember S l m
      go (ends e) i = absurd (in_nil i)
      go (cell {l = l} d f g u p) i = pick f.stands g.stands (in_cons i) (λ j. with_member p j) (λ j. go p j)
        where
          pick : {k r : ℕ} {ms' : List ℕ} → S l first k → S l rest r → (m ≡ k) ⊎ In m ms' → (In m ms' → r ≢ nil)
              → (In m ms' → GroupMember S r m) → GroupMember S l m
          pick a b (inl e) n w = (l, alone, subst (λ z. S l first z) (sym e) a)
          pick a b (inr j) n w = let (x, q, s) = w j in (x, forth b (n j) q, s)
