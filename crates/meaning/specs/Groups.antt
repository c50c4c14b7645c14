-- Groups, as the original reads lists: nodes joined by rdf:rest, other than to object nil, are one group, and every rdf:first object of
-- the group is a member. No rule reads them: lists are those of Lists.antt, REFERENCE 5.2. `OwnCells` says where a group and a list have
-- the same members. Assumes nothing.
use Rattle.std.specs.Prelude.{◌≢◌, List, ℕ}
use Rattle.common.specs.Triples.{In}
use Rattle.common.specs.Vocabulary.{first, rest, nil}
use Rattle.meaning.specs.Rules.{Graph, ListSets}
use Rattle.meaning.specs.Lists.{Proper}

-- x and y are in one group: a walk along rdf:rest, forth or back, goes from x to y and passes no triple whose object is nil
pub data Joined (S : Graph) : ℕ → ℕ → Type 0 where
  alone : {x : ℕ} → Joined S x x
  forth : {x y z : ℕ} → S x rest y → y ≢ nil → Joined S y z → Joined S x z
  back : {x y z : ℕ} → S y rest x → x ≢ nil → Joined S y z → Joined S x z

-- m is a member of the group of l
abbrev pub GroupMember : Graph → ListSets
GroupMember S l m = (n : ℕ) × Joined S l n × S n first m

-- l is the first cell of a proper list, and only the list's own cells have one of its cells as rdf:rest object
pub record OwnCells (S : Graph) (l : ℕ) (cs ms : List ℕ) : Type 0 where
  pub proper : Proper S l cs ms
  pub named : l ≢ nil
  pub own : (x c : ℕ) → S x rest c → In c cs → In x cs
