-- What a closure must know of container properties. Assumes nothing.
use Rattle.std.specs.Prelude.{Bool, ℕ}

-- What a dictionary says of container properties: which ids are their ids (`is`), and the ids of the three terms that a run
-- puts: rdf Property, rdfs ContainerMembershipProperty and rdfs member.
pub record Containers : Type 0 where
  pub is : ℕ → Bool
  pub property : ℕ
  pub membership : ℕ
  pub member : ℕ
