-- What a run is lent. REFERENCE 1.3 and 3.4. Assumes nothing.
use Rattle.std.specs.Prelude.{List, ℕ}

-- the buffers that a run is lent besides the dictionary: the load, the store, the findings, the list work buffer
pub record Lent : Type 0 where
  pub load : List ℕ
  pub store : List ℕ
  pub findings : List ℕ
  pub work : List ℕ

-- the same, from its four
abbrev pub lent : List ℕ → List ℕ → List ℕ → List ℕ → Lent
lent l s f w = record { load = l; store = s; findings = f; work = w }
