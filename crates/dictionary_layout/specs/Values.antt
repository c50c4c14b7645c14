-- The contents that a table, an arena and the counters of src/ stand for. Assumes nothing.
use Rattle.std.specs.Prelude.{List, ℕ}
use Rattle.dictionary_layout.specs.declared.values.Counters.{Counters}
use Rattle.dictionary_layout.specs.Layout.{Dict, dict}

abbrev pub contents : List ℕ → List ℕ → Counters → Dict
contents t a c = dict t a c.terms c.used
