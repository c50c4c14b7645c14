-- The triple and the row that values of the types of src/ stand for. REFERENCE 1.2 and 1.3. Assumes nothing.
use Rattle.common.specs.declared.Triple as declared
use Rattle.common.specs.declared.Row as stored
use Rattle.common.specs.Triples.{Triple, triple, Row, row}

abbrev pub triple_of : declared.Triple → Triple
triple_of t = triple t.s.0 t.p.0 t.o.0

abbrev pub row_of : stored.Row → Row
row_of r = row (triple_of r.it) r.pass r.rule
