-- The answers that values of the types of src/ stand for. Assumes nothing.
use Rattle.edge_c.specs.declared.dictionary.TermPlace.{TermPlace}
use Rattle.edge_c.specs.Calls.{PlaceAnswer, place_answer}

abbrev pub placed : TermPlace → PlaceAnswer
placed p = place_answer p.number p.kind p.begin p.len
