-- The cases of specs/Cases.antt hold of the definitions: one theorem over the tables. Assumes nothing.
use mathlib.Core.Path.{refl}
use Rattle.dictionary_layout.specs.Terms.{start_terms, run_terms}
use Rattle.ntriples.specs.Utf8.{first, decode_after, encode_one, encode}
use Rattle.ntriples.specs.Characters.{one_of, pn_chars_base, pn_chars_u, pn_chars, iri_char, iri, tag_from, tag}
use Rattle.ntriples.specs.Grammar.{label_rest, label, xsd_string}
use Rattle.ntriples.specs.Nodes.{well_formed}
use Rattle.ntriples_canonical.specs.Writing.{last_zero, node_of, escaped, escape_all, suffix_text, literal_text, node_text, term_text}
use Rattle.ntriples_canonical.specs.Writing.{line_text, text_of, left_out, as_terms}
use Rattle.ntriples_canonical.specs.Calls.{written_on, abstract_write}
use Rattle.ntriples_canonical.specs.Cases.{AllHold}

-- every case of the tables
pub cases_hold : AllHold
unfolding start_terms run_terms first decode_after encode_one encode one_of pn_chars_base pn_chars_u pn_chars iri_char iri tag_from tag
    label_rest label xsd_string well_formed last_zero node_of escaped escape_all suffix_text literal_text node_text term_text line_text
    text_of left_out as_terms written_on abstract_write
cases_hold = (refl, refl, refl, refl, refl, refl, refl)
