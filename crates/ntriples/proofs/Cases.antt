-- The cases of specs/Cases.antt hold of the definitions: one theorem over the tables. Assumes nothing.
use mathlib.Core.Path.{refl}
use Rattle.dictionary_layout.specs.Dictionary.{place_from, abstract_put, put_all}
use Rattle.ntriples.specs.Utf8.{first, decode_after, encode_one, encode}
use Rattle.ntriples.specs.Characters.{one_of, pn_chars_base, pn_chars_u, pn_chars, iri_char, string_char, hex, echar, iri, tag_from}
use Rattle.ntriples.specs.Characters.{tag}
use Rattle.ntriples.specs.Grammar.{hexes, uchar, escape, quoted, iri_after, iriref, string_literal_quote, label_rest, label}
use Rattle.ntriples.specs.Grammar.{blank_node_label, tag_run, langtag, ws, xsd_string, named, blank_node, typed, suffix, literal}
use Rattle.ntriples.specs.Grammar.{subject, object, ended, stopped, triple_line, statement, line}
use Rattle.ntriples.specs.Reading.{lines, read_line, read_lines, read_file}
use Rattle.ntriples.specs.Cases.{AllHold}

-- every case of the tables
pub cases_hold : AllHold
unfolding first decode_after encode_one encode one_of pn_chars_base pn_chars_u pn_chars iri_char string_char hex echar iri tag_from tag
    hexes uchar escape quoted iri_after iriref string_literal_quote label_rest label blank_node_label tag_run langtag ws xsd_string named
    blank_node typed suffix literal subject object ended stopped triple_line statement line lines read_line read_lines read_file place_from
    abstract_put put_all
cases_hold = (refl, refl, refl, refl, refl, refl, refl, refl, refl)
