-- `literal::suffix_length` meets its contract. Assumes nothing.
use mathlib.Core.Path.{sym, ◌∙◌}
use Rattle.ntriples.specs.Grammar.{xsd_string}
use Rattle.ntriples_text.proofs.Suffixes.{length_plain, length_datatype, length_tag}
use Rattle.ntriples_text.proofs.literal.suffix_length.Goals as goal

pub returns-then-same_bytes : goal.returns-then-same_bytes
unfolding xsd_string
returns-then-same_bytes c =
    let d = c.args.d.now in
    length_plain d (sym c.if-same_bytes.true ∙ c.same_bytes.ensures)

pub returns-then-has_colon : goal.returns-then-has_colon
unfolding xsd_string
returns-then-has_colon c =
    let d = c.args.d.now in
    length_datatype d (sym c.if-same_bytes.false ∙ c.same_bytes.ensures)
    (sym c.if-has_colon.true ∙ c.has_colon.ensures)

pub returns : goal.returns
unfolding xsd_string
returns c =
    let d = c.args.d.now in
    length_tag d (sym c.if-same_bytes.false ∙ c.same_bytes.ensures)
    (sym c.if-has_colon.false ∙ c.has_colon.ensures)
