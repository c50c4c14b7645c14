-- `ntriples_text::text_length` meets its contract. Assumes nothing.
use mathlib.Core.Path.{sym, ap, ◌∙◌}
use native.Mathlib.Omega.{arith}
use mathlib.Core.List.{◌∷◌}
use lib.ListN.{take}
use Rattle.dictionary_layout.specs.Terms.{term}
use Rattle.ntriples_canonical.proofs.Bytes.{not_utf8, other_kind}
use Rattle.ntriples_text.specs.Promises.{text_size, in_angles}
use Rattle.ntriples_text.proofs.Stores.{angles_length}
use Rattle.ntriples_text.proofs.Texts.{measured_if, named_is, blank_is}
use Rattle.ntriples_text.proofs.text_length.Goals as goal

pub returns-in_err-n : goal.returns-in_err-n
returns-in_err-n c =
    let t = term c.args.kind c.args.bytes.now in
    c.from_residual.ensures ∙ ap text_size (sym (not_utf8 t (sym c.in_err-n.ensures.chars_are)))

pub returns-in-1 : goal.returns-in-1
returns-in-1 c =
    let bytes = c.args.bytes.now in
    let chars = take c.in_ok-n.n c.decode.new.chars in
    let decoded = sym c.in_ok-n.ensures.chars_are in
    measured_if c.iri.result (in_angles bytes) (named_is c.args.kind bytes chars c.in-1.is decoded c.iri.ensures) c.then_some.ensures
    (sym (angles_length bytes))

pub returns-in-2 : goal.returns-in-2
returns-in-2 c =
    let bytes = c.args.bytes.now in
    let chars = take c.in_ok-n.n c.decode.new.chars in
    let decoded = sym c.in_ok-n.ensures.chars_are in
    measured_if c.whole_label.result (95 ∷ 58 ∷ bytes) (blank_is c.args.kind bytes chars c.in-2.is decoded c.whole_label.ensures)
    c.then_some-in-2.ensures (omega arith)

pub returns-in_default : goal.returns-in_default
returns-in_default c =
    let t = term c.args.kind c.args.bytes.now in
    ap text_size (sym (other_kind t (omega arith) (omega arith) (omega arith)))
