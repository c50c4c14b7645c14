-- `dictionary_containers::is_container_term` meets its contract. Assumes nothing.
use mathlib.Core.Path.{sym, ◌∙◌, ap}
use lib.ListN.{drop}
use Rattle.dictionary_containers.specs.Containers.{prefix}
use Rattle.dictionary_containers.specs.ByDigits.{is_number_by_digits}
use Rattle.dictionary_containers.proofs.ByDigits.{digits_are_value}
use Rattle.dictionary_containers.proofs.ContainerTerms.{prefix_row, container_kind, container_other, container_number}
use Rattle.dictionary_containers.proofs.is_container_term.Goals as goal

pub returns-then-kind-ne1 : goal.returns-then-kind-ne1
returns-then-kind-ne1 c =
    container_kind c.args.kind c.args.bytes.now c.if-kind-ne1.true

pub returns-in-Some : goal.returns-in-Some
returns-in-Some c =
    let bytes = c.args.bytes.now in
    let begins = sym c.in-Some.ensures.cases.0 ∙ prefix_row prefix bytes in
    c.is_number.ensures
    ∙ (ap is_number_by_digits c.in-Some.ensures.cases.1
    ∙ (digits_are_value (drop 44 bytes) ∙ container_number c.args.kind bytes c.if-kind-ne1.false begins))

pub returns-in-None : goal.returns-in-None
returns-in-None c =
    let bytes = c.args.bytes.now in
    container_other c.args.kind bytes (sym c.in-None.ensures.cases ∙ prefix_row prefix bytes)
