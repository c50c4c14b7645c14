-- `dictionary_index::find_part` meets its contract. Assumes nothing.
use mathlib.Core.Path.{sym, ◌∙◌}
use Rattle.dictionary_layout.specs.Dictionary.{valid}
use Rattle.dictionary_layout.specs.Values.{contents}
use Rattle.dictionary_layout.proofs.Choice.{true→T, false→not_T}
use Rattle.dictionary_index.proofs.Looking.{look_1}
use Rattle.dictionary_index.proofs.find_part.Goals as goal

pub locate-requires : goal.locate-requires
locate-requires c =
    let d = contents c.args.table.now c.args.arena.now c.args.counters in
    true→T (valid d) (sym c.if-is_valid.true ∙ c.is_valid.ensures)

pub returns : goal.returns
returns c =
    let d = contents c.args.table.now c.args.arena.now c.args.counters in
    look_1 d c.args.id.0 (false→not_T (valid d) (sym c.if-is_valid.false ∙ c.is_valid.ensures))
