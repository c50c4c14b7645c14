-- `dictionary_index::put_by_value` meets its contract. Assumes nothing.
use mathlib.Core.Path.{sym, ◌∙◌}
use Rattle.dictionary_layout.specs.Terms.{term}
use Rattle.dictionary_layout.specs.Dictionary.{valid}
use Rattle.dictionary_layout.specs.Values.{contents}
use Rattle.dictionary_layout.proofs.Choice.{true→T, false→not_T}
use Rattle.dictionary_layout.proofs.Reachable.{put_broken}
use Rattle.dictionary_index.proofs.put_by_value.Goals as goal

pub put_valid-requires : goal.put_valid-requires
put_valid-requires c =
    let d = contents c.args.table.now c.args.arena.now c.args.counters in
    true→T (valid d) (sym c.if-is_valid.true ∙ c.is_valid.ensures)

pub returns : goal.returns
returns c =
    let d = contents c.args.table.now c.args.arena.now c.args.counters in
    sym (put_broken d (term c.args.kind c.args.bytes.now)
    (false→not_T (valid d) (sym c.if-is_valid.false ∙ c.is_valid.ensures)))
