-- `dictionary_containers::is_container` meets its contract. Assumes nothing.
use mathlib.Core.Path.{◌∙◌}
use Rattle.dictionary_layout.specs.Values.{contents}
use Rattle.dictionary_containers.proofs.ContainerTerms.{container_located}
use Rattle.dictionary_containers.proofs.is_container.Goals as goal

pub returns : goal.returns
returns c =
    let d = contents c.args.table.now c.args.arena.now c.args.counters in
    c.is_container_term.ensures
    ∙ container_located d c.requires c.args.id.0 c.locate-place.result c.locate-place.ensures
