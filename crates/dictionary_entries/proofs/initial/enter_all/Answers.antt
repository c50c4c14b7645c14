-- `dictionary_entries::initial::enter_all` meets its contract. Assumes nothing.
use mathlib.Core.Path.{◌∙◌}
use Rattle.dictionary_entries.proofs.Starting.{all_entered}
use Rattle.dictionary_entries.proofs.initial.enter_all.Goals as goal

pub shape_of-table : goal.shape_of-table
shape_of-table c =
    c.enter_owl.auto.table
    ∙ (c.enter_rdfs-c.auto.table ∙ (c.enter_rdf-c.auto.table ∙ c.enter_blank-c.auto.table))

pub shape_of-arena : goal.shape_of-arena
shape_of-arena c =
    c.enter_owl.auto.arena
    ∙ (c.enter_rdfs-c.auto.arena
    ∙ (c.enter_rdf-c.auto.arena ∙ c.enter_blank-c.auto.arena))

pub returns : goal.returns
returns c =
    let enter-owl = c.enter_owl in
    all_entered enter-owl.ensures
    (enter-owl.auto.table
    ∙ (c.enter_rdfs-c.auto.table ∙ (c.enter_rdf-c.auto.table ∙ c.enter_blank-c.auto.table)))
    (enter-owl.auto.arena
    ∙ (c.enter_rdfs-c.auto.arena
    ∙ (c.enter_rdf-c.auto.arena ∙ c.enter_blank-c.auto.arena)))
