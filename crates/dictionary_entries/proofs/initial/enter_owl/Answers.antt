-- `dictionary_entries::initial::enter_owl` meets its contract. Assumes nothing.
use mathlib.Core.Path.{refl}
use Rattle.dictionary_layout.specs.Terms.{start_terms}
use Rattle.dictionary_entries.specs.Starting.{word, behind, listed}
use Rattle.dictionary_entries.proofs.initial.enter_owl.Goals as goal

pub slice_bounds-enter_names-end-3 : goal.slice_bounds-enter_names-end-3
slice_bounds-enter_names-end-3 c = refl

pub enter_names-requires : goal.enter_names-requires
unfolding start_terms listed word behind
enter_names-requires c =
    (c.requires, tt)

pub shape_of-table : goal.shape_of-table
shape_of-table c =
    c.enter_names.auto.table

pub shape_of-arena : goal.shape_of-arena
shape_of-arena c =
    c.enter_names.auto.arena

pub returns : goal.returns
returns c =
    c.enter_names.ensures
