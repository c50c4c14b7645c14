-- `dictionary_entries::initial::enter_names` meets its contract. Assumes nothing.
use Rattle.dictionary_entries.proofs.Words.{entering_next, entering_more}
use Rattle.dictionary_entries.proofs.initial.enter_names.Goals as goal

pub enter_named-c-requires : goal.enter_named-c-requires
enter_named-c-requires c =
    entering_next c.loop-id.invariant c.loop-id-test.true c.name_end-name.ensures

pub loop-id-preserved : goal.loop-id-preserved
loop-id-preserved c =
    entering_more c.loop-id.invariant c.loop-id-test.true c.name_end-name.ensures
    c.enter_named-c.ensures
