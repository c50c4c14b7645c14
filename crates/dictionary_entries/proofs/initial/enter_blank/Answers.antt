-- `dictionary_entries::initial::enter_blank` meets its contract. Assumes nothing.
use Rattle.dictionary_entries.proofs.Starting.{blank_done}
use Rattle.dictionary_entries.proofs.initial.enter_blank.Goals as goal

pub returns : goal.returns
returns c =
    blank_done c.requires c.write_entry.auto.table c.copy_at.auto.dst
    c.write_entry.ensures c.copy_at.ensures
