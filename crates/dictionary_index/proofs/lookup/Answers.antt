-- `dictionary_index::lookup` meets its contract. Assumes nothing.
use Rattle.dictionary_index.proofs.Looking.{looked_up}
use Rattle.dictionary_index.proofs.lookup.Goals as goal

pub returns : goal.returns
returns c =
    looked_up c.find_part-place.ensures c.part.ensures.result_after c.part.ensures.ref_ptr_value
