-- The worked cases hold of the definitions. Assumes nothing.
use Rattle.meaning.proofs.Cases.{starred}
use Rattle.dictionary_containers.proofs.Cases.{starred_names}
use Rattle.driver_calls.specs.Starred.{AllStarred}

pub all_starred : AllStarred
all_starred = (starred, starred_names)
