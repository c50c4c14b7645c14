-- THE WORKED CASES of REFERENCE 11.1 and 11.2 as one table: the models, by what a run gives and by their closures, and the local names
-- of container properties. proofs/Starred.antt proves it by one theorem. Assumes nothing.
use Rattle.meaning.specs.Cases as models
use Rattle.dictionary_containers.specs.Cases as names

abbrev pub AllStarred : Type 0
AllStarred = models.AllHold models.cases × names.AllHold names.names
