-- `dictionary_puts::index_terms` meets its contract. Assumes nothing.
use Rattle.dictionary_layout.specs.Values.{contents}
use Rattle.dictionary_puts.proofs.Indexing.{hashable}
use Rattle.dictionary_puts.proofs.index_terms.Goals as goal

pub hash_entries-requires : goal.hash_entries-requires
hash_entries-requires c =
    hashable (contents c.args.table.now c.args.arena.now c.args.counters) c.requires.0 c.requires.1
