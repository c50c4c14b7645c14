-- `dictionary_entries::append::append` meets its contract. Assumes nothing.
use Rattle.dictionary_layout.specs.Terms.{term}
use Rattle.dictionary_layout.specs.Values.{contents}
use Rattle.dictionary_entries.proofs.Appending.{append_end}
use Rattle.dictionary_entries.proofs.append.append.Goals as goal

pub returns : goal.returns
returns c =
    let d = contents c.args.table.now c.args.arena.now c.args.counters in
    let t = term c.args.kind c.args.bytes.now in
    append_end d t c.args.chain c.write_entry.new.table c.copy_at.new.dst c.requires
    c.write_entry.ensures c.copy_at.ensures
