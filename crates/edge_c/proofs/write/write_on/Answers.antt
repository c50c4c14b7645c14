-- `edge_c::write::write_on` meets its contract. Assumes nothing.
use mathlib.Core.Path.{◌∙◌}
use Rattle.dictionary_layout.specs.Values.{contents}
use Rattle.edge_c.proofs.Forwarding.{by_length, read_as}
use Rattle.edge_c.proofs.Pages.{write_alike}
use Rattle.edge_c.proofs.write.write_on.Goals as goal

pub read_rows-requires : goal.read_rows-requires
read_rows-requires c =
    c.requires.store_numbers

pub returns : goal.returns
returns c =
    let args = c.args in
    c.write.ensures
    ∙ write_alike (c.args.store.now) (c.read_rows.new.s) (by_length (c.read_rows.auto.s ∙ c.requires.store_numbers)) args.triples
    c.read_rows.ensures args.page.now (contents c.args.table.now c.args.arena.now c.args.counters)
    (let p = c.read_numbers in read_as c.requires.table_numbers p.auto.numbers p.ensures)
