-- `edge_c::dictionary::put_in` meets its contract. Assumes nothing.
use Rattle.edge_c.proofs.Forwarding.{table_enough, prefix, prefix_forwarded}
use Rattle.edge_c.proofs.dictionary.put_in.Goals as goal

pub slice_bounds-put_on-end : goal.slice_bounds-put_on-end
slice_bounds-put_on-end c =
    let enough = table_enough c.args.numbers.now c.requires in
    (prefix enough c.args.table.now c.how_many-n.ensures).fits

pub slice_bounds-put_on-end-2 : goal.slice_bounds-put_on-end-2
slice_bounds-put_on-end-2 c =
    let enough = table_enough c.args.numbers.now c.requires in
    (prefix enough c.args.table.now c.how_many-n.ensures).count

pub put_on-requires : goal.put_on-requires
put_on-requires c =
    let enough = table_enough c.args.numbers.now c.requires in
    prefix_forwarded enough c.args.table.now c.how_many-n.ensures

pub returns : goal.returns
returns c =
    c.put_on.ensures
