-- `edge_c::dictionary::start_in` meets its contract. Assumes nothing.
use Rattle.edge_c.proofs.Forwarding.{table_enough, prefix, prefix_forwarded}
use Rattle.edge_c.proofs.dictionary.start_in.Goals as goal

pub slice_bounds-start_on-end : goal.slice_bounds-start_on-end
slice_bounds-start_on-end c =
    let enough = table_enough c.args.numbers.now c.requires in
    (prefix enough c.args.table.now c.how_many-n.ensures).fits

pub slice_bounds-start_on-end-2 : goal.slice_bounds-start_on-end-2
slice_bounds-start_on-end-2 c =
    let enough = table_enough c.args.numbers.now c.requires in
    (prefix enough c.args.table.now c.how_many-n.ensures).count

pub start_on-requires : goal.start_on-requires
start_on-requires c =
    let enough = table_enough c.args.numbers.now c.requires in
    prefix_forwarded enough c.args.table.now c.how_many-n.ensures

pub returns : goal.returns
returns c =
    c.start_on.ensures
