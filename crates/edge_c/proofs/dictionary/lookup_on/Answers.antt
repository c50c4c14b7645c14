-- `edge_c::dictionary::lookup_on` meets its contract. Assumes nothing.
use mathlib.Core.Path.{sym, ◌∙◌}
use Rattle.dictionary_layout.specs.Dictionary.{valid}
use Rattle.dictionary_layout.specs.Values.{contents}
use Rattle.dictionary_layout.proofs.Choice.{true→T, false→not_T}
use Rattle.edge_c.proofs.Forwarding.{read_as}
use Rattle.edge_c.proofs.Places.{place_broken, place_alike}
use Rattle.edge_c.proofs.dictionary.lookup_on.Goals as goal

pub place_of-requires : goal.place_of-requires
place_of-requires c =
    true→T (valid (contents c.read_numbers.new.numbers c.args.arena.now c.args.counters)) (sym c.if-is_valid.true ∙ c.is_valid.ensures)

pub returns-then-is_valid : goal.returns-then-is_valid
returns-then-is_valid c =
    place_alike (contents c.args.table.now c.args.arena.now c.args.counters)
    (let p = c.read_numbers in read_as c.requires p.auto.numbers p.ensures) c.args.id c.place_of.ensures

pub returns : goal.returns
returns c =
    let passed = contents c.read_numbers.new.numbers c.args.arena.now c.args.counters in
    let i = c.args.id in
    let invalid = false→not_T (valid passed) (sym c.if-is_valid.false ∙ c.is_valid.ensures) in
    place_alike (contents c.args.table.now c.args.arena.now c.args.counters)
    (let p = c.read_numbers in read_as c.requires p.auto.numbers p.ensures) i (place_broken passed i invalid)
