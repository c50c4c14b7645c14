-- `edge_c::write::read_rows` meets its contract. Assumes nothing.
use mathlib.Core.Path.{sym, ap, ◌∙◌}
use Prim.Native.Nat.{ℕ, ◌*◌}
use native.Mathlib.Omega.{arith}
use lib.ListN.{drop}
use lib.Seq.{length-take-le}
use Rattle.common.specs.Sizes.{store_width}
use Rattle.edge_c.proofs.Pages.{rows_within, front_numbers}
use Rattle.edge_c.proofs.write.read_rows.Goals as goal

pub returns-then-s-n : goal.returns-then-s-n
returns-then-s-n c = λ h e. absurd (omega (arith, c.if-s-n.true))

pub slice_bounds-read_numbers-end : goal.slice_bounds-read_numbers-end
slice_bounds-read_numbers-end c = sym (let args = c.args in
    length-take-le (4 * (store_width * c.args.triples)) args.store.now
    (rows_within args.store.now args.s.now args.triples c.requires c.if-s-n.false))

pub slice_bounds-read_numbers-end-2 : goal.slice_bounds-read_numbers-end-2
slice_bounds-read_numbers-end-2 c = c.if-s-n.false

pub slice_bounds-read_numbers-end-3 : goal.slice_bounds-read_numbers-end-3
slice_bounds-read_numbers-end-3 c = sym (length-take-le (store_width * c.args.triples) c.args.s.now c.if-s-n.false)

pub returns : goal.returns
returns c =
    let n = store_width * c.args.triples in
    let numbers_count = length-take-le n c.args.s.now c.if-s-n.false in
    let p = c.read_numbers in
    λ h e. front_numbers n c.args.store.now (drop n c.args.s.now)
    (p.auto.numbers ∙ numbers_count) (p.ensures ((let args = c.args in
    length-take-le (4 * n) args.store.now
    (rows_within args.store.now args.s.now args.triples c.requires c.if-s-n.false)) ∙ ap (λ (m : ℕ). 4 * m) (sym numbers_count)))
