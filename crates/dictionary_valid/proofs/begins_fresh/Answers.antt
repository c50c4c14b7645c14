-- `dictionary_valid::begins_fresh` meets its contract. Assumes nothing.
use mathlib.Core.Path.{sym, ◌∙◌}
use native.Mathlib.Omega.{arith}
use lib.ListN.{take}
use lib.Seq.{length-take-le}
use Rattle.dictionary_layout.specs.Terms.{start_bytes}
use Rattle.dictionary_layout.proofs.Equality.{rows_equal}
use Rattle.dictionary_valid.proofs.Beginning.{first_entries, begins_other_entries, begins_by_bytes, fresh_room}
use Rattle.dictionary_valid.proofs.begins_fresh.Goals as goal

pub slice_bounds-eq-end : goal.slice_bounds-eq-end
slice_bounds-eq-end c = omega (arith, fresh_room c.requires)

pub slice_bounds-eq-end-2 : goal.slice_bounds-eq-end-2
slice_bounds-eq-end-2 c = omega (arith, fresh_room c.requires)

pub slice_bounds-eq-end-then-eq : goal.slice_bounds-eq-end-then-eq
slice_bounds-eq-end-then-eq c = sym (length-take-le start_bytes c.args.arena.now (fresh_room c.requires).1)

pub returns-then-eq : goal.returns-then-eq
returns-then-eq c =
    let p = rows_equal (first_entries c.args.table.now) (first_entries c.args.fresh.now) in
    let q = rows_equal (take start_bytes c.args.arena.now) c.args.iris.now in
    begins_by_bytes c.requires (sym c.if-eq.true ∙ (c.eq.ensures ∙ p)) (c.eq-then-eq.ensures ∙ q)

pub returns-else-eq : goal.returns-else-eq
returns-else-eq c =
    begins_other_entries c.requires (c.eq.ensures ∙ rows_equal (first_entries c.args.table.now) (first_entries c.args.fresh.now))
    c.if-eq.false
