-- `dictionary_valid::ends_so` meets its contract. Assumes nothing.
use mathlib.Core.Path.{sym, ◌∙◌}
use native.Mathlib.Omega.{arith}
use Rattle.std.proofs.Common.{◌≤◌}
use lib.Dec.{eqb, eqb→eq}
use lib.ListN.{length, take}
use lib.Seq.{length-take-le}
use Rattle.common.specs.Sizes.{heads_width}
use Rattle.dictionary_layout.specs.Layout.{entry_at}
use Rattle.dictionary_layout.proofs.Choice.{true_false, true→T}
use Rattle.dictionary_layout.proofs.Equality.{rows_equal, all_zero}
use Rattle.dictionary_valid.proofs.Validity.{rest_of, ends_other_used, ends_other_heads, ends_more_entries, ends_by_bytes}
use Rattle.dictionary_valid.proofs.ends_so.Goals.{then-eq, else-eq, then-used-counters, else-used-counters}
use Rattle.dictionary_valid.proofs.Scanning.{scanned_room}
use Rattle.dictionary_valid.proofs.ends_so.Goals as goal

pub slice_bounds-eq-end : goal.slice_bounds-eq-end
slice_bounds-eq-end c =
    let room : heads_width ≤ length c.args.table.now = omega (arith, (scanned_room c.requires.0).0) in
    sym (length-take-le heads_width c.args.table.now room)

pub slice_bounds-all_are-count : goal.slice_bounds-all_are-count
slice_bounds-all_are-count c = omega (arith, (scanned_room c.requires.0).0)

pub slice_bounds-all_are-start : goal.slice_bounds-all_are-start
slice_bounds-all_are-start c = omega (arith, (scanned_room c.requires.0).0)

pub slice_bounds-all_are-count-then-all_are : goal.slice_bounds-all_are-count-then-all_are
slice_bounds-all_are-count-then-all_are c = (scanned_room c.requires.0).1

pub slice_bounds-all_are-start-then-all_are : goal.slice_bounds-all_are-start-then-all_are
slice_bounds-all_are-start-then-all_are c = (scanned_room c.requires.0).1

pub returns-then-all_are : goal.returns-then-all_are
returns-then-all_are c =
    let t = c.args.table.now in
    let a = c.args.arena.now in
    let h = c.args.heads.now in
    let n = c.args.counters.terms in
    let bytes = c.all_are-then-all_are.ensures ∙ all_zero (rest_of c.args.used a) in
    elim c.if-eq.branch [
      | then-eq w ↦
          let entries = sym c.if-all_are.true ∙ (w.value-is ∙ (w.all_are.ensures ∙ all_zero (rest_of (entry_at n) t))) in
          elim c.if-used-counters.branch [
            | then-used-counters u ↦
                ends_by_bytes c.requires.0 c.args.counters.used u.if-used-counters.true
                (sym w.if-eq.true ∙ (u.value-is ∙ (u.eq.ensures ∙ rows_equal (take heads_width t) (take heads_width h)))) entries bytes
            | else-used-counters u ↦
                let same = true→T (eqb c.args.used c.args.counters.used) (sym w.if-eq.true ∙ u.value-is) in
                absurd (u.if-used-counters.false (eqb→eq c.args.used c.args.counters.used same))
          ]
      | else-eq w ↦ true_false (sym c.if-all_are.true ∙ (w.value-is ∙ w.if-eq.false))
    ]

pub returns-else-all_are : goal.returns-else-all_are
returns-else-all_are c =
    let t = c.args.table.now in
    let h = c.args.heads.now in
    let n = c.args.counters.terms in
    let used = c.args.counters.used in
    elim c.if-eq.branch [
      | then-eq w ↦
          let entries = sym c.if-all_are.false ∙ (w.value-is ∙ (w.all_are.ensures ∙ all_zero (rest_of (entry_at n) t))) in
          c.if-all_are.false ∙ ends_more_entries c.requires.0 used entries
      | else-eq w ↦
          elim c.if-used-counters.branch [
            | then-used-counters u ↦
                let heads = sym w.if-eq.false ∙ (u.value-is ∙ (u.eq.ensures ∙ rows_equal (take heads_width t) (take heads_width h))) in
                c.if-all_are.false ∙ ends_other_heads c.requires.0 used heads
            | else-used-counters u ↦ c.if-all_are.false ∙ ends_other_used c.requires.0 used u.if-used-counters.false
          ]
    ]
