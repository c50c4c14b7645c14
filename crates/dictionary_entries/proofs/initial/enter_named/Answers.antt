-- `dictionary_entries::initial::enter_named` meets its contract. Assumes nothing.
use mathlib.Core.Path.{sym, subst}
use Prim.Native.Nat.{◌+◌}
use native.Mathlib.Omega.{arith}
use lib.ListN.{length, replicate, length-append}
use lib.Seq.{length-take-le}
use Rattle.dictionary_entries.specs.Starting.{Next}
use Rattle.dictionary_layout.specs.Values.{contents}
use Rattle.dictionary_entries.proofs.Starting.{next_short, joined_by}
use Rattle.dictionary_entries.proofs.initial.enter_named.Goals as goal

pub copy_at-requires : goal.copy_at-requires
copy_at-requires c =
    let q = c.args.name.now in
    let p = c.args.namespace.now in
    let h = next_short c.requires in
    let l = length-append p q in
    omega (arith, h, l)

pub copy_at-requires-2 : goal.copy_at-requires-2
copy_at-requires-2 c =
    let q = c.args.name.now in
    let p = c.args.namespace.now in
    let h = next_short c.requires in
    let l = length-append p q in
    omega (arith, h, l, c.copy_at.auto.dst)

pub slice_bounds-iri-end : goal.slice_bounds-iri-end
slice_bounds-iri-end c =
    let q = c.args.name.now in
    let p = c.args.namespace.now in
    let h = next_short c.requires in
    let l = length-append p q in
    omega (arith, h, l, c.copy_at.auto.dst, c.copy_at-2.auto.dst)

pub slice_bounds-enter-end : goal.slice_bounds-enter-end
slice_bounds-enter-end c =
    let q = c.args.name.now in
    let p = c.args.namespace.now in
    let h = next_short c.requires in
    let l = length-append p q in
    sym (length-take-le (length p + length q) c.copy_at-2.new.dst
    (omega (arith, h, l, c.copy_at.auto.dst, c.copy_at-2.auto.dst)))

pub enter-requires : goal.enter-requires
enter-requires c =
    let q = c.args.name.now in
    let p = c.args.namespace.now in
    let h = next_short c.requires in
    let l = length-append p q in
    subst (Next (contents c.args.table.now c.args.arena.now c.args.counters) c.args.id.0)
    (sym
    (joined_by (replicate 64 0) p q (omega (arith, h, l)) c.copy_at.ensures c.copy_at-2.ensures))
    c.requires
