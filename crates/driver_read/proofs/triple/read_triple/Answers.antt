-- `triple::read_triple` meets its contract. Assumes nothing.
use native.Mathlib.Omega.{arith}
use Rattle.dictionary_layout.specs.Values.{contents}
use Rattle.dictionary_layout.proofs.Choice.{true→T, false→not_T}
use Rattle.ntriples.specs.Reading.{all_short}
use Rattle.ntriples_lines.specs.Promises.{terms_at}
use Rattle.driver_read.proofs.Loads.{added_few}
use Rattle.driver_read.proofs.Outcomes.{answered, refuses, says_long, comes_full, comes_out, comes_in}
use Rattle.driver_read.proofs.triple.read_triple.Goals as goal

pub returns-then-not-all_short : goal.returns-then-not-all_short
returns-then-not-all_short c =
    answered c.read_next.ensures (refuses 11 c.requires.0 (omega arith)
    (says_long (contents c.args.table.now c.args.arena.now c.args.next.counters) c.args.load.now c.args.next.count
    (terms_at c.args.t c.args.out.now) (false→not_T (all_short (terms_at c.args.t c.args.out.now))
    c.if-not-all_short.ensures)))

pub returns-in_default : goal.returns-in_default
returns-in_default c =
    let t = terms_at c.args.t c.args.out.now in
    answered c.read_next-in_default.ensures
    (comes_full (contents c.args.table.now c.args.arena.now c.args.next.counters) c.args.load.now c.args.next.count t
    (true→T (all_short t) c.if-not-all_short.ensures) c.put_terms-ids.ensures c.requires.0.rows c.in_default.is)

pub overflow_add-next : goal.overflow_add-next
overflow_add-next c = omega (arith, added_few c.requires.0.rows c.if-add_triple.ensures)

pub returns-then-add_triple : goal.returns-then-add_triple
returns-then-add_triple c =
    let t = terms_at c.args.t c.args.out.now in
    answered c.read_next-then-add_triple.ensures
    (comes_in (contents c.args.table.now c.args.arena.now c.args.next.counters) c.args.load.now c.args.next.count t
    (true→T (all_short t) c.if-not-all_short.ensures) c.put_terms-ids.ensures c.in-Some.is c.if-add_triple.ensures)

pub returns : goal.returns
returns c =
    let t = terms_at c.args.t c.args.out.now in
    answered c.read_next-2.ensures
    (comes_out (contents c.args.table.now c.args.arena.now c.args.next.counters) c.args.load.now c.args.next.count t
    (true→T (all_short t) c.if-not-all_short.ensures) c.put_terms-ids.ensures c.in-Some.is c.requires.0.rows c.if-add_triple.ensures)
