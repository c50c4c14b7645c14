-- `write_rows` meets its contract. Assumes nothing.
use mathlib.Core.Path.{sym, refl}
use Prim.Native.Nat.{ℕ}
use native.Mathlib.Omega.{arith}
use lib.ListN.{length-replicate}
use Rattle.common.specs.Sizes.{entry_limit, term_limit}
use Rattle.dictionary_layout.specs.Values.{contents}
use Rattle.driver_write.specs.Lines.{all_lines}
use Rattle.driver_write.proofs.Outcomes.{entries_few, page_small, text_fits, end_within, page_written}
use Rattle.driver_write.proofs.write_rows.Goals as goal

pub slice_bounds-term_lengths-end : goal.slice_bounds-term_lengths-end
slice_bounds-term_lengths-end c = sym (length-replicate {A = ℕ} entry_limit 0)

pub slice_bounds-term_lengths-end-2 : goal.slice_bounds-term_lengths-end-2
slice_bounds-term_lengths-end-2 c = sym (length-replicate {A = ℕ} term_limit 0)

pub term_lengths-requires : goal.term_lengths-requires
term_lengths-requires c =
    let v = c.requires.0 in
    record {
      unbroken = v;
      lengths = rw (length-replicate {A = ℕ} entry_limit 0)
          (entries_few (contents c.args.table.now c.args.arena.now c.args.counters) v);
      chars = rw (length-replicate {A = ℕ} term_limit 0) (omega arith);
    }

pub returns-then-page-all : goal.returns-then-page-all
returns-then-page-all c =
    page_small c.args.page.now (all_lines (contents c.args.table.now c.args.arena.now c.args.counters) c.args.store.now)
    c.measure-all.ensures c.if-page-all.true refl
    c.clear_bytes.ensures

pub put_lines-end-requires : goal.put_lines-end-requires
put_lines-end-requires c =
    record {
      lengths = record { unbroken = c.requires.0; measured = c.term_lengths.ensures };
      rows = c.requires.1;
      room = text_fits c.args.page.now (all_lines (contents c.args.table.now c.args.arena.now c.args.counters) c.args.store.now)
          c.measure-all.ensures c.if-page-all.false;
    }

pub slice_bounds-clear_bytes-count : goal.slice_bounds-clear_bytes-count
slice_bounds-clear_bytes-count c =
    end_within c.args.page.now (all_lines (contents c.args.table.now c.args.arena.now c.args.counters) c.args.store.now)
    c.measure-all.ensures c.if-page-all.false c.put_lines-end.ensures

pub slice_bounds-clear_bytes-start : goal.slice_bounds-clear_bytes-start
slice_bounds-clear_bytes-start c =
    end_within c.args.page.now (all_lines (contents c.args.table.now c.args.arena.now c.args.counters) c.args.store.now)
    c.measure-all.ensures c.if-page-all.false c.put_lines-end.ensures

pub returns : goal.returns
returns c =
    page_written c.args.page.now (all_lines (contents c.args.table.now c.args.arena.now c.args.counters) c.args.store.now)
    c.measure-all.ensures c.if-page-all.false c.put_lines-end.ensures
    c.clear_bytes-2.ensures
