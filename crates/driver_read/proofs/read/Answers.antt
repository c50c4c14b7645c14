-- `driver_read::read` meets its contract. Assumes nothing.
use mathlib.Core.Path.{◌∙◌, ap}
use Rattle.dictionary_layout.specs.Dictionary.{valid}
use Rattle.dictionary_layout.specs.Values.{contents}
use Rattle.dictionary_layout.proofs.Choice.{true→T, false→not_T}
use Rattle.driver_read.specs.declared.values.ReadNext.{ReadNext}
use Rattle.driver_read.specs.Values.{read_left}
use Rattle.driver_read.proofs.Finish.{read_1, read_2}
use Rattle.driver_read.proofs.read.Goals as goal

pub returns-then-not-is_valid : goal.returns-then-not-is_valid
returns-then-not-is_valid c =
    ap (λ (r : ReadNext). read_left r c.args.table.now c.args.arena.now c.args.load.now) c.read_next.ensures
    ∙ read_1 (contents c.args.table.now c.args.arena.now c.args.counters) c.args.load.now c.args.file.now
    (false→not_T (valid (contents c.args.table.now c.args.arena.now c.args.counters))
    c.if-not-is_valid.ensures)

pub returns-then-load-ne0 : goal.returns-then-load-ne0
returns-then-load-ne0 c =
    ap (λ (r : ReadNext). read_left r c.args.table.now c.args.arena.now c.args.load.now) c.read_next-then-load-ne0.ensures
    ∙ read_2 (contents c.args.table.now c.args.arena.now c.args.counters) c.args.load.now c.args.file.now
    (true→T (valid (contents c.args.table.now c.args.arena.now c.args.counters))
    c.if-not-is_valid.ensures) c.if-load-ne0.true

pub read_valid-requires : goal.read_valid-requires
read_valid-requires c = (
  true→T (valid (contents c.args.table.now c.args.arena.now c.args.counters))
      c.if-not-is_valid.ensures,
  c.if-load-ne0.false,
)
