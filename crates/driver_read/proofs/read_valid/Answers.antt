-- `driver_read::read_valid` meets its contract. Assumes nothing.
use mathlib.Core.Path.{◌∙◌, ap, subst}
use borrow.Author.Rules.{rules}
use Rattle.dictionary_layout.specs.Values.{contents}
use Rattle.ntriples.specs.Reading.{lines}
use Rattle.driver_read.specs.declared.values.ReadNext.{ReadNext}
use Rattle.driver_read.specs.Lines.{lines_come, ComesTo}
use Rattle.driver_read.specs.Values.{read_left}
use Rattle.driver_read.proofs.Finish.{before_lines, read_accepts, retractable, read_refuses}
use Rattle.driver_read.proofs.read_valid.Goals as goal

pub read_lines-next-requires : goal.read_lines-next-requires
read_lines-next-requires c =
    let b = before_lines c.args.load.now c.index_terms.ensures c.clear_from.ensures
    c.read_next-first.ensures in
    (b.0, record { characters = search rules; written = search rules }, b.1)

pub shape_of-load-then-next-eq0 : goal.shape_of-load-then-next-eq0
shape_of-load-then-next-eq0 c =
    c.read_lines-next.auto.load ∙ c.clear_from.auto.buf

pub returns-then-next-eq0 : goal.returns-then-next-eq0
returns-then-next-eq0 c =
    read_accepts (contents c.args.table.now c.args.arena.now c.args.counters) c.args.load.now c.args.file.now c.requires.0
    c.requires.1 c.clear_from.ensures (let l = c.read_lines-next.new in
    subst (λ (f : ReadNext). let d = contents c.args.table.now c.args.arena.now f.counters in
    ComesTo (lines_come d c.clear_from.new.buf f.count (lines c.args.file.now)) d l.table l.arena l.hash l.load
    c.read_lines-next.result) c.read_next-first.ensures c.read_lines-next.ensures)
    (c.read_lines-next.auto.load ∙ c.clear_from.auto.buf) c.if-next-eq0.true

pub retract-left-requires : goal.retract-left-requires
retract-left-requires c =
    retractable (contents c.args.table.now c.args.arena.now c.args.counters) c.args.load.now c.args.file.now c.requires.0
    c.requires.1 c.clear_from.ensures (let l = c.read_lines-next.new in
    subst (λ (f : ReadNext). let d = contents c.args.table.now c.args.arena.now f.counters in
    ComesTo (lines_come d c.clear_from.new.buf f.count (lines c.args.file.now)) d l.table l.arena l.hash l.load
    c.read_lines-next.result) c.read_next-first.ensures c.read_lines-next.ensures)

pub shape_of-load : goal.shape_of-load
shape_of-load c =
    c.clear_from-2.auto.buf ∙ (c.read_lines-next.auto.load ∙ c.clear_from.auto.buf)

pub returns : goal.returns
returns c =
    ap (λ (x : ReadNext). read_left x c.retract-left.new.table c.retract-left.new.arena c.clear_from-2.new.buf) c.read_next.ensures
    ∙ read_refuses (contents c.args.table.now c.args.arena.now c.args.counters) c.args.load.now c.args.file.now c.requires.0
    c.requires.1 c.clear_from.ensures (let l = c.read_lines-next.new in
    subst (λ (f : ReadNext). let d = contents c.args.table.now c.args.arena.now f.counters in
    ComesTo (lines_come d c.clear_from.new.buf f.count (lines c.args.file.now)) d l.table l.arena l.hash l.load
    c.read_lines-next.result) c.read_next-first.ensures c.read_lines-next.ensures)
    (c.read_lines-next.auto.load ∙ c.clear_from.auto.buf) c.if-next-eq0.false c.retract-left.ensures c.clear_from-2.ensures
