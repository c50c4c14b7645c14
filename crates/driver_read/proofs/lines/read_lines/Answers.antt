-- `lines::read_lines` meets its contract. Assumes nothing.
use mathlib.Core.Path.{refl, ◌∙◌, ap, subst}
use native.Mathlib.Omega.{arith}
use Rattle.dictionary_layout.specs.Values.{contents}
use Rattle.ntriples.specs.Reading.{lines}
use Rattle.driver_read.specs.Lines.{lines_come}
use Rattle.driver_read.proofs.Ends.{left_all, left_none, left_next}
use Rattle.driver_read.proofs.Outcomes.{Reading, reading_start, reading_end, reading_refused, reading_more}
use Rattle.driver_read.proofs.lines.read_lines.Goals as goal

pub loop-at-init : goal.loop-at-init
loop-at-init c =
    let d = contents c.args.table.now c.args.arena.now c.args.first.counters in
    record {
      reading = reading_start c.requires.0 c.requires.2
          (ap (lines_come d c.args.load.now c.args.first.count) (left_all c.args.file.now));
      hash_long = refl;
      load_long = refl;
      chars_long = refl;
      out_long = refl;
    }

pub line_end-end-requires : goal.line_end-end-requires
line_end-end-requires c =
    c.loop-at-test.true

pub read_line-next-requires : goal.read_line-next-requires
read_line-next-requires c =
    let g = c.loop-at.invariant in (
      g.reading.between,
      record {
        characters = omega (arith, c.requires.1.characters, g.chars_long);
        written = omega (arith, c.requires.1.written, g.out_long);
      },
    )

pub returns-then-next-ne0 : goal.returns-then-next-ne0
returns-then-next-ne0 c =
    reading_refused (let l = c.loop-at in
    let file = c.args.file.now in
    let e = c.line_end-end.result in
    subst (Reading (lines_come (contents c.args.table.now c.args.arena.now c.args.first.counters) c.args.load.now c.args.first.count
    (lines file)) (contents c.args.table.now c.args.arena.now c.args.first.counters) l.table l.arena
    l.hash l.load l.next)
    (left_next file l.at e c.loop-at-test.true c.line_end-end.ensures) l.invariant.reading) c.read_line-next.ensures c.if-next-ne0.true

pub loop-at-preserved : goal.loop-at-preserved
loop-at-preserved c =
    let g = c.loop-at.invariant in
    record {
      reading = reading_more (let l = c.loop-at in
          let file = c.args.file.now in
          let e = c.line_end-end.result in
          subst (Reading (lines_come (contents c.args.table.now c.args.arena.now c.args.first.counters) c.args.load.now
          c.args.first.count (lines file)) (contents c.args.table.now c.args.arena.now c.args.first.counters) l.table l.arena
          l.hash l.load l.next)
          (left_next file l.at e c.loop-at-test.true c.line_end-end.ensures) l.invariant.reading) c.read_line-next.ensures
          c.if-next-ne0.false c.read_line-next.auto.load;
      hash_long = c.read_line-next.auto.hash ∙ g.hash_long;
      load_long = c.read_line-next.auto.load ∙ g.load_long;
      chars_long = c.read_line-next.auto.chars ∙ g.chars_long;
      out_long = c.read_line-next.auto.out ∙ g.out_long;
    }

pub returns : goal.returns
returns c =
    reading_end (subst (Reading _ _ _ _ _ _ _) (left_none c.args.file.now c.loop-at.at (λ h. omega (arith, c.loop-at-test.false)))
    c.loop-at.invariant.reading)
