-- `driver_write::rows::line_length` meets its contract. Assumes nothing.
use Rattle.common.specs.Values.{triple_of}
use Rattle.dictionary_layout.specs.Values.{contents}
use Rattle.driver_write.specs.Lines.{terms_of}
use Rattle.driver_write.proofs.Measuring.{text_there, no_line, literal_subject, other_predicate, has_line, noted, noted_within}
use Rattle.driver_write.proofs.Writing.{known→}
use Rattle.driver_write.proofs.rows.line_length.Goals as goal
use Rattle.driver_write.proofs.rows.line_length.Goals.{then-s-eq0-via-then-s-eq0, then-s-eq0-via-else-s-eq0+then-p-eq0}
use Rattle.driver_write.proofs.rows.line_length.Goals.{then-s-eq0-via-else-s-eq0+else-p-eq0+then-o-eq0}
use Rattle.driver_write.proofs.rows.line_length.Goals.{then-kind_of-eq3-via-then-kind_of-eq3}
use Rattle.driver_write.proofs.rows.line_length.Goals.{then-kind_of-eq3-via-else-kind_of-eq3+then-kind_of-ne1}

pub bounds-lengths-t : goal.bounds-lengths-t
bounds-lengths-t c =
    let ids = known→ {x = triple_of c.args.t} c.requires.1 in
    noted_within c.requires.0 c.args.t.s.0 ids.0

pub bounds-lengths-t-2 : goal.bounds-lengths-t-2
bounds-lengths-t-2 c =
    let ids = known→ {x = triple_of c.args.t} c.requires.1 in
    noted_within c.requires.0 c.args.t.p.0 ids.1

pub bounds-lengths-t-3 : goal.bounds-lengths-t-3
bounds-lengths-t-3 c =
    let ids = known→ {x = triple_of c.args.t} c.requires.1 in
    noted_within c.requires.0 c.args.t.o.0 ids.2

pub returns-then-s-eq0 : goal.returns-then-s-eq0
returns-then-s-eq0 c =
    let ids = known→ {x = triple_of c.args.t} c.requires.1 in
    let d = contents c.args.table.now c.args.arena.now c.args.counters in
    let t = terms_of d (triple_of c.args.t) in
    let s = noted c.requires.0 c.args.t.s.0 ids.0 in
    let p = noted c.requires.0 c.args.t.p.0 ids.1 in
    let o = noted c.requires.0 c.args.t.o.0 ids.2 in
    elim c.then-s-eq0.branch [
      | then-s-eq0-via-then-s-eq0 w ↦ no_line t (λ l. text_there t.s l.s_is s w.if-s-eq0.true)
      | then-s-eq0-via-else-s-eq0+then-p-eq0 w ↦ no_line t (λ l. text_there t.p l.p_is p w.if-p-eq0.true)
      | then-s-eq0-via-else-s-eq0+else-p-eq0+then-o-eq0 w ↦ no_line t (λ l. text_there t.o l.o_is o w.if-o-eq0.true)
    ]

pub returns-then-kind_of-eq3 : goal.returns-then-kind_of-eq3
returns-then-kind_of-eq3 c =
    let d = contents c.args.table.now c.args.arena.now c.args.counters in
    let t = terms_of d (triple_of c.args.t) in
    elim c.then-kind_of-eq3.branch [
      | then-kind_of-eq3-via-then-kind_of-eq3 w ↦ literal_subject t c.kind_of.ensures w.if-kind_of-eq3.true
      | then-kind_of-eq3-via-else-kind_of-eq3+then-kind_of-ne1 w
          ↦ other_predicate t w.kind_of-else-kind_of-eq3.ensures w.if-kind_of-ne1.true
    ]

pub returns : goal.returns
returns c =
    let ids = known→ {x = triple_of c.args.t} c.requires.1 in
    let d = contents c.args.table.now c.args.arena.now c.args.counters in
    let t = terms_of d (triple_of c.args.t) in
    let s = noted c.requires.0 c.args.t.s.0 ids.0 in
    let p = noted c.requires.0 c.args.t.p.0 ids.1 in
    let o = noted c.requires.0 c.args.t.o.0 ids.2 in
    has_line t s p o c.kind_of.ensures c.kind_of-else-kind_of-eq3.ensures c.if-s-eq0.false c.if-p-eq0.false c.if-o-eq0.false
    c.if-kind_of-eq3.false c.if-kind_of-ne1.false
