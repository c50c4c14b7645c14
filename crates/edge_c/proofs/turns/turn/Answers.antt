-- `edge_c::turns::turn` meets its contract. Assumes nothing.
use Rattle.dictionary_layout.specs.Values.{contents}
use Rattle.driver_refusals.specs.Lent.{lent}
use Rattle.edge_c.proofs.Passes.{by_flag}
use Rattle.edge_c.proofs.turns.turn.Goals as goal

pub returns-then-passes : goal.returns-then-passes
returns-then-passes c =
    by_flag (contents c.args.t.now c.args.arena.now c.args.counters) (lent c.args.l.now c.args.s.now c.args.f.now c.args.w.now)
    c.if-passes.true c.pass.ensures

pub returns : goal.returns
returns c =
    by_flag (contents c.args.t.now c.args.arena.now c.args.counters) (lent c.args.l.now c.args.s.now c.args.f.now c.args.w.now)
    c.if-passes.false c.open.ensures
