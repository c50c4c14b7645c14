-- `put_names` meets its contract. Assumes nothing.
use Rattle.std.proofs.Common.{◌≡◌, ◌-◌, ◌+◌, ap, ◌∙◌, arith, rules}
use Rattle.dictionary_layout.specs.Values.{contents}
use Rattle.dictionary_index.specs.Values.{put_lent}
use Rattle.edge_decimal.proofs.Writing.{wrote_front}
use Rattle.edge_closer_run.specs.Program.{named}
use Rattle.edge_closer_run.proofs.Names.{left_contents, no_names, next_name}
use Rattle.edge_closer_run.proofs.put_names.Goals as goal
use Rattle.edge_closer_run.proofs.put_names.Goals.{After-put}

-- the dictionary after one name more
put : (c : After-put) → contents c.put.new.table c.put.new.arena c.put.new.counters
    ≡ named c.loop-n.n (contents c.args.table.now c.args.arena.now c.args.counters)
put c =
    let p = c.put in
    let l = c.loop-n in
    let z = c.args in
    left_contents p.result p.new.table p.new.arena p.new.counters
    ∙ next_name (l.n - 1) l.n (contents z.table.now z.arena.now z.counters) (contents l.table l.arena l.left) _
    (put_lent p.result p.new.table p.new.arena p.new.counters) (omega arith) l.invariant.4 (wrote_front c.print_name-end.ensures) p.ensures

pub loop-n-init : goal.loop-n-init
loop-n-init c = (search rules, search rules, search rules, search rules, no_names _)

pub loop-n-preserved : goal.loop-n-preserved
loop-n-preserved c =
    let e : c.loop-n.n + 1 - 1 ≡ c.loop-n.n = omega arith in
    (omega arith, search rules, search rules, search rules, rw e (put (goal.at.loop-n-preserved c).After-put))

pub returns-2 : goal.returns-2
returns-2 c =
    let z = c.args in
    put (goal.at.returns-2 c).After-put ∙ ap (λ k. named k (contents z.table.now z.arena.now z.counters)) (omega arith)
