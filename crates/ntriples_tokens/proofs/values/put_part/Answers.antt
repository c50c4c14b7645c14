-- `values::put_part` meets its contract. Assumes nothing.
use Rattle.ntriples.specs.Utf8.{encode}
use Rattle.ntriples_tokens.specs.Promises.{part}
use Rattle.ntriples_tokens.proofs.Writing.{wrote_none, putting_room, putting_step}
use Rattle.ntriples_tokens.proofs.values.put_part.Goals as goal

pub loop-c-init : goal.loop-c-init
unfolding encode
loop-c-init c = wrote_none c.args.out.now c.args.used

pub put_scalar-n-requires : goal.put_scalar-n-requires
put_scalar-n-requires c =
    let pre = c.requires in
    putting_room c.args.end c.loop-c.c-index pre.0 pre.2 c.loop-c.invariant c.loop-c-test.true

pub loop-c-preserved : goal.loop-c-preserved
loop-c-preserved c =
    let a = c.args in
    putting_step (part a.chars.now a.at a.end) c.loop-c.c-index c.loop-c.invariant c.loop-c-test.true c.put_scalar-n.ensures
