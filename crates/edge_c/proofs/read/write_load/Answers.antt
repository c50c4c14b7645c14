-- `edge_c::read::write_load` meets its contract. Assumes nothing.
use Rattle.edge_c.proofs.Files.{loads_1, loads_2, load_kept, load_changed, front_kept, front_written}
use Rattle.edge_c.proofs.read.write_load.Goals as goal

pub returns-then-answer-eq1 : goal.returns-then-answer-eq1
returns-then-answer-eq1 c =
    front_kept c.args.answer c.args.load.now c.args.numbers.now
    (load_kept c.args.answer 1 loads_1 c.if-answer-eq1.true)

pub returns-then-answer-eq2 : goal.returns-then-answer-eq2
returns-then-answer-eq2 c =
    front_kept c.args.answer c.args.load.now c.args.numbers.now
    (load_kept c.args.answer 2 loads_2 c.if-answer-eq2.true)

pub write_front-requires : goal.write_front-requires
write_front-requires c =
    c.requires (load_changed c.args.answer c.if-answer-eq1.false c.if-answer-eq2.false)

pub returns : goal.returns
returns c =
    front_written c.args.answer c.args.load.now c.args.numbers.now
    (load_changed c.args.answer c.if-answer-eq1.false c.if-answer-eq2.false) c.write_front.ensures
