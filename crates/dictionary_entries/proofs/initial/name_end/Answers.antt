-- `dictionary_entries::initial::name_end` meets its contract. Assumes nothing.
use Rattle.dictionary_entries.proofs.Words.{name_more, name_stop, name_last}
use Rattle.dictionary_entries.proofs.initial.name_end.Goals as goal

pub returns-then-names-end-eq32 : goal.returns-then-names-end-eq32
returns-then-names-end-eq32 c =
    name_stop c.loop-end.invariant c.loop-end-test.true c.if-names-end-eq32.true

pub loop-end-preserved : goal.loop-end-preserved
loop-end-preserved c =
    name_more c.loop-end.invariant c.loop-end-test.true c.if-names-end-eq32.false

pub returns : goal.returns
returns c = name_last c.loop-end.invariant c.loop-end-test.false
