-- `dictionary_hash::find_entry` meets its contract. Assumes nothing.
use Rattle.dictionary_hash.proofs.Hashing.{seek_start, seek_fits, seek_less, seek_more, seek_hit}
use Rattle.dictionary_hash.proofs.find_entry.Goals as goal

pub loop-cur-init : goal.loop-cur-init
loop-cur-init c =
    seek_start c.requires

pub names-requires : goal.names-requires
names-requires c =
    seek_fits c.requires c.loop-cur.invariant c.loop-cur-test.true

pub returns-then-names : goal.returns-then-names
returns-then-names c =
    seek_hit c.requires c.loop-cur.invariant c.loop-cur-test.true c.names.ensures c.if-names.true

pub loop-cur-smaller : goal.loop-cur-smaller
loop-cur-smaller c =
    seek_less c.requires c.loop-cur.invariant c.loop-cur-test.true

pub loop-cur-preserved : goal.loop-cur-preserved
loop-cur-preserved c =
    seek_more c.requires c.loop-cur.invariant c.loop-cur-test.true c.names.ensures
    c.if-names.false
