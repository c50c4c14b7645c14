-- `literal::put_part` meets its contract. Assumes nothing.
use Rattle.ntriples_text.proofs.Stores.{copied}
use Rattle.ntriples_text.proofs.literal.put_part.Goals as goal

pub returns : goal.returns
returns c =
    copied c.args.bytes.now c.requires c.copy_at.ensures
