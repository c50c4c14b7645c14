-- `engine_checks::append` meets its contract. Assumes nothing.
use Rattle.std.proofs.Common.{refl, arith}
use Rattle.engine_checks.specs.Pairs.{finding_of}
use Rattle.engine_checks.proofs.Appending.{count_few, appended_one}
use Rattle.engine_checks.proofs.append.Goals as goal

pub raise-counts-requires : goal.raise-counts-requires
raise-counts-requires c =
    (c.requires.1, c.requires.2, count_few c.requires.0)

pub returns : goal.returns
returns c =
    appended_one (finding_of c.args.x) c.requires.0 c.requires.1 c.requires.2
    (omega (arith, c.if-findings-n.false)) refl c.raise-counts.ensures c.put_finding.ensures
