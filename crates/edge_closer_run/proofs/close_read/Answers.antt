-- `close_read` meets its contract: so many bytes decide as much as the whole input. Assumes nothing.
use mathlib.Core.Path.{◌≡◌}
use native.Mathlib.Omega.{arith}
use lib.ListN.{length}
use Rattle.edge_closer_text.specs.Sizes.{input_length}
use Rattle.edge_closer_run.proofs.Printing.{output_read}
use Rattle.edge_closer_run.proofs.close_read.Goals as goal

pub returns : goal.returns
returns c =
    let args = c.args in
    let long : length args.read.now ≡ input_length = omega arith in
    record {
      wrote = c.close_first.ensures;
      whole = λ text e. output_read args.read.now args.n text long e;
    }
