-- `driver_load::close_load` meets its contract. Assumes nothing.
use mathlib.Core.Path.{refl}
use Prim.Native.Nat.{ℕ}
use lib.ListN.{length-replicate}
use Rattle.std.proofs.lemmas.Result.{err_from_is_err_and}
use Rattle.store_rows.specs.Layout.{roles_length}
use Rattle.driver_load.proofs.Loading.{no_rows, start_full, closes_load}
use Rattle.driver_load.proofs.Terming.{loadable, started, listable, load_lists, closable}
use Rattle.driver_load.proofs.close_load.Goals as goal

pub start_rows-requires : goal.start_rows-requires
start_rows-requires c =
    (no_rows c.requires.1.few c.requires.2, loadable c.requires.0 c.requires.1, c.requires.0.sound)

pub returns-in_err-n : goal.returns-in_err-n
returns-in_err-n c =
    let p = err_from_is_err_and c.from_residual.result c.from_residual.ensures.1 in rw (p.1, p.2)
    (start_full _ _ (started c.requires.0 c.requires.1 c.in_err-n.ensures) refl)

pub new-requires : goal.new-requires
new-requires c =
    listable c.requires.0 c.requires.1 refl c.requires.2

pub close-requires : goal.close-requires
close-requires c =
    closable c.requires.0 c.requires.1 c.in_ok-n.ensures refl c.requires.2 c.table-rules.ensures c.new.ensures
    (length-replicate {A = ℕ} roles_length 0)

pub returns : goal.returns
returns c =
    closes_load _ _ (started c.requires.0 c.requires.1 c.in_ok-n.ensures) refl
    (load_lists c.requires.0 c.requires.1 c.new.ensures) c.close.ensures
