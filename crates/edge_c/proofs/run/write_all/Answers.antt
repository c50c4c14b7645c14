-- `edge_c::run::write_all` meets its contract. Assumes nothing.

use Rattle.edge_c.proofs.run.write_all.Goals as goal

pub write_back-requires : goal.write_back-requires
write_back-requires c =
    λ h. (c.requires h).table_room

pub write_back-requires-2 : goal.write_back-requires-2
write_back-requires-2 c =
    λ h. (c.requires h).store_room

pub write_back-requires-3 : goal.write_back-requires-3
write_back-requires-3 c =
    λ h. (c.requires h).findings_room

pub returns : goal.returns
returns c = (
  c.write_back.ensures,
  c.write_back-2.ensures,
  c.write_back-3.ensures,
  c.clear_back.ensures,
)
