use Rattle.std.proofs.Common.{◌≡◌, ◌+◌, ◌-◌, ◌≤◌, length}
use Rattle.dictionary_layout.specs.Values.{contents}
use Rattle.edge_closer_text.specs.Sizes.{name_width}
use Rattle.edge_closer_run.specs.Program.{named}
use Rattle.edge_closer_run.proofs.put_names.Given as goal

abbrev pub invariant-loop-n : goal.invariant-loop-n
invariant-loop-n l =
    (l.n ≤ l.count + 1) × (length l.table ≡ length l.initial.table) × (length l.arena ≡ length l.initial.arena)
    × (length l.name ≡ name_width)
    × (contents l.table l.arena l.left ≡ named (l.n - 1) (contents l.initial.table l.initial.arena l.initial.left))
