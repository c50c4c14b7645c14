-- `trial_replay::lines::keep` meets its contract. Assumes nothing.
use mathlib.Core.Path.{refl}
use Rattle.trial_replay.specs.Text.{memories}
use Rattle.trial_replay.proofs.Making.{numbers_taken}
use Rattle.trial_replay.proofs.Reading.{saves, restores}
use Rattle.trial_replay.proofs.lines.keep.Goals as goal

pub returns-then-line-eq5 : goal.returns-then-line-eq5
returns-then-line-eq5 c =
    let taken = c.take_numbers in
    let args = c.args in (
      refl,
      saves args.line (memories args.memory.now args.expected.now args.saved.now) c.if-line-eq5.true
          (numbers_taken args.memory.now 0 _ taken.auto.row taken.ensures),
    )

pub returns-else-line-eq5 : goal.returns-else-line-eq5
returns-else-line-eq5 c =
    let memory = c.take_numbers-else-line-eq5 in
    let expected = c.take_numbers-else-line-eq5-2 in
    let args = c.args in (
      refl,
      restores args.line (memories args.memory.now args.expected.now args.saved.now) c.if-line-eq5.false
          (numbers_taken args.saved.now 0 _ memory.auto.row memory.ensures)
          (numbers_taken args.saved.now 0 _ expected.auto.row expected.ensures),
    )
