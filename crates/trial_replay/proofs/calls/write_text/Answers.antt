-- `trial_replay::calls::write_text` meets its contract. Assumes nothing.
use mathlib.Core.Path.{◌≡◌}
use Rattle.dictionary_layout.specs.Values.{contents}
use Rattle.ntriples_canonical.specs.Calls.{write_answer, write_gives}
use Rattle.trial_replay.proofs.Making.{write_is}
use Rattle.trial_replay.proofs.calls.write_text.Goals.{in-Ok, in-Err}
use Rattle.trial_replay.proofs.calls.write_text.Goals as goal

pub returns : goal.returns
returns c =
    let args = c.args in
    let n = c.match-write.number in
    let d = contents args.table.now args.arena.now c.counters_in-counters.result in
    let answers : write_answer n.0 n.1 n.2 c.write.new.page ≡ write_gives d args.store.now c.cell-triples.result args.page.now =
    elim c.match-write.branch [
      | in-Ok w ↦ rw w.number-is (rw w.in-Ok.is at c.write.ensures)
      | in-Err w ↦ rw (w.number-is, w.number.ensures) (rw w.in-Err.is at c.write.ensures)
    ] in
    write_is args.memory.now args.table.now args.arena.now c.counters_in-counters.ensures args.store.now
    args.page.now c.cell-triples.ensures answers c.narrow.ensures
    c.set_cell.ensures c.set_cell-2.ensures c.answer.ensures
