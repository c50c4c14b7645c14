-- The worked cases of closing in turns hold of the definitions: one theorem over the table of specs/TurnCases.antt. Assumes nothing.
use mathlib.Core.Path.{refl}
use Rattle.common.specs.Triples.{insert, insert_all, without_zero_rows}
use Rattle.meaning.specs.Lists.{walk, members}
use Rattle.meaning.specs.Start.{start}
use Rattle.meaning.specs.Table.{rules, checks, gives, consequences}
use Rattle.meaning.specs.Closure.{findings, count_of}
use Rattle.meaning.specs.Passes.{new_rows, round_rows}
use Rattle.meaning_turns.specs.Turns.{pass_rows, opening, turn, store_rows, lawful}
use Rattle.meaning_turns.specs.TurnCases.{TurnsHold, store_cases, turn_cases}

store_cases_hold : TurnsHold store_cases
unfolding pass_rows store_rows lawful start round_rows new_rows members walk gives rules insert insert_all
store_cases_hold = (refl, (refl, (refl, (refl, (refl, (refl, (refl, (refl, (refl, (refl, (refl, (refl, tt))))))))))))

pub turn_cases_hold : TurnsHold turn_cases
unfolding turn opening pass_rows store_rows lawful start round_rows new_rows members walk findings without_zero_rows count_of consequences
    gives rules checks insert insert_all
turn_cases_hold = (refl, (refl, (refl, (refl, (refl, (refl, (refl, (refl, (refl, (refl, (refl, (refl, (refl, store_cases_hold)))))))))))))
