-- The worked cases of REFERENCE 11 hold of the definitions: one theorem over the table of specs/Cases.antt. Assumes nothing.
use mathlib.Core.Path.{refl}
use Rattle.common.specs.Triples.{insert, insert_all, without_zero_rows}
use Rattle.meaning.specs.Lists.{walk, members}
use Rattle.meaning.specs.Start.{start}
use Rattle.meaning.specs.Table.{rules, checks, gives, consequences}
use Rattle.meaning.specs.Closure.{findings, count_of}
use Rattle.meaning.specs.Passes.{new_rows, round_rows, close_rows, closure_rows}
use Rattle.meaning.specs.RowsRun.{run_rows}
use Rattle.meaning.specs.Cases.{AllHold, nil_cases, list_cases, cases}

nil_cases_hold : AllHold nil_cases
unfolding run_rows closure_rows start close_rows round_rows new_rows members walk findings without_zero_rows count_of consequences
    gives rules checks insert insert_all
nil_cases_hold = (refl, (refl, (refl, (refl, (refl, (refl, tt))))))

list_cases_hold : AllHold list_cases
unfolding run_rows closure_rows start close_rows round_rows new_rows members walk findings without_zero_rows count_of consequences
    gives rules checks insert insert_all
list_cases_hold = (refl, (refl, (refl, (refl, (refl, (refl, (refl, (refl, (refl, (refl, (refl, (refl, (refl, nil_cases_hold)))))))))))))

pub starred : AllHold cases
unfolding run_rows closure_rows start close_rows round_rows new_rows members walk findings without_zero_rows count_of consequences
    gives rules checks insert insert_all
starred = (refl, (refl, (refl, (refl, (refl, (refl, (refl, (refl, (refl, (refl, (refl, (refl, (refl, list_cases_hold)))))))))))))
