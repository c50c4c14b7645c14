-- `dictionary_valid::is_valid_by` meets its contract. Assumes nothing.
use mathlib.Core.Path.{sym, ◌∙◌}
use Rattle.common.proofs.Refusals.{refused}
use Rattle.dictionary_layout.specs.Dictionary.{valid}
use Rattle.dictionary_layout.specs.Values.{contents}
use Rattle.dictionary_layout.proofs.Choice.{is_false}
use Rattle.dictionary_hash.proofs.Hashing.{hashed_none}
use Rattle.dictionary_valid.proofs.Checking.{start_hashable}
use Rattle.dictionary_valid.proofs.Validity.{other_sizes, few_terms, many_terms}
use Rattle.dictionary_valid.proofs.is_valid_by.Goals as goal
use Rattle.dictionary_valid.proofs.is_valid_by.Goals.{then-terms-lt-START_COUNT-via-then-terms-lt-START_COUNT}
use Rattle.dictionary_valid.proofs.is_valid_by.Goals.{then-terms-lt-START_COUNT-via-else-terms-lt-START_COUNT+then-table-terms}

pub returns-then-is_err : goal.returns-then-is_err
returns-then-is_err c =
    other_sizes (contents c.args.table.now c.args.arena.now c.args.counters) c.start_refusal.ensures
    (refused c.start_refusal.result (sym c.is_err.ensures.value ∙ c.if-is_err.true))

pub returns-then-terms-lt-START_COUNT : goal.returns-then-terms-lt-START_COUNT
returns-then-terms-lt-START_COUNT c =
    let d = contents c.args.table.now c.args.arena.now c.args.counters in
    elim c.then-terms-lt-START_COUNT.branch [
      | then-terms-lt-START_COUNT-via-then-terms-lt-START_COUNT w ↦ few_terms d w.if-terms-lt-START_COUNT.true
      | then-terms-lt-START_COUNT-via-else-terms-lt-START_COUNT+then-table-terms w ↦ many_terms d w.if-table-terms.true
    ]

pub hash_entries-requires : goal.hash_entries-requires
hash_entries-requires c =
    start_hashable (c.begins_fresh.ensures.yes c.if-not-begins_fresh.false) (hashed_none c.requires.0 c.requires.1)

pub returns-in-None : goal.returns-in-None
returns-in-None c =
    let d = contents c.args.table.now c.args.arena.now c.args.counters in
    is_false (valid d) (c.in-None.ensures c.args.counters.used)
