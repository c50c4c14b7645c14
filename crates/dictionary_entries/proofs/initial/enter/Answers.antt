-- `dictionary_entries::initial::enter` meets its contract. Assumes nothing.
use mathlib.Core.Path.{ap}
use native.Mathlib.Omega.{arith}
use Rattle.dictionary_layout.specs.declared.values.Digest.{Digest}
use Rattle.dictionary_entries.proofs.Starting.{next_appendable, next_short, next_done}
use Rattle.dictionary_entries.proofs.initial.enter.Goals as goal

pub digest-chain-requires : goal.digest-chain-requires
digest-chain-requires c =
    omega (arith, next_short c.requires)

pub append-requires : goal.append-requires
append-requires c =
    next_appendable c.requires (ap (λ (x : Digest). x.chain) c.digest-chain.ensures)

pub returns : goal.returns
returns c =
    let append = c.append in
    next_done c.requires append.auto.table append.auto.arena append.ensures
