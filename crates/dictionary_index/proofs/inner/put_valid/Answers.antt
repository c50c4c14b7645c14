-- `dictionary_index::inner::put_valid` meets its contract. Assumes nothing.
use mathlib.Core.Path.{sym, ap}
use lib.Dec.{leb→le}
use lib.ListN.{length}
use Rattle.common.specs.Sizes.{term_limit}
use Rattle.std.proofs.lemmas.Result.{err_from_is_err_and}
use Rattle.common.proofs.Refusals.{numbered}
use Rattle.dictionary_layout.specs.declared.values.Digest.{Digest}
use Rattle.dictionary_layout.specs.Terms.{term}
use Rattle.dictionary_layout.specs.Values.{contents}
use Rattle.dictionary_index.proofs.Refusals.{refusal_none, put_refuses}
use Rattle.dictionary_index.proofs.inner.put_valid.Goals as goal

pub returns-in_err-put_refusal : goal.returns-in_err-put_refusal
returns-in_err-put_refusal c =
    let d = contents c.args.table.now c.args.arena.now c.args.counters in
    let t = term c.args.kind c.args.bytes.now in
    let p = err_from_is_err_and c.from_residual.result c.from_residual.ensures.1 in
    rw (p.1, p.2) (put_refuses t d c.requires c.in_err-put_refusal.ensures (numbered _))

pub digest-chain-requires : goal.digest-chain-requires
digest-chain-requires c =
    let t = term c.args.kind c.args.bytes.now in
    leb→le (length t.bytes) term_limit (refusal_none t (sym c.in_ok-put_refusal.ensures)).1

pub find_term-found-requires : goal.find_term-found-requires
find_term-found-requires c =
    record { unbroken = c.requires; chained = ap (λ (x : Digest). x.chain) c.digest-chain.ensures }

pub put_found-requires : goal.put_found-requires
put_found-requires c =
    record {
      unbroken = c.requires;
      accepted = sym c.in_ok-put_refusal.ensures;
      chained = ap (λ (x : Digest). x.chain) c.digest-chain.ensures;
      place = c.find_term-found.ensures;
    }
