-- `dictionary_puts::put_indexed` meets its contract. Assumes nothing.
use mathlib.Core.Path.{sym, ap}
use native.Mathlib.Omega.{arith}
use Rattle.std.proofs.lemmas.Result.{err_from_is_err_and}
use Rattle.common.proofs.Refusals.{numbered}
use lib.Dec.{leb→le}
use lib.ListN.{length}
use Rattle.common.specs.Sizes.{term_limit}
use Rattle.dictionary_layout.specs.declared.values.Digest.{Digest}
use Rattle.dictionary_layout.specs.Terms.{term}
use Rattle.dictionary_layout.specs.Values.{contents}
use Rattle.dictionary_index.proofs.Refusals.{refusal_none, put_refuses}
use Rattle.dictionary_puts.proofs.Indexing.{seekable, found_place, index_room, index_kept, index_more}
use Rattle.dictionary_puts.proofs.put_indexed.Goals as goal

pub returns-in_err-put_refusal : goal.returns-in_err-put_refusal
returns-in_err-put_refusal c =
    let d = contents c.args.table.now c.args.arena.now c.args.counters in
    let p = err_from_is_err_and c.from_residual.result c.from_residual.ensures.1 in
    rw (p.1, p.2) (record {
      arena_after = put_refuses (term c.args.kind c.args.bytes.now) d c.requires.unbroken c.in_err-put_refusal.ensures
          (numbered _);
      indexed = c.requires;
    })

pub digest-d-requires : goal.digest-d-requires
digest-d-requires c =
    let t = (term c.args.kind c.args.bytes.now) in
    leb→le (length t.bytes) term_limit (refusal_none t (sym c.in_ok-put_refusal.ensures)).1

pub find_entry-found-requires : goal.find_entry-found-requires
find_entry-found-requires c =
    seekable c.requires (term c.args.kind c.args.bytes.now) (sym c.in_ok-put_refusal.ensures) c.digest-d.ensures

pub put_found-requires : goal.put_found-requires
put_found-requires c =
    record {
      unbroken = c.requires.unbroken;
      accepted = (sym c.in_ok-put_refusal.ensures);
      chained = ap (λ (x : Digest). x.chain) c.digest-d.ensures;
      place = found_place (contents c.args.table.now c.args.arena.now c.args.counters) c.requires.unbroken
          (term c.args.kind c.args.bytes.now) c.find_entry-found.result c.find_entry-found.ensures;
    }

pub hash_entry-requires : goal.hash_entry-requires
hash_entry-requires c =
    index_room c.requires (term c.args.kind c.args.bytes.now) (sym c.in_ok-put_refusal.ensures)
    c.digest-d.ensures

pub returns-in_err-next : goal.returns-in_err-next
returns-in_err-next c =
    let e = c.in_err-next.ensures in
    let p = err_from_is_err_and c.from_residual-in_err-next.result c.from_residual-in_err-next.ensures.1 in
    rw (p.1, p.2)
    (record { arena_after = e; indexed = index_kept c.requires (term c.args.kind c.args.bytes.now) e (omega arith) })

pub returns-then-counters-next : goal.returns-then-counters-next
returns-then-counters-next c =
    let e = c.in_ok-next.ensures in record {
      arena_after = e;
      indexed = index_more c.requires (term c.args.kind c.args.bytes.now) e c.if-counters-next.true
          (sym c.in_ok-put_refusal.ensures) c.digest-d.ensures c.hash_entry.ensures;
    }

pub returns-else-counters-next : goal.returns-else-counters-next
returns-else-counters-next c =
    let e = c.in_ok-next.ensures in
    record { arena_after = e; indexed = index_kept c.requires (term c.args.kind c.args.bytes.now) e c.if-counters-next.false }
