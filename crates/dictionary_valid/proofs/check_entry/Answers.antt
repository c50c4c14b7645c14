-- `dictionary_valid::check_entry` meets its contract. Assumes nothing.
use native.Mathlib.Omega.{arith}
use Rattle.dictionary_valid.proofs.Scanning.{scanned_room}
use Rattle.dictionary_valid.proofs.Checking.{few, numbers_broken, bucket_small, seekable, next_broken, seen_broken, entry_passed}
use Rattle.dictionary_valid.proofs.check_entry.Goals as goal

pub entry_follows-requires : goal.entry_follows-requires
entry_follows-requires c =
    let s = c.requires.0 in
    (s.entry, (scanned_room s.scanned).1)

pub returns-then-not-entry_follows : goal.returns-then-not-entry_follows
returns-then-not-entry_follows c =
    numbers_broken c.requires.0 c.entry_follows.ensures c.if-not-entry_follows.true

pub returns-then-table-entry : goal.returns-then-table-entry
returns-then-table-entry c =
    let follows = c.entry_follows.ensures.0 c.if-not-entry_follows.false in
    next_broken c.requires.0 follows c.digest-d.ensures c.requires.1 c.if-table-entry.true

pub find_entry-requires : goal.find_entry-requires
find_entry-requires c =
    let follows = c.entry_follows.ensures.0 c.if-not-entry_follows.false in
    seekable c.requires.0 follows c.digest-d.ensures

pub returns-in-Some : goal.returns-in-Some
returns-in-Some c =
    let follows = c.entry_follows.ensures.0 c.if-not-entry_follows.false in
    seen_broken c.requires.0 follows c.digest-d.ensures c.in-Some.ensures

pub overflow_cast-heads : goal.overflow_cast-heads
overflow_cast-heads c = omega (arith, few c.requires.0)

pub hash_entry-requires : goal.hash_entry-requires
hash_entry-requires c =
    let follows = c.entry_follows.ensures.0 c.if-not-entry_follows.false in
    let s = c.requires.0 in
    (s.hashed.wide, bucket_small s follows c.digest-d.ensures, omega (arith, few s))

pub returns : goal.returns
returns c =
    let follows = c.entry_follows.ensures.0 c.if-not-entry_follows.false in
    entry_passed c.requires.0 follows c.digest-d.ensures c.requires.1 c.if-table-entry.false
    c.in_default.ensures c.hash_entry.ensures
