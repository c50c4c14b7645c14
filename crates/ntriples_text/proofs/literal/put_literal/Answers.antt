-- `literal::put_literal` meets its contract. Assumes nothing.
use native.Mathlib.Omega.{arith}
use lib.ListN.{length-set}
use Rattle.ntriples_text.proofs.Texts.{split, literal_zero, literal_room, suffix_room, put_quoted}
use Rattle.ntriples_text.proofs.literal.put_literal.Goals as goal

pub unwrap-z-requires : goal.unwrap-z-requires
unwrap-z-requires c = literal_zero c.requires c.last_zero.ensures

pub bounds-page-at : goal.bounds-page-at
bounds-page-at c =
    let s = split c.unwrap-z.ensures c.last_zero.ensures in
    omega (arith, literal_room c.requires s)

pub put_escaped-n-requires : goal.put_escaped-n-requires
put_escaped-n-requires c =
    let s = split c.unwrap-z.ensures c.last_zero.ensures in
    let args = c.args in
    omega (arith, literal_room c.requires s, length-set args.page.now args.at 34)

pub bounds-page-n : goal.bounds-page-n
bounds-page-n c =
    let s = split c.unwrap-z.ensures c.last_zero.ensures in
    omega (arith, suffix_room c.requires s c.put_escaped-n.ensures)

pub put_suffix-requires : goal.put_suffix-requires
put_suffix-requires c =
    let s = split c.unwrap-z.ensures c.last_zero.ensures in
    let mid = c.put_escaped-n in
    omega (arith, suffix_room c.requires s mid.ensures, length-set mid.new.page mid.result 34)

pub returns : goal.returns
returns c =
    let s = split c.unwrap-z.ensures c.last_zero.ensures in
    put_quoted c.requires s c.put_escaped-n.ensures c.put_suffix.ensures
