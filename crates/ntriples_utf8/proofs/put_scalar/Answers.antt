-- `ntriples_utf8::put_scalar` meets its contract. Assumes nothing.
use native.Mathlib.Omega.{arith}
use Rattle.ntriples_utf8.proofs.Encoding.{wrote_one, wrote_two, wrote_three, wrote_four}
use Rattle.ntriples_utf8.proofs.put_scalar.Goals as goal

pub returns-in-0-to-127 : goal.returns-in-0-to-127
returns-in-0-to-127 c = let a = c.args in wrote_one a.c a.out.now a.at c.requires.1 (omega arith)

pub returns-in-128-to-2047 : goal.returns-in-128-to-2047
returns-in-128-to-2047 c = let a = c.args in wrote_two a.c a.out.now a.at c.requires.1 (omega arith) (omega arith)

pub returns-in-2048-to-65535 : goal.returns-in-2048-to-65535
returns-in-2048-to-65535 c = let a = c.args in wrote_three a.c a.out.now a.at c.requires.1 (omega arith) (omega arith)

pub returns-in_default : goal.returns-in_default
returns-in_default c = let a = c.args in wrote_four a.c a.out.now a.at c.requires.1 (omega arith)
