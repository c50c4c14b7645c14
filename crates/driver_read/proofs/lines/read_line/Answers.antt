-- `lines::read_line` meets its contract. Assumes nothing.
use mathlib.Core.Path.{◌≡◌, sym, subst}
use mathlib.Core.List.{List}
use Prim.Native.Nat.{ℕ, ◌≤◌}
use native.Mathlib.Omega.{arith}
use lib.Dec.{ltb→lt, lt→ltb}
use lib.ListN.{length}
use Rattle.dictionary_layout.specs.Layout.{Dict}
use Rattle.dictionary_layout.specs.Values.{contents}
use Rattle.ntriples.specs.Grammar.{Line, line}
use Rattle.ntriples.specs.Reading.{Outcome, line_limit}
use Rattle.driver_read.specs.Lines.{said_comes, line_comes, ComesTo}
use Rattle.driver_read.proofs.Outcomes.{answered, refuses, passes, line_long, line_said}
use Rattle.driver_read.proofs.lines.read_line.Goals as goal

-- a line that is not too long comes to what it says
comes : (d : Dict) (load : List ℕ) (k : ℕ) (l : List ℕ) {s : Line} → length l ≤ line_limit → s ≡ line l
    → line_comes d load k l ≡ said_comes d load k s
comes d load k l h e = line_said d load k l (λ t. omega (arith, ltb→lt line_limit (length l) t)) e

pub returns-then-bytes-gt-LINE_LIMIT : goal.returns-then-bytes-gt-LINE_LIMIT
returns-then-bytes-gt-LINE_LIMIT c =
    let l = c.args.bytes.now in
    let long = line_long (contents c.args.table.now c.args.arena.now c.args.next.counters) c.args.load.now c.args.next.count l
    (lt→ltb line_limit (length l) c.if-bytes-gt-LINE_LIMIT.true) in
    answered c.read_next.ensures (refuses 14 c.requires.0 (omega arith) long)

pub returns-in-Some-Nothing : goal.returns-in-Some-Nothing
returns-in-Some-Nothing c =
    let said = rw c.in-Some-Nothing.field-0-is at c.in-Some-Nothing.ensures in
    answered c.read_next-in-Some-Nothing.ensures (passes c.requires.0
    (comes (contents c.args.table.now c.args.arena.now c.args.next.counters) c.args.load.now c.args.next.count
    c.args.bytes.now c.if-bytes-gt-LINE_LIMIT.false said.said_is))

pub returns-in-Some-Triple : goal.returns-in-Some-Triple
returns-in-Some-Triple c =
    let d = contents c.args.table.now c.args.arena.now c.args.next.counters in
    let said = rw c.in-Some-Triple.field-0-is at c.in-Some-Triple.ensures in
    let e = comes d c.args.load.now c.args.next.count c.args.bytes.now c.if-bytes-gt-LINE_LIMIT.false said.said_is in
    subst (λ (o : Outcome). ComesTo o d c.read_triple.new.table c.read_triple.new.arena c.read_triple.new.hash c.read_triple.new.load
    c.read_triple.result) (sym e) c.read_triple.ensures

pub returns-in-None : goal.returns-in-None
returns-in-None c =
    answered c.read_next-in-None.ensures (refuses 13 c.requires.0 (omega arith)
    (comes (contents c.args.table.now c.args.arena.now c.args.next.counters) c.args.load.now c.args.next.count
    c.args.bytes.now c.if-bytes-gt-LINE_LIMIT.false c.in-None.ensures.said_is))
