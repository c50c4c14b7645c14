-- `input::parse` meets its contract. Assumes nothing.
use Rattle.std.proofs.Common.{◌≡◌, ◌∙◌, ◌+◌, ◌*◌, ◌-◌, length, sym, Some, None, arith, rules}
use Rattle.std.proofs.lemmas.Result.{err_from_is_err_and}
use Rattle.edge_closer_text.proofs.Parsing.{count_bad, lines_start, lines_end, line_bad, line_good, line_too_many}
use Rattle.edge_closer_text.proofs.Writing.{put_sets}
use Rattle.edge_closer_text.proofs.input.parse.Goals as goal

pub returns-in_err-count : goal.returns-in_err-count
returns-in_err-count c =
    let n : c.number.result ≡ None = grind arith in
    let p = err_from_is_err_and c.from_residual.result c.from_residual.ensures.1 in
    let v = rw n at c.in_err-count.ensures.value in
    let e : c.in_err-count.field-0.0 ≡ record { number = 1 } = cc in
    rw (p.1, p.2, e)
    (count_bad c.args.input.now c.args.ids.now c.unwrap_or-first.result (c.unwrap_or-first.ensures ∙ c.find_byte.ensures.place)
    (sym (rw n at c.number.ensures)))

pub loop-end-init : goal.loop-end-init
loop-end-init c =
    let n : c.number.result ≡ Some c.in_ok-count.count = grind arith in
    lines_start c.args.input.now c.args.ids.now c.unwrap_or-first.result c.in_ok-count.count c.requires
    (c.unwrap_or-first.ensures ∙ c.find_byte.ensures.place)
    (sym (rw n at c.number.ensures))

pub returns-then-lines-eq-LINE_LIMIT : goal.returns-then-lines-eq-LINE_LIMIT
returns-then-lines-eq-LINE_LIMIT c =
    line_too_many c.loop-end.invariant c.loop-end-test.true c.if-lines-eq-LINE_LIMIT.true

pub returns-in_err-three : goal.returns-in_err-three
returns-in_err-three c =
    let n : c.ids_of_line.result ≡ None = grind arith in
    let p = err_from_is_err_and c.from_residual-in_err-three.result c.from_residual-in_err-three.ensures.1 in
    let v = rw n at c.in_err-three.ensures.value in
    let e : c.in_err-three.field-0.0 ≡ record { number = c.loop-end.lines + 2 } = cc in
    rw (p.1, p.2, e)
    (line_bad c.loop-end.invariant c.loop-end-test.true c.unwrap_or-end.result
    (c.unwrap_or-end.ensures ∙ c.find_byte-in-loop-end.ensures.place) c.if-lines-eq-LINE_LIMIT.false (sym (rw n at c.ids_of_line.ensures)))

pub loop-end-preserved : goal.loop-end-preserved
loop-end-preserved c =
    let n : c.ids_of_line.result ≡ Some c.in_ok-three.three = grind arith in
    let l : length c.in_ok-three.three ≡ 3 = search rules in
    let i = c.loop-end.invariant in
    let d = c.if-lines-eq-LINE_LIMIT.false in
    let at = 3 * c.loop-end.lines in
    rw (
      c.copy_from_slice.ensures.after,
      put_sets c.loop-end.ids c.in_ok-three.three at (at + 3 - at) (omega arith) (omega (arith, i.few, i.room)),
    )
    (line_good i c.loop-end-test.true c.unwrap_or-end.result (c.unwrap_or-end.ensures ∙ c.find_byte-in-loop-end.ensures.place) d
    c.in_ok-three.three l (sym (rw n at c.ids_of_line.ensures)))

pub returns : goal.returns
returns c = lines_end c.loop-end.invariant c.loop-end-test.false
