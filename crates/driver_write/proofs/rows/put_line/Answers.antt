-- `rows::put_line` meets its contract. Assumes nothing.
use native.Mathlib.Omega.{arith}
use lib.ListN.{length-set}
use Rattle.driver_write.proofs.Writing.{known→, subject_fits, subject_room, predicate_fits, predicate_room, predicate_same}
use Rattle.driver_write.proofs.Writing.{object_fits, object_room, line_same, line_put}
use Rattle.driver_write.proofs.rows.put_line.Goals as goal

pub put_term-n-requires : goal.put_term-n-requires
put_term-n-requires c =
    let f = c.requires in
    (f.unbroken, (known→ f.ids).0, subject_fits f)

pub bounds-page-n : goal.bounds-page-n
bounds-page-n c =
    omega (arith, subject_room c.requires c.put_term-n.ensures)

pub overflow_add-n : goal.overflow_add-n
overflow_add-n c =
    let g = c.well_formed in
    omega (arith, subject_room c.requires c.put_term-n.ensures, c.put_term-n.ensures.same)

pub put_term-m-requires : goal.put_term-m-requires
put_term-m-requires c =
    let f = c.requires in
    (f.unbroken, (known→ f.ids).1, predicate_fits f c.put_term-n.ensures)

pub bounds-page-m : goal.bounds-page-m
bounds-page-m c =
    omega (arith, predicate_room c.requires c.put_term-n.ensures c.put_term-m.ensures)

pub overflow_add-m : goal.overflow_add-m
overflow_add-m c =
    let g = c.well_formed in
    let e = predicate_same c.requires c.put_term-n.ensures c.put_term-m.ensures in
    omega (arith, predicate_room c.requires c.put_term-n.ensures c.put_term-m.ensures)

pub put_term-e-requires : goal.put_term-e-requires
put_term-e-requires c =
    let f = c.requires in
    (f.unbroken, (known→ f.ids).2, object_fits f c.put_term-n.ensures c.put_term-m.ensures)

pub bounds-page-e : goal.bounds-page-e
bounds-page-e c =
    omega (arith, object_room c.requires c.put_term-n.ensures c.put_term-m.ensures c.put_term-e.ensures)

pub overflow_add-page : goal.overflow_add-page
overflow_add-page c =
    let g = c.well_formed in
    let same = line_same c.requires c.put_term-n.ensures c.put_term-m.ensures c.put_term-e.ensures in
    omega (arith, object_room c.requires c.put_term-n.ensures c.put_term-m.ensures c.put_term-e.ensures)

pub bounds-page-e-2 : goal.bounds-page-e-2
bounds-page-e-2 c =
    let h = object_room c.requires c.put_term-n.ensures c.put_term-m.ensures c.put_term-e.ensures in
    simp length-set (omega arith)

pub overflow_add-page-2 : goal.overflow_add-page-2
overflow_add-page-2 c =
    let g = c.well_formed in
    let same = line_same c.requires c.put_term-n.ensures c.put_term-m.ensures c.put_term-e.ensures in
    omega (arith, object_room c.requires c.put_term-n.ensures c.put_term-m.ensures c.put_term-e.ensures)

pub bounds-page-e-3 : goal.bounds-page-e-3
bounds-page-e-3 c =
    let h = object_room c.requires c.put_term-n.ensures c.put_term-m.ensures c.put_term-e.ensures in
    simp length-set (omega arith)

pub overflow_add-result : goal.overflow_add-result
overflow_add-result c =
    let g = c.well_formed in
    let same = line_same c.requires c.put_term-n.ensures c.put_term-m.ensures c.put_term-e.ensures in
    omega (arith, object_room c.requires c.put_term-n.ensures c.put_term-m.ensures c.put_term-e.ensures)

pub shape_of-page : goal.shape_of-page
shape_of-page c =
    (line_put c.requires c.put_term-n.ensures c.put_term-m.ensures c.put_term-e.ensures).same

pub returns : goal.returns
returns c =
    line_put c.requires c.put_term-n.ensures c.put_term-m.ensures c.put_term-e.ensures
