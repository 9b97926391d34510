use mathlib.Core.Path.{refl}
use native.Mathlib.Omega.{arith}
use Rattle.str_writer.proofs.Judging.{handed, put-met}
use Rattle.fields.specs.Decimal.{cell}
use Rattle.fields.proofs.Cells.{cell-length, cell-short, digits-fit, after-fits, cell-done}
use Rattle.fields.proofs.decimal.put_number.Goals as goal

pub overflow_add-compute_display_len : goal.overflow_add-compute_display_len
overflow_add-compute_display_len c = let a = c.args in
    let e = cell-length a.n a.after c.compute_display_len.ensures in
    omega (arith, cell-short a.n a.after c.ranges.n.fits)

pub returns-in_err-piece_fault : goal.returns-in_err-piece_fault
returns-in_err-piece_fault c = let a = c.args in
    let e = cell-length a.n a.after c.compute_display_len.ensures in
    rw (handed _ _ c.from_residual.ensures.1) (put-met a.buf.now a.at (cell a.n a.after) _ (c.in_err-piece_fault.ensures a.buf.now _ refl e))

pub returns-in_err-end : goal.returns-in_err-end
returns-in_err-end c = let a = c.args in
    let f = c.in_ok-piece_fault.ensures a.buf.now _ refl (cell-length a.n a.after c.compute_display_len.ensures) in
    digits-fit a.buf.now a.at a.n a.after f c.in_err-end.ensures

pub bounds-buf-end : goal.bounds-buf-end
bounds-buf-end c = let a = c.args in
    let f = c.in_ok-piece_fault.ensures a.buf.now _ refl (cell-length a.n a.after c.compute_display_len.ensures) in
    after-fits a.buf.now a.at a.n a.after f c.in_ok-end.ensures

pub overflow_add-result : goal.overflow_add-result
overflow_add-result c = let h = bounds-buf-end c in omega arith

pub returns : goal.returns
returns c = let a = c.args in
    let f = c.in_ok-piece_fault.ensures a.buf.now _ refl (cell-length a.n a.after c.compute_display_len.ensures) in
    cell-done a.buf.now a.at a.n a.after f c.in_ok-end.ensures
