use mathlib.Core.Path.{refl}
use Rattle.str_writer.proofs.Judging.{handed, met, cursor-fits}
use Rattle.str_writer.proofs.Truncation.{cut-met, cut-above, cut-done}
use Rattle.str_writer.proofs.cursor.truncate.Goals as goal

pub returns-in_err-cursor_fault : goal.returns-in_err-cursor_fault
returns-in_err-cursor_fault c = let a = c.args in
    rw (handed _ _ c.from_residual.ensures.1) (cut-met a.buf.now a.at _ (met _ _ (c.in_err-cursor_fault.ensures a.buf.now refl)) a.length)

pub returns-then-at-length : goal.returns-then-at-length
returns-then-at-length c = let a = c.args in
    cut-above a.buf.now a.at a.length (cursor-fits a.buf.now a.at (met _ _ (c.in_ok-cursor_fault.ensures a.buf.now refl))) c.if-at-length.true

pub returns : goal.returns
returns c = let a = c.args in
    cut-done a.buf.now a.at a.length (cursor-fits a.buf.now a.at (met _ _ (c.in_ok-cursor_fault.ensures a.buf.now refl))) c.if-at-length.false
