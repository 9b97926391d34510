use mathlib.Core.Path.{refl, sym}
use Rattle.str_writer.proofs.Judging.{handed, met, cursor-fits}
use Rattle.str_writer.proofs.Truncation.{start-met, start_fits}
use Rattle.str_writer.proofs.cursor.from_custom.Goals as goal

pub returns-in_err-cursor_fault : goal.returns-in_err-cursor_fault
returns-in_err-cursor_fault c = let a = c.args in
    rw (handed _ _ c.from_residual.ensures.1) (start-met a.buf.now a.at _ (met _ _ (c.in_err-cursor_fault.ensures a.buf.now refl)))

pub returns : goal.returns
returns c = let a = c.args in
    sym (start_fits a.buf.now a.at (cursor-fits a.buf.now a.at (met _ _ (c.in_ok-cursor_fault.ensures a.buf.now refl))))
