use mathlib.Core.Path.{refl, sym, ◌∙◌}
use Rattle.str_writer.proofs.Judging.{handed, met, cursor-fits}
use Rattle.str_writer.proofs.Truncation.{utf8_met, utf8_above, utf8_cut, utf8_done}
use Rattle.str_writer.proofs.cursor.truncate_utf8.Goals as goal

pub returns-in_err-cursor_fault : goal.returns-in_err-cursor_fault
returns-in_err-cursor_fault c = let a = c.args in
    rw (handed _ _ c.from_residual.ensures.1) (utf8_met a.buf.now a.at _ (met _ _ (c.in_err-cursor_fault.ensures a.buf.now refl)) a.length)

pub returns-then-length-at : goal.returns-then-length-at
returns-then-length-at c = let a = c.args in
    utf8_above a.buf.now a.at a.length (cursor-fits a.buf.now a.at (met _ _ (c.in_ok-cursor_fault.ensures a.buf.now refl))) c.if-length-at.true

pub returns-then-not-is_char_boundary : goal.returns-then-not-is_char_boundary
returns-then-not-is_char_boundary c = let a = c.args in
    let h = cursor-fits a.buf.now a.at (met _ _ (c.in_ok-cursor_fault.ensures a.buf.now refl)) in
    utf8_cut a.buf.now a.at a.length h c.if-length-at.false (rw c.as_bytes-text.ensures at (sym c.is_char_boundary.ensures ∙ c.if-not-is_char_boundary.true))

pub returns : goal.returns
returns c = let a = c.args in
    let h = cursor-fits a.buf.now a.at (met _ _ (c.in_ok-cursor_fault.ensures a.buf.now refl)) in
    utf8_done a.buf.now a.at a.length h c.if-length-at.false (rw c.as_bytes-text.ensures at (sym c.is_char_boundary.ensures ∙ c.if-not-is_char_boundary.false))
