use mathlib.Core.List.{List, ◌++◌}
use mathlib.Core.Path.{refl, sym}
use Prim.Native.Nat.{ℕ, ◌≤◌}
use native.Mathlib.Omega.{arith}
use lib.ListN.{length}
use Rattle.formatting.specs.Hex.{hex_digit}
use Rattle.pwrapper.specs.Digits.{digit_text}
use Rattle.str_writer.proofs.Judging.{handed, met, cursor-fits, put-cursor, put-met}
use Rattle.integer_writes.specs.Mark.{mark_text}
use Rattle.integer_writes.proofs.IntegerText.{prefixed}
use Rattle.integer_writes.proofs.number.write_digits.Goals as goal

pub returns-in_err-cursor_fault : goal.returns-in_err-cursor_fault
returns-in_err-cursor_fault g c = let a = c.args in
    let t : List ℕ = mark_text a.mark ++ digit_text (hex_digit a.hex_fmt) g.row.BASE a.n in
    let e = met _ _ (c.in_err-cursor_fault.ensures a.buf.now refl) in
    rw (handed _ _ c.from_residual.ensures.1) (put-met a.buf.now a.at t _ (put-cursor a.buf.now a.at t _ e))

pub returns-in_err-room_fault : goal.returns-in_err-room_fault
returns-in_err-room_fault g c = let a = c.args in
    let t : List ℕ = mark_text a.mark ++ digit_text (hex_digit a.hex_fmt) g.row.BASE a.n in
    let h : a.at ≤ length a.buf.now = cursor-fits a.buf.now a.at (met _ _ (c.in_ok-cursor_fault.ensures a.buf.now refl)) in
    rw (handed _ _ c.from_residual-in_err-room_fault.ensures.1) (put-met a.buf.now a.at t _ (c.in_err-room_fault.ensures a.buf.now t a.at h refl (sym c.requires.whole)))

pub overflow_add-end : goal.overflow_add-end
overflow_add-end g c = let a = c.args in
    let t : List ℕ = digit_text (hex_digit a.hex_fmt) g.row.BASE a.n in
    let fits = prefixed a.buf.now a.at (mark_text a.mark) t c.requires.whole (c.in_ok-cursor_fault.ensures a.buf.now refl) (λ h. c.in_ok-room_fault.ensures a.buf.now _ a.at h refl (sym c.requires.whole)) in
    let h = fits.room in omega arith

pub put_mark-requires : goal.put_mark-requires
put_mark-requires g c = let a = c.args in
    let t : List ℕ = digit_text (hex_digit a.hex_fmt) g.row.BASE a.n in
    let fits = prefixed a.buf.now a.at (mark_text a.mark) t c.requires.whole (c.in_ok-cursor_fault.ensures a.buf.now refl) (λ h. c.in_ok-room_fault.ensures a.buf.now _ a.at h refl (sym c.requires.whole)) in
    fits.prefix

pub lay_digits-requires-clause-room : goal.lay_digits-requires-clause-room
lay_digits-requires-clause-room g c = let a = c.args in
    let t : List ℕ = digit_text (hex_digit a.hex_fmt) g.row.BASE a.n in
    let fits = prefixed a.buf.now a.at (mark_text a.mark) t c.requires.whole (c.in_ok-cursor_fault.ensures a.buf.now refl) (λ h. c.in_ok-room_fault.ensures a.buf.now _ a.at h refl (sym c.requires.whole)) in
    rw c.put_mark.ensures fits.digits

pub returns : goal.returns
returns g c = let a = c.args in
    let t : List ℕ = digit_text (hex_digit a.hex_fmt) g.row.BASE a.n in
    let fits = prefixed a.buf.now a.at (mark_text a.mark) t c.requires.whole (c.in_ok-cursor_fault.ensures a.buf.now refl) (λ h. c.in_ok-room_fault.ensures a.buf.now _ a.at h refl (sym c.requires.whole)) in
    rw (c.lay_digits.ensures, c.put_mark.ensures) fits.done
