use mathlib.Core.Path.{refl, sym, ◌∙◌}
use Prim.Native.Nat.{◌-◌, ◌≤◌}
use native.Mathlib.Omega.{arith}
use lib.ListN.{length}
use borrow.Author.Tests.{leb-true, leb-false}
use Rattle.formatting.specs.Escape.{quoted}
use Rattle.str_writer.proofs.Outcomes.{put-short}
use Rattle.str_writer.proofs.Judging.{handed, met, cursor-fits, put-cursor, put-met}
use Rattle.quoted_writes.proofs.Quoting.{escaped_long, quoted-length, writes_before, put-writes}
use Rattle.quoted_writes.proofs.put_quoted.Goals as goal

pub returns-in_err-cursor_fault : goal.returns-in_err-cursor_fault
returns-in_err-cursor_fault c = let a = c.args in
    let t = quoted a.s.now in
    let e = met _ _ (c.in_err-cursor_fault.ensures a.buf.now refl) in
    rw (handed _ _ c.from_residual.ensures.1) (put-met a.buf.now a.at t _ (put-cursor a.buf.now a.at t _ e))

pub returns-then-room-ge-SHORT_ROOM : goal.returns-then-room-ge-SHORT_ROOM
returns-then-room-ge-SHORT_ROOM c = let a = c.args in
    let p = c.put_short in
    let h : a.at ≤ length a.buf.now = cursor-fits a.buf.now a.at (met _ _ (c.in_ok-cursor_fault.ensures a.buf.now refl)) in
    put-writes a.buf.now a.at (quoted a.s.now) p.result p.new.buf h (omega (arith, quoted-length a.s.now, (escaped_long a.s.now).1)) p.ensures

pub returns-then-not-fits : goal.returns-then-not-fits
returns-then-not-fits c = let a = c.args in
    let h : a.at ≤ length a.buf.now = cursor-fits a.buf.now a.at (met _ _ (c.in_ok-cursor_fault.ensures a.buf.now refl)) in
    put-short a.buf.now a.at (quoted a.s.now) h (leb-false _ _ (sym c.fits.ensures ∙ c.if-not-fits.true))

pub returns : goal.returns
returns c = let a = c.args in
    let p = c.put_rest in
    let h : a.at ≤ length a.buf.now = cursor-fits a.buf.now a.at (met _ _ (c.in_ok-cursor_fault.ensures a.buf.now refl)) in
    let r : length (quoted a.s.now) ≤ length a.buf.now - a.at = leb-true _ _ (sym c.fits.ensures ∙ c.if-not-fits.false) in
    put-writes a.buf.now a.at (quoted a.s.now) p.result p.new.buf h r (writes_before a.buf.now a.at 34 _ p.result p.new.buf (omega (arith, quoted-length a.s.now)) p.ensures)
