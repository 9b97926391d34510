use mathlib.Core.Path.{refl}
use Rattle.str_writer.proofs.Judging.{handed, met, cursor-fits, put-cursor, put-met}
use Rattle.fields.specs.Hex.{hex_pairs}
use Rattle.fields.proofs.Pairs.{pairs-full, pairs_fit, pairs-done}
use Rattle.fields.proofs.hex.put_hex.Goals as goal

pub returns-in_err-cursor_fault : goal.returns-in_err-cursor_fault
returns-in_err-cursor_fault c = let a = c.args in
    let e = put-cursor a.buf.now a.at (hex_pairs a.s.now) _ (met _ _ (c.in_err-cursor_fault.ensures a.buf.now refl)) in
    rw (handed _ _ c.from_residual.ensures.1) (put-met a.buf.now a.at (hex_pairs a.s.now) _ e)

pub returns-then-buf-at : goal.returns-then-buf-at
returns-then-buf-at c = let a = c.args in
    pairs-full a.buf.now a.at a.s.now (cursor-fits a.buf.now a.at (met _ _ (c.in_ok-cursor_fault.ensures a.buf.now refl))) c.if-buf-at.true

pub lay_pairs-requires : goal.lay_pairs-requires
lay_pairs-requires c = let a = c.args in
    pairs_fit a.buf.now a.at a.s.now (cursor-fits a.buf.now a.at (met _ _ (c.in_ok-cursor_fault.ensures a.buf.now refl))) c.if-buf-at.false

pub returns : goal.returns
returns c = let a = c.args in
    rw c.lay_pairs.ensures (pairs-done a.buf.now a.at a.s.now (cursor-fits a.buf.now a.at (met _ _ (c.in_ok-cursor_fault.ensures a.buf.now refl))) c.if-buf-at.false)
