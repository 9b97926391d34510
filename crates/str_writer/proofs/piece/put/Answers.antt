use mathlib.Core.Path.{refl}
use native.Mathlib.Omega.{arith}
use Rattle.str_writer.proofs.Outcomes.{put-done}
use Rattle.str_writer.proofs.Judging.{handed, put-met, put-fits}
use Rattle.str_writer.proofs.piece.put.Goals as goal

pub returns-in_err-piece_fault : goal.returns-in_err-piece_fault
returns-in_err-piece_fault c = let a = c.args in
    rw (handed _ _ c.from_residual.ensures.1) (put-met a.buf.now a.at a.s.now _ (c.in_err-piece_fault.ensures a.buf.now a.s.now refl refl))

pub copy_at-requires : goal.copy_at-requires
copy_at-requires c = let a = c.args in
    put-fits a.buf.now a.at a.s.now _ (c.in_ok-piece_fault.ensures a.buf.now a.s.now refl refl)

pub returns : goal.returns
returns c = let a = c.args in
    let h = put-fits a.buf.now a.at a.s.now _ (c.in_ok-piece_fault.ensures a.buf.now a.s.now refl refl) in
    rw c.copy_at.ensures (put-done a.buf.now a.at a.s.now (omega arith) (omega arith))
