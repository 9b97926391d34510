use mathlib.Core.Path.{◌∙◌}
use Prim.Native.Nat.{ℕ}
use lib.ListN.{replicate, length-replicate}
use Rattle.str_writer.proofs.Judging.{handed, met, cursor-fits, put-cursor}
use Rattle.str_writer.proofs.faults.piece_fault.Goals as goal

pub returns-in_err-cursor_fault : goal.returns-in_err-cursor_fault
returns-in_err-cursor_fault c = λ b t e k. handed _ _ c.from_residual.ensures.1 ∙ put-cursor b c.args.at t _ (met _ _ (c.in_err-cursor_fault.ensures b e))

pub overflow_sub-len : goal.overflow_sub-len
overflow_sub-len c =
    let e = length-replicate {A = ℕ} c.args.len 0 in
    rw e at (cursor-fits (replicate c.args.len 0) c.args.at (met _ _ (c.in_ok-cursor_fault.ensures _ e)))
