use native.Mathlib.Numerals.{add-one}
use native.Mathlib.Omega.{arith}
use lib.Seq.{paste-suc}
use Rattle.str_writer.proofs.piece.copy_many.Goals as goal

pub loop-i-preserved : goal.loop-i-preserved
loop-i-preserved c = let a = c.args in
    let l = c.loop-i in
    rw (l.invariant, add-one l.i) (paste-suc a.buf.now a.at a.s.now l.i 0 (omega arith) (omega arith))
