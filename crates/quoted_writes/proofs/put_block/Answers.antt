use native.Mathlib.Numerals.{add-one}
use native.Mathlib.Omega.{arith}
use lib.Seq.{paste-suc}
use Rattle.quoted_writes.proofs.put_block.Goals as goal

pub loop-j-preserved : goal.loop-j-preserved
loop-j-preserved c = let a = c.args in
    let l = c.loop-j in
    rw (l.invariant, add-one l.j) (paste-suc a.buf.now a.at a.block l.j 0 (omega arith) (omega arith))
