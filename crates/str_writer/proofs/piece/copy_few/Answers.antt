use native.Mathlib.Omega.{arith}
use Rattle.str_writer.proofs.Splice.{few_four}
use Rattle.str_writer.proofs.piece.copy_few.Goals as goal

pub returns : goal.returns
returns c = let a = c.args in
    few_four a.buf.now a.at a.s.now (omega (arith, c.if-n-lt4.false, c.if-n-lt3.false, c.if-n-lt2.false, c.if-n-lt1.false)) (omega arith)
