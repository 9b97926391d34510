-- the sum of the first bytes, of which none costs more than 3
use native.Mathlib.Omega.{arith}
use Rattle.pwrapper.proofs.Escapes.{none_passed, byte_passed}
use Rattle.pwrapper.proofs.quoted.costs.Goals as goal

pub loop-b-init : goal.loop-b-init
loop-b-init c = (none_passed _, omega arith)

pub loop-b-preserved : goal.loop-b-preserved
loop-b-preserved c = (byte_passed c.loop-b.invariant.0 _ c.loop-b-test.true (omega arith), omega arith)
