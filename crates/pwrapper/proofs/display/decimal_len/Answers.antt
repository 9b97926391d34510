use native.Mathlib.Omega.{arith}
use Rattle.pwrapper.proofs.Lengths.{decimal-64}
use Rattle.pwrapper.proofs.display.decimal_len.Goals as goal

pub with_minus-requires : goal.with_minus-requires
with_minus-requires c = omega (arith, decimal-64 c.args.n c.ranges.n.fits)
