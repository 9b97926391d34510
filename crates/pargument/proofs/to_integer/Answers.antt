use Rattle.pargument.proofs.IntegerLaws.{below-zero}
use Rattle.pargument.proofs.Masks.{shifted-ones}
use Rattle.pargument.proofs.to_integer.Goals as goal

pub returns : goal.returns
returns g c = rw (c.is_negative.ensures, c.absolute_value.ensures, c.BITS.ensures, below-zero, shifted-ones _ g.met.I.PrimitiveInteger.bits_law.1)
