use mathlib.Core.Path.{sym}
use lib.Count.{leading_le}
use Rattle.pwrapper.specs.Digits.{digits, digits_in}
use Rattle.pwrapper.proofs.Digits.{bits_zero, bits_hex}
use Rattle.pwrapper.proofs.radix.hex_count.Goals as goal

pub overflow_sub-i : goal.overflow_sub-i
overflow_sub-i c = leading_le 64 c.args.n

pub returns-then-i-eq0 : goal.returns-then-i-eq0
unfolding digits digits_in
returns-then-i-eq0 c = rw (bits_zero 64 c.args.n c.ranges.n.fits c.if-i-eq0.true)

pub returns-else-i-eq0 : goal.returns-else-i-eq0
returns-else-i-eq0 c = sym (bits_hex 64 c.args.n c.ranges.n.fits c.if-i-eq0.false)
