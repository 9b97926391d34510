use Rattle.pwrapper.proofs.Lengths.{reached, decimal-reached}
use Rattle.pwrapper.proofs.display.number_of_digits_32.Goals as goal

pub returns : goal.returns
unfolding reached
returns c = rw (c.from.ensures, c.from-2.ensures, c.from-3.ensures, c.from-4.ensures, c.from-5.ensures, c.from-6.ensures, c.from-7.ensures, c.from-8.ensures, c.from-9.ensures) (decimal-reached 9 c.args.n c.if-n-ge10000000000.false)
