use Rattle.std.proofs.Common.{lit≤}
use Rattle.formatting.specs.declared.flags.HexFormatting.TheVariants.{Upper}
use Rattle.pwrapper.proofs.Digits.{same_digits}
use Rattle.integer_writes.proofs.number.write_decimal.Goals as goal

pub write_digits-requires-clause-whole : goal.write_digits-requires-clause-whole
write_digits-requires-clause-whole c = rw (c.minus_of.ensures, same_digits Upper 10 (lit≤ tt) (lit≤ tt) c.args.n) c.decimal_len-len.ensures

pub returns : goal.returns
returns c = rw (c.minus_of.ensures, same_digits Upper 10 (lit≤ tt) (lit≤ tt) c.args.n) at c.write_digits.ensures
