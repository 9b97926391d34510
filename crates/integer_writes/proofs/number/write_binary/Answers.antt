use Rattle.std.proofs.Common.{lit≤}
use Rattle.pwrapper.proofs.Digits.{same_digits}
use Rattle.integer_writes.proofs.number.write_binary.Goals as goal

pub write_digits-requires-clause-whole : goal.write_digits-requires-clause-whole
write_digits-requires-clause-whole c = rw (c.prefix_of.ensures, same_digits c.args.flags.hex_fmt 2 (lit≤ tt) (lit≤ tt) c.args.n) c.binary_len-len.ensures

pub returns : goal.returns
returns c = rw (c.prefix_of.ensures, same_digits c.args.flags.hex_fmt 2 (lit≤ tt) (lit≤ tt) c.args.n) at c.write_digits.ensures
