use native.Mathlib.Omega.{arith}
use lib.Dec.{lit≤}
use Rattle.pwrapper.specs.Digits.{dec_digit}
use Rattle.pwrapper.proofs.Lengths.{Prefixed, prefixed}
use Rattle.pwrapper.proofs.radix.binary_len.Goals as goal

pub overflow_add-result : goal.overflow_add-result
overflow_add-result c =
    let len : Prefixed dec_digit 2 c.args.n 98 c.args.flags.is_alternate c.binary_count-len.result = prefixed dec_digit 2 c.args.n 98 c.args.flags.is_alternate c.binary_count-len.result (lit≤ tt) c.binary_count-len.ensures (omega arith) in
    omega (arith, len.room)

pub returns-then-flags : goal.returns-then-flags
returns-then-flags c =
    let len : Prefixed dec_digit 2 c.args.n 98 c.args.flags.is_alternate c.binary_count-len.result = prefixed dec_digit 2 c.args.n 98 c.args.flags.is_alternate c.binary_count-len.result (lit≤ tt) c.binary_count-len.ensures (omega arith) in
    len.alternate c.if-flags.true

pub returns-else-flags : goal.returns-else-flags
returns-else-flags c =
    let len : Prefixed dec_digit 2 c.args.n 98 c.args.flags.is_alternate c.binary_count-len.result = prefixed dec_digit 2 c.args.n 98 c.args.flags.is_alternate c.binary_count-len.result (lit≤ tt) c.binary_count-len.ensures (omega arith) in
    len.bare c.if-flags.false
