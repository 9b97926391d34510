use native.Mathlib.Omega.{arith}
use lib.Dec.{lit≤}
use Rattle.formatting.specs.Hex.{hex_digit}
use Rattle.pwrapper.proofs.Lengths.{Prefixed, prefixed}
use Rattle.pwrapper.proofs.radix.hexadecimal_len.Goals as goal

pub overflow_add-result : goal.overflow_add-result
overflow_add-result c =
    let len : Prefixed (hex_digit c.args.flags.hex_fmt) 16 c.args.n 120 c.args.flags.is_alternate c.hex_count-len.result = prefixed (hex_digit c.args.flags.hex_fmt) 16 c.args.n 120 c.args.flags.is_alternate c.hex_count-len.result (lit≤ tt) c.hex_count-len.ensures (omega arith) in
    omega (arith, len.room)

pub returns-then-flags : goal.returns-then-flags
returns-then-flags c =
    let len : Prefixed (hex_digit c.args.flags.hex_fmt) 16 c.args.n 120 c.args.flags.is_alternate c.hex_count-len.result = prefixed (hex_digit c.args.flags.hex_fmt) 16 c.args.n 120 c.args.flags.is_alternate c.hex_count-len.result (lit≤ tt) c.hex_count-len.ensures (omega arith) in
    len.alternate c.if-flags.true

pub returns-else-flags : goal.returns-else-flags
returns-else-flags c =
    let len : Prefixed (hex_digit c.args.flags.hex_fmt) 16 c.args.n 120 c.args.flags.is_alternate c.hex_count-len.result = prefixed (hex_digit c.args.flags.hex_fmt) 16 c.args.n 120 c.args.flags.is_alternate c.hex_count-len.result (lit≤ tt) c.hex_count-len.ensures (omega arith) in
    len.bare c.if-flags.false
