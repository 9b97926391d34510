use Rattle.std.proofs.Common.{sym}
use Rattle.fields.proofs.Pairs.{bytes-length, read_not, read_done}
use Rattle.fields.proofs.hex.from_hex.Goals as goal

pub returns-then-not-is_hex : goal.returns-then-not-is_hex
returns-then-not-is_hex c = read_not c.args.out.now c.args.s.now (rw c.is_hex.ensures at c.then-not-is_hex.either)

pub fill-requires : goal.fill-requires
fill-requires c = (sym c.if-not-is_hex.ensures, rw bytes-length c.if-out-len.false)

pub returns : goal.returns
returns c = rw c.fill.ensures (read_done c.args.out.now c.args.s.now (sym c.if-not-is_hex.ensures) c.if-out-len.false)
