use Rattle.std.proofs.Common.{◌%◌, ◌<◌, arith, mod-eq_of_lt}
use lib.ListN.{length-set}
use Rattle.formatting.specs.Hex.{hex_digit}
use Rattle.integer_writes.proofs.Laying.{laying_start, laying_step, laying_end}
use Rattle.integer_writes.proofs.number.lay_digits.Goals as goal

pub loop-rest-init : goal.loop-rest-init
loop-rest-init g c = laying_start (hex_digit c.args.hex_fmt) g.row.BASE c.requires.base.0 c.args.buf.now c.args.end c.args.n c.requires.room.0 c.requires.room.1

pub shape_of-buf-then-rest-eq0 : goal.shape_of-buf-then-rest-eq0
shape_of-buf-then-rest-eq0 g c = simp length-set c.loop-rest.invariant.same

pub returns-then-rest-eq0 : goal.returns-then-rest-eq0
returns-then-rest-eq0 g c =
    let below : c.loop-rest.rest % g.row.BASE < 16 = omega arith in
    rw (c.hex_as_ascii.ensures, mod-eq_of_lt below) (laying_end (hex_digit c.args.hex_fmt) g.row.BASE c.requires.base.0 c.loop-rest.invariant c.if-rest-eq0.true)

pub loop-rest-preserved : goal.loop-rest-preserved
loop-rest-preserved g c =
    let below : c.loop-rest.rest % g.row.BASE < 16 = omega arith in
    rw (c.hex_as_ascii.ensures, mod-eq_of_lt below) (laying_step (hex_digit c.args.hex_fmt) g.row.BASE c.requires.base.0 c.loop-rest.invariant c.if-rest-eq0.false)
