use Rattle.std.proofs.Common.{arith, ap, ◌∙◌}
use Rattle.formatting.specs.Hex.{hex_digit}
use Rattle.pargument.proofs.Laying.{laying_place, laying_step, laying_end}
use Rattle.pargument.proofs.StartAndArray.digits.Goals as goal

pub overflow_sub-at : goal.overflow_sub-at
overflow_sub-at g c = laying_place c.requires.base.0 c.loop-rest.invariant

pub bounds-array-at : goal.bounds-array-at
bounds-array-at g c = omega (arith, laying_place c.requires.base.0 c.loop-rest.invariant)

pub loop-rest-smaller : goal.loop-rest-smaller
loop-rest-smaller g c = omega (arith, laying_place c.requires.base.0 c.loop-rest.invariant)

-- the digit laid is that of the remainder, whatever number below sixteen the code computes it as
pub loop-rest-preserved : goal.loop-rest-preserved
loop-rest-preserved g c = laying_step c.requires.base.0 c.loop-rest.invariant _ (c.hex_as_ascii.ensures ∙ ap (hex_digit c.args.hex_fmt) (omega arith)) c.if-rest-eq0.false

pub returns : goal.returns
returns g c = laying_end c.requires.base.0 c.loop-rest.invariant _ (c.hex_as_ascii.ensures ∙ ap (hex_digit c.args.hex_fmt) (omega arith)) c.if-rest-eq0.true
