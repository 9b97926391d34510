use Rattle.std.proofs.Common.{refl, arith, lit≤}
use Rattle.std.proofs.Math.Nat.{le_trans}
use Rattle.formatting.specs.declared.flags.HexFormatting.TheVariants.{Upper}
use Rattle.pwrapper.proofs.Digits.{same_digits}
use Rattle.pargument.proofs.Laying.{digits_fit, left_of, put, settled}
use Rattle.pargument.proofs.Integer.to_start_array_display.Goals as goal

pub digits-start-requires : goal.digits-start-requires
digits-start-requires c = (omega arith, (omega arith, (le_trans (digits_fit _ _ (omega arith)).1 (lit≤ tt), refl)))

pub overflow_sub-array : goal.overflow_sub-array
overflow_sub-array c = omega (arith, left_of c.digits-start.ensures (digits_fit _ _ (omega arith)).1)

pub overflow_sub-result : goal.overflow_sub-result
overflow_sub-result c = omega (arith, left_of c.digits-start.ensures (digits_fit _ _ (omega arith)).1)

pub returns-then-self : goal.returns-then-self
returns-then-self c =
    let e = put _ (omega (arith, left_of c.digits-start.ensures (digits_fit _ _ (omega arith)).1)) c.digits-start.ensures in
    rw (c.if-self.true, ← same_digits Upper 10 (lit≤ tt) (lit≤ tt)) (settled e)

pub returns : goal.returns
returns c = rw (c.if-self.false, ← same_digits Upper 10 (lit≤ tt) (lit≤ tt)) (settled c.digits-start.ensures)
