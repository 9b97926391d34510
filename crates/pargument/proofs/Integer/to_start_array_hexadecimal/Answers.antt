use Rattle.std.proofs.Common.{refl, arith, lit≤}
use Rattle.std.proofs.Math.Nat.{le_trans}
use Rattle.pargument.proofs.Laying.{digits_fit, left_of, put, settled}
use Rattle.pargument.proofs.Integer.to_start_array_hexadecimal.Goals as goal

pub digits-start-requires : goal.digits-start-requires
digits-start-requires c = (omega arith, (omega arith, (le_trans (digits_fit _ _ (omega arith)).2 (lit≤ tt), refl)))

pub overflow_sub-array : goal.overflow_sub-array
overflow_sub-array c = omega (arith, left_of c.digits-start.ensures (digits_fit _ _ (omega arith)).2)

pub overflow_sub-array-then-flags : goal.overflow_sub-array-then-flags
overflow_sub-array-then-flags c = omega (arith, left_of c.digits-start.ensures (digits_fit _ _ (omega arith)).2)

pub overflow_sub-result : goal.overflow_sub-result
overflow_sub-result c = omega (arith, left_of c.digits-start.ensures (digits_fit _ _ (omega arith)).2)

pub returns-then-flags : goal.returns-then-flags
returns-then-flags c =
    let left = left_of c.digits-start.ensures (digits_fit _ _ (omega arith)).2 in
    let e = put _ (omega (arith, left)) (put _ (omega (arith, left)) c.digits-start.ensures) in
    rw (c.if-flags.true, ← c.bits.ensures) (settled e)
