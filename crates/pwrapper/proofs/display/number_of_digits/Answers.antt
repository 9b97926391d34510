use Rattle.std.proofs.Common.{◌≡◌, ◌+◌, length, arith, lit≤}
use native.Mathlib.Nat.{pow-succ'}
use Rattle.pwrapper.specs.Digits.{digits, dec_digit}
use Rattle.pwrapper.proofs.Digits.{digits_between, text-length}
use Rattle.pwrapper.proofs.Lengths.{decimal-one}
use Rattle.pwrapper.proofs.display.number_of_digits.Goals as goal

pub returns-in-Some : goal.returns-in-Some
returns-in-Some c =
    let between : length (digits 10 c.args.n) ≡ c.in-Some.exponent + 1 = digits_between 10 (lit≤ tt) c.in-Some.exponent c.args.n c.in-Some.ensures.power_le (rw (pow-succ' 10 c.in-Some.exponent) c.in-Some.ensures.next_power_gt) in
    omega (arith, text-length 10 (lit≤ tt) dec_digit c.args.n)

pub returns-in-None : goal.returns-in-None
returns-in-None c = omega (arith, decimal-one c.args.n (omega (arith, c.in-None.ensures.none)))
