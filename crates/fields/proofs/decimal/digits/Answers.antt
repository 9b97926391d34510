use Rattle.std.proofs.lemmas.Grind.{common_steps}
use Rattle.fields.specs.Decimal.{read_from}
use Rattle.std.proofs.Common.{sym, ◌∙◌, arith}
use Rattle.fields.proofs.Numbers.{no_digit, digit_next, digit_above}
use Rattle.fields.proofs.decimal.digits.Goals as goal

pub returns-then-not-is_ascii_digit : goal.returns-then-not-is_ascii_digit
returns-then-not-is_ascii_digit c =
    no_digit c.args.s.now c.args.most _ _ c.loop-b-test.true c.loop-b.invariant.1 (sym c.is_ascii_digit.ensures.value ∙ c.if-not-is_ascii_digit.true)

pub returns-in_err-checked_mul : goal.returns-in_err-checked_mul
returns-in_err-checked_mul c =
    c.from_residual.ensures
    ∙ digit_above c.args.s.now c.args.most _ _ c.loop-b-test.true c.loop-b.invariant.1 (sym c.is_ascii_digit.ensures.value ∙ c.if-not-is_ascii_digit.false) (omega (arith, c.in_err-checked_mul.ensures))

pub returns-in_err-n : goal.returns-in_err-n
returns-in_err-n c =
    c.from_residual-in_err-n.ensures
    ∙ digit_above c.args.s.now c.args.most _ _ c.loop-b-test.true c.loop-b.invariant.1 (sym c.is_ascii_digit.ensures.value ∙ c.if-not-is_ascii_digit.false) (omega (arith, c.in_ok-checked_mul.ensures, c.in_err-n.ensures))

pub returns-then-most-n : goal.returns-then-most-n
returns-then-most-n c =
    digit_above c.args.s.now c.args.most _ _ c.loop-b-test.true c.loop-b.invariant.1 (sym c.is_ascii_digit.ensures.value ∙ c.if-not-is_ascii_digit.false) (omega (arith, c.in_ok-checked_mul.ensures, c.in_ok-n.ensures))

pub loop-b-preserved : goal.loop-b-preserved
loop-b-preserved c = (
  omega arith,
  digit_next c.args.s.now c.args.most _ _ c.loop-b-test.true c.loop-b.invariant.1 c.in_ok-n.n (sym c.is_ascii_digit.ensures.value ∙ c.if-not-is_ascii_digit.false) (omega (arith, c.in_ok-checked_mul.ensures, c.in_ok-n.ensures)),
)

pub returns : goal.returns
unfolding read_from
returns c = grind (arith, common_steps)
