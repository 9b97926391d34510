use mathlib.Core.Path.{◌≡◌, ◌∙◌}
use native.Mathlib.Omega.{arith}
use Rattle.std.specs.Prelude.{length}
use Rattle.pwrapper.specs.Number.{decimal}
use Rattle.pwrapper.proofs.Lengths.{decimal-64, signed-length}
use Rattle.pwrapper.proofs.display.compute_display_len.Goals as goal
use Rattle.pwrapper.proofs.display.compute_display_len.Goals.{then-BITS-lt64, else-BITS-lt64}

pub with_minus-requires : goal.with_minus-requires
with_minus-requires g c =
    let digits : c.if-BITS-lt64.digits ≡ length (decimal c.absolute_value-n.result) = elim c.if-BITS-lt64.branch [
      | then-BITS-lt64 w ↦ w.digits-is ∙ w.number_of_digits_32-digits.ensures
      | else-BITS-lt64 w ↦ w.digits-is ∙ w.number_of_digits-digits.ensures
    ] in
    omega (arith, digits, decimal-64 c.absolute_value-n.result c.absolute_value-n.type_inv)

pub returns : goal.returns
returns g c =
    let digits : c.if-BITS-lt64.digits ≡ length (decimal c.absolute_value-n.result) = elim c.if-BITS-lt64.branch [
      | then-BITS-lt64 w ↦ w.digits-is ∙ w.number_of_digits_32-digits.ensures
      | else-BITS-lt64 w ↦ w.digits-is ∙ w.number_of_digits-digits.ensures
    ] in
    rw (c.with_minus.ensures, c.is_negative.ensures) (signed-length _ _ (rw c.absolute_value-n.ensures at digits))
