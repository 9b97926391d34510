use mathlib.Core.Bool.{false}
use mathlib.Core.Path.{refl}
use lib.IntN.{pos}
use borrow.Author.Rules.{rules}
use mir.Syntax.{w64}
use mir.Val.{SFits}
use mir.ValLaws.{to_z-of_z}
use Rattle.std.specs.Int.RustNames.{unsigned_abs}
use Rattle.pwrapper.specs.Number.{twos_complement}
use Rattle.std.specs.Int.{is_negative}
use Rattle.pwrapper.proofs.Lengths.{signed-text}
use Rattle.value_writes.specs.Values.{form_of, bits_of}
use Rattle.value_writes.proofs.ValueLaws.{integer-text}
use Rattle.value_writes.proofs.parts_of.Goals as goal

pub returns-in-Unsigned : goal.returns-in-Unsigned
returns-in-Unsigned c = let a = c.args in
    let n = c.in-Unsigned.n in
    rw c.in-Unsigned.is (integer-text (form_of a.form) a.flags (bits_of c.in-Unsigned.field-0) (pos n) (record { flags = c.flags_for-heeded.result; is_negative = false; n = n; bits = n }) c.flags_for-heeded.ensures refl refl)

pub returns-in-Signed : goal.returns-in-Signed
returns-in-Signed c = let a = c.args in
    let z = c.in-Signed.z in
    let k = bits_of c.in-Signed.width in
    let f : SFits w64 z = search rules in
    rw (c.in-Signed.is, c.unsigned_abs.ensures.value, c.bits_at.ensures, to_z-of_z w64 z f) (integer-text (form_of a.form) a.flags k z (record { flags = c.flags_for-heeded.result; is_negative = is_negative z; n = unsigned_abs z; bits = twos_complement k z }) c.flags_for-heeded.ensures (signed-text z) refl)
