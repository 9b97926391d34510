use Rattle.std.proofs.Common.{◌≡◌, ◌<◌, ◌^◌, length, arith, w64}
use Rattle.std.specs.Prelude.{get_or}
use Rattle.std.proofs.lemmas.Grind.{common_steps}
use mir.Facts.{to_z_pos}
use Rattle.value_writes.specs.Values.{bits_of}
use Rattle.sheet_line.proofs.Decimals.{greatest_half, signed-plain}
use Rattle.sheet_line.proofs.numbers.signed_op.Goals as goal

pub returns-in_ok-n-in_default : goal.returns-in_ok-n-in_default
returns-in_ok-n-in_default c =
    let n = c.in_ok-n-in_default.n in
    let plain : 0 < length c.args.s.now → get_or c.args.s.now 0 0 ≡ 45 → ⊥ = grind arith in
    let fits : n < 2 ^ 63 = grind (arith, common_steps) in
    rw (signed-plain (bits_of c.args.width) c.args.s.now plain, ← greatest_half c.args.width _ c.greatest-half.ensures, ← c.in_ok-n-in_default.ensures, to_z_pos w64 {n = n} fits)
