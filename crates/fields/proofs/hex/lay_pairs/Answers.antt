use Rattle.std.proofs.lemmas.Grind.{common_steps}
use Rattle.fields.specs.Hex.{hex_pairs}
use Rattle.std.proofs.Common.{◌≡◌, ◌+◌, refl, arith}
use Rattle.fields.proofs.Pairs.{pairs-length}
use Rattle.fields.proofs.hex.lay_pairs.Goals as goal

pub loop-i-init : goal.loop-i-init
loop-i-init c =
    let a = c.args in
    let e : a.at + 0 ≡ a.at = omega arith in
    (omega (arith, pairs-length a.s.now), refl, rw e)

pub loop-i-preserved : goal.loop-i-preserved
unfolding hex_pairs
loop-i-preserved c = grind (arith, common_steps)

pub returns : goal.returns
unfolding hex_pairs
returns c = grind (arith, common_steps)
