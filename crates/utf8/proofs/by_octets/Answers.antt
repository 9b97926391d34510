-- `utf8::by_octets` meets its contract. The loop's invariant: the text is well formed if and only if the rest has what has to follow.
use Rattle.std.proofs.lemmas.Grind.{common_steps}
use Rattle.utf8.specs.Utf8.{continues}
use native.Mathlib.Omega.{arith}
use Rattle.utf8.proofs.by_octets.Goals as goal

pub returns : goal.returns
unfolding continues
returns c = grind (arith, common_steps)
