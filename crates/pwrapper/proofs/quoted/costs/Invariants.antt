-- the sum of the first bytes, of which none costs more than 3
use Rattle.std.specs.Prelude.{◌*◌, ◌≤◌}
use Rattle.pwrapper.proofs.Escapes.{Passed}
use Rattle.pwrapper.proofs.quoted.costs.Given as goal

abbrev pub invariant-loop-b : goal.invariant-loop-b
invariant-loop-b l = Passed l.s l.sum l.b-index × (l.sum ≤ 3 * l.b-index)
