use Rattle.formatting.specs.Hex.{hex_digit}
use Rattle.pargument.proofs.Laying.{Laying}
use Rattle.pargument.proofs.StartAndArray.digits.Given as goal

abbrev pub invariant-loop-rest : goal.invariant-loop-rest
invariant-loop-rest g l = Laying (hex_digit l.hex_fmt) g.row.BASE g.row.N l.n l.array l.at l.rest

abbrev pub decreases-loop-rest : goal.decreases-loop-rest
decreases-loop-rest g l = l.at
