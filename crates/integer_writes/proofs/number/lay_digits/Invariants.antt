use Prim.Native.Nat.{◌-◌}
use lib.ListN.{length}
use Rattle.formatting.specs.Hex.{hex_digit}
use Rattle.pwrapper.specs.Digits.{digit_text}
use Rattle.integer_writes.proofs.Laying.{Laying}
use Rattle.integer_writes.proofs.number.lay_digits.Given as goal

abbrev pub invariant-loop-rest : goal.invariant-loop-rest
invariant-loop-rest g l = Laying (hex_digit l.hex_fmt) g.row.BASE l.initial.buf (l.end - length (digit_text (hex_digit l.hex_fmt) g.row.BASE l.n)) l.n l.buf l.at l.rest

abbrev pub decreases-loop-rest : goal.decreases-loop-rest
decreases-loop-rest g l = l.at
