use mathlib.Core.Path.{◌≡◌}
use lib.Seq.{paste}
use Rattle.str_writer.proofs.piece.copy_many.Given as goal

abbrev pub invariant-loop-i : goal.invariant-loop-i
invariant-loop-i l = l.buf ≡ paste l.initial.buf l.at l.s l.i
