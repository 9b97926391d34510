use mathlib.Core.Path.{◌≡◌}
use lib.Seq.{paste}
use Rattle.quoted_writes.proofs.put_block.Given as goal

abbrev pub invariant-loop-j : goal.invariant-loop-j
invariant-loop-j l = l.buf ≡ paste l.initial.buf l.at l.fn.block l.j
