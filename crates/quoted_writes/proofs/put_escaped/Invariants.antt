use lib.ListN.{length}
use Rattle.quoted_writes.proofs.Quoting.{Left}
use Rattle.quoted_writes.proofs.put_escaped.Given as goal

abbrev pub invariant-loop-block : goal.invariant-loop-block
invariant-loop-block l = Left l.initial.buf l.w l.s l.buf l.at l.rest

abbrev pub decreases-loop-block : goal.decreases-loop-block
decreases-loop-block l = length l.rest
