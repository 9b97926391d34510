use lib.ListN.{length}
use Rattle.quoted_writes.proofs.Quoting.{Left}
use Rattle.quoted_writes.proofs.put_bytes.Given as goal

abbrev pub invariant-loop-b : goal.invariant-loop-b
invariant-loop-b l = Left l.initial.buf l.w l.s l.buf l.at l.rest

abbrev pub decreases-loop-b : goal.decreases-loop-b
decreases-loop-b l = length l.rest
