use Rattle.quoted_writes.specs.Marked.{CopiesBare}
use Rattle.quoted_writes.proofs.put_bare.Given as goal

abbrev pub invariant-loop-i : goal.invariant-loop-i
invariant-loop-i l = CopiesBare l.initial.buf l.at l.s l.i l.buf
