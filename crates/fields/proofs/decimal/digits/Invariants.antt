-- The rest, read on from here, gives the number that all digits make.
use Rattle.std.proofs.Common.{◌≡◌, ◌≤◌, drop}
use Rattle.fields.specs.Decimal.{up_to, read_from}
use Rattle.fields.proofs.decimal.digits.Given as goal

abbrev pub invariant-loop-b : goal.invariant-loop-b
invariant-loop-b l = (l.n ≤ l.most) × (up_to l.most (read_from l.n (drop l.b-index l.s)) ≡ up_to l.most (read_from 0 l.s))
