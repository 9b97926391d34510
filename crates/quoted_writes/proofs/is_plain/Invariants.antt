use mathlib.Core.Path.{◌≡◌}
use mathlib.Core.Bool.{◌&&◌}
use lib.ListN.{take}
use Rattle.quoted_writes.specs.Marked.{all_bare}
use Rattle.quoted_writes.proofs.is_plain.Given as goal

abbrev pub invariant-loop-b : goal.invariant-loop-b
invariant-loop-b l = l.low && l.high ≡ all_bare (take l.b-index l.fn.block)
