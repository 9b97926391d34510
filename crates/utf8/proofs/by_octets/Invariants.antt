-- `utf8::by_octets` meets its contract. The loop's invariant: the text is well formed if and only if the rest has what has to follow.
use mathlib.Core.Option.{some}
use mathlib.Core.Path.{◌≡◌}
use Prim.Native.Nat.{◌≤◌, ◌-◌}
use lib.ListN.{length, drop}
use Rattle.utf8.specs.Expected.{ranges}
use Rattle.utf8.specs.Utf8.{continues, well_formed}
use Rattle.utf8.proofs.by_octets.Given as goal

abbrev pub invariant-loop-i : goal.invariant-loop-i
invariant-loop-i l = (l.i ≤ length l.s) × (continues (drop l.i l.s) (some (ranges l.expected)) ≡ well_formed l.s)

abbrev pub decreases-loop-i : goal.decreases-loop-i
decreases-loop-i l = length l.s - l.i
