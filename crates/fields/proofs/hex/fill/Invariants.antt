-- The pairs of the rest are stored from here on.
use Rattle.std.proofs.Common.{true, ◌≡◌, ◌+◌, ◌/◌, ◌≤◌, length}
use Rattle.str_writer.specs.Write.{splice}
use Rattle.fields.specs.Hex.{is_hex, hex_bytes}
use Rattle.fields.proofs.hex.fill.Given as goal

abbrev pub invariant-loop-i : goal.invariant-loop-i
invariant-loop-i l =
    let rest = l.i-iterator.iter.rest.now in
    (goal.iterator-loop-i).can_next l.i-iterator × (goal.iterator-loop-i).is_finite l.i-iterator × (l.i-iterator.iter.size ≡ 2) × (is_hex rest ≡ true)
    × (l.i-iterator.count + length rest / 2 ≤ length l.out) × (length l.out ≡ length l.initial.out)
    × (splice l.out l.i-iterator.count (hex_bytes rest) ≡ splice l.initial.out 0 (hex_bytes l.s))
