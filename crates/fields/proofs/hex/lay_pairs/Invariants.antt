-- The pairs of the rest, laid from here on, give the buffer with all pairs.
use mathlib.Core.Path.{◌≡◌}
use Prim.Native.Nat.{◌+◌, ◌*◌, ◌≤◌}
use lib.ListN.{length, drop}
use Rattle.str_writer.specs.Write.{splice}
use Rattle.fields.specs.Hex.{hex_pairs}
use Rattle.fields.proofs.hex.lay_pairs.Given as goal

abbrev pub invariant-loop-i : goal.invariant-loop-i
invariant-loop-i l = (l.at + 2 * length l.s ≤ length l.buf) × (length l.buf ≡ length l.initial.buf)
    × (splice l.buf (l.at + 2 * l.i) (hex_pairs (drop l.i l.s)) ≡ splice l.initial.buf l.at (hex_pairs l.s))
