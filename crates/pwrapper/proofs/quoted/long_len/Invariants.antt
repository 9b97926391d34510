-- what is counted so far, and the bytes that are left
use Rattle.std.specs.Prelude.{◌≡◌}
use Rattle.std.specs.Slice.Iter.{chunks_exact_rest, chunks_exact_size}
use Rattle.pwrapper.proofs.Escapes.{Turns}
use Rattle.pwrapper.proofs.quoted.long_len.Given as goal

abbrev pub invariant-loop-turn : goal.invariant-loop-turn
invariant-loop-turn l =
    (goal.iterator-loop-turn).can_next l.turn-iterator
    × (goal.iterator-loop-turn).is_finite l.turn-iterator
    × (chunks_exact_size l.turn-iterator ≡ 64)
    × Turns l.s l.rest l.len (chunks_exact_rest l.turn-iterator)
