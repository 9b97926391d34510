-- every byte passed is below 80
use Rattle.std.proofs.Common.{ℕ, ◌<◌, slice_index}
use Rattle.utf8.proofs.is_ascii.Given as goal

abbrev pub invariant-loop-b : goal.invariant-loop-b
invariant-loop-b l = (k : ℕ) → k < l.b-index → slice_index l.s k < 0x80
