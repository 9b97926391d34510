-- the bytes, the marks, and what the escapes of the first bytes add
use Rattle.std.specs.Prelude.{◌≡◌, ℕ, ◌+◌, ◌*◌, ◌≤◌, length}
use Rattle.pwrapper.proofs.Escapes.{Passed}
use Rattle.pwrapper.proofs.quoted.few_len.Given as goal

abbrev pub invariant-loop-b : goal.invariant-loop-b
invariant-loop-b l = (more : ℕ) × (l.len ≡ length l.s + 2 + more) × Passed l.s more l.b-index × (more ≤ 3 * l.b-index)
