-- the bytes, the marks, and what the escapes of the first bytes add
use Rattle.std.specs.Prelude.{◌≡◌, ◌+◌, ◌≤◌, length, get_or}
use native.Mathlib.Omega.{arith}
use Rattle.formatting.specs.Escape.{escape_of, escape_text}
use Rattle.pwrapper.proofs.Escapes.{none_passed, byte_passed, all-passed}
use Rattle.pwrapper.proofs.quoted.few_len.Goals as goal
use Rattle.pwrapper.proofs.quoted.few_len.Goals.{in-Bare, in-Backslash, in-Hexadecimal}

pub loop-b-init : goal.loop-b-init
loop-b-init c = (0, omega arith, none_passed _, omega arith)

pub loop-b-preserved : goal.loop-b-preserved
loop-b-preserved c =
    let l = c.loop-b in
    let more : let b = get_or c.args.s.now c.loop-b.b-index 0 in (length (escape_text (escape_of b) b) ≡ c.match-escape_of.len + 1) × (c.match-escape_of.len ≤ 3) = elim c.match-escape_of.branch [
      | in-Bare w ↦ rw (w.len-is, ← w.in-Bare.ensures) (omega arith)
      | in-Backslash w ↦ rw (w.len-is, ← w.in-Backslash.ensures) (omega arith)
      | in-Hexadecimal w ↦ rw (w.len-is, ← w.in-Hexadecimal.ensures) (omega arith)
    ] in
    (l.invariant.0 + c.match-escape_of.len, omega arith, byte_passed l.invariant.2 _ c.loop-b-test.true (omega (arith, more.0)), omega (arith, more.1))

pub returns : goal.returns
returns c = omega (arith, all-passed c.loop-b.invariant.2 c.loop-b-test.false)
