use mathlib.Core.Path.{◌≡◌}
use Prim.Native.Nat.{◌/◌, ◌%◌, ◌<◌}
use native.Mathlib.Omega.{arith}
use Rattle.char_encoding.proofs.Laws.{inner-high, inner-low, low_scalar}
use Rattle.char_encoding.proofs.char_inner.Goals.{in-Bare, in-Backslash, in-Hexadecimal}
use Rattle.char_encoding.proofs.char_inner.Goals as goal

pub returns-then-c-ge128 : goal.returns-then-c-ge128
returns-then-c-ge128 c = rw (c.char_to_utf8.ensures, inner-high c.args.c c.if-c-ge128.true)

pub returns : goal.returns
returns c = let x = c.args.c in
    let k : x < 128 = c.if-c-ge128.false in
    let high : x / 16 % 16 ≡ x / 16 = omega arith in
    let low : x % 16 % 16 ≡ x % 16 = omega arith in
    rw (low_scalar x k, inner-low x k, ← c.escape_of.ensures) (elim c.match-escape_of.branch [
      | in-Bare w ↦ rw (w.in-Bare.is, w.len-is)
      | in-Backslash w ↦ rw (w.in-Backslash.is, w.len-is)
      | in-Hexadecimal w ↦ rw (w.in-Hexadecimal.is, w.len-is, w.hex_as_ascii-high.ensures, w.hex_as_ascii-low.ensures, high, low)
    ])
