use native.Mathlib.Omega.{arith}
use Rattle.char_encoding.specs.Char.{char_display}
use Rattle.char_encoding.proofs.Laws.{told, display-short, low_scalar, debug-some, inner-low, inner-high, marked-length}
use Rattle.char_encoding.proofs.char_debug_len.Goals as goal

pub overflow_add-result : goal.overflow_add-result
overflow_add-result c = rw (told c.args.c _ _ c.in_ok-char_display_len.ensures).1 (omega (arith, display-short c.args.c))

pub returns-then-c-ge128 : goal.returns-then-c-ge128
returns-then-c-ge128 c = let x = c.args.c in
    let t = told x _ _ c.in_ok-char_display_len.ensures in
    rw (t.0, t.1, debug-some x t.0, marked-length 39 (char_display x), inner-high x c.if-c-ge128.true)

pub returns-in-Bare : goal.returns-in-Bare
returns-in-Bare c = let x = c.args.c in
    let e = low_scalar x c.if-c-ge128.false in
    rw (e, debug-some x e, inner-low x c.if-c-ge128.false, ← c.in-Bare.ensures)

pub returns-in-Backslash : goal.returns-in-Backslash
returns-in-Backslash c = let x = c.args.c in
    let e = low_scalar x c.if-c-ge128.false in
    rw (e, debug-some x e, inner-low x c.if-c-ge128.false, ← c.in-Backslash.ensures)

pub returns-in-Hexadecimal : goal.returns-in-Hexadecimal
returns-in-Hexadecimal c = let x = c.args.c in
    let e = low_scalar x c.if-c-ge128.false in
    rw (e, debug-some x e, inner-low x c.if-c-ge128.false, ← c.in-Hexadecimal.ensures)
