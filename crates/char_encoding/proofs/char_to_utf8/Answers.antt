use mathlib.Core.Path.{◌≡◌, sym, ◌∙◌}
use mathlib.Core.Bool.{true, false}
use native.Mathlib.Omega.{arith}
use Rattle.utf8.specs.Utf8.{is_scalar}
use Rattle.char_encoding.proofs.Laws.{octets-1, octets-2, octets-3, octets-4, short_scalar, display-char}
use Rattle.char_encoding.proofs.char_to_utf8.Goals as goal

pub returns-then-c-lt128 : goal.returns-then-c-lt128
returns-then-c-lt128 c = let a = c.args.c in
    let e = short_scalar a (omega arith) in
    rw (e, display-char a e, octets-1 a c.if-c-lt128.true)

pub returns-then-c-lt2048 : goal.returns-then-c-lt2048
returns-then-c-lt2048 c = let a = c.args.c in
    let e = short_scalar a c.if-c-lt2048.true in
    rw (e, display-char a e, octets-2 a c.if-c-lt128.false c.if-c-lt2048.true)

pub returns-then-not-is_char : goal.returns-then-not-is_char
returns-then-not-is_char c = let a = c.args.c in
    let e : is_scalar a ≡ false = sym c.is_char.ensures ∙ c.if-not-is_char.true in
    rw e

pub returns-then-c-lt65536 : goal.returns-then-c-lt65536
returns-then-c-lt65536 c = let a = c.args.c in
    let e : is_scalar a ≡ true = sym c.is_char.ensures ∙ c.if-not-is_char.false in
    rw (e, display-char a e, octets-3 a c.if-c-lt2048.false c.if-c-lt65536.true)

pub returns : goal.returns
returns c = let a = c.args.c in
    let e : is_scalar a ≡ true = sym c.is_char.ensures ∙ c.if-not-is_char.false in
    rw (e, display-char a e, octets-4 a c.if-c-lt65536.false)
