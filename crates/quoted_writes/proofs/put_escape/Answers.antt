use mathlib.Core.Path.{◌≡◌, sym, ◌∙◌}
use Prim.Native.Nat.{◌+◌, suc, ◌/◌, ◌%◌}
use native.Mathlib.Omega.{arith}
use Rattle.formatting.specs.declared.escaping.Escape.TheVariants.{Hexadecimal}
use Rattle.quoted_writes.proofs.Quoting.{stored}
use Rattle.quoted_writes.proofs.put_escape.Goals as goal

pub returns-in-Hexadecimal : goal.returns-in-Hexadecimal
returns-in-Hexadecimal c = let a = c.args in
    let e₁ : a.w + 1 ≡ suc a.w = omega arith in
    let e₂ : a.w + 2 ≡ suc (suc a.w) = omega arith in
    let e₃ : a.w + 3 ≡ suc (suc (suc a.w)) = omega arith in
    let d₁ : a.b / 16 % 16 ≡ a.b / 16 = omega arith in
    let d₂ : a.b % 16 % 16 ≡ a.b % 16 = omega arith in
    let h = stored a.buf.now a.w a.b Hexadecimal (sym c.escape_of.ensures ∙ c.in-Hexadecimal.is) c.requires in
    rw (e₁, e₂, e₃, c.hex_as_ascii.ensures, c.hex_as_ascii-in-Hexadecimal.ensures, d₁, d₂) h
